-- Nonces.
use Rattle.std.specs.Prelude.{ℕ, List, Bool, ◌&&◌}
use Rattle.std.specs.Str.{bytes_eq}

-- What a token may be used for once: its `jti` (RFC 9246, section 2.1.7) with the content URI.
pub record Nonce : Type 0 where
  pub jti : List ℕ
  pub uri : List ℕ

-- the same `jti` and the same content URI
abbrev pub is_same_nonce : Nonce → Nonce → Bool
is_same_nonce a b = bytes_eq a.jti b.jti && bytes_eq a.uri b.uri
