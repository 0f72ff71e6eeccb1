-- Keys, and which of them a token was sealed with.
use Rattle.std.specs.Prelude.{◌≡◌, ℕ, ◌≤◌, Bool, true, ◌&&◌, List, [], ◌∷◌, length, ◌++◌, position, Option, Some, None, if◌then◌else◌}
use Rattle.std.specs.List.{find, list_any}
use Rattle.std.specs.Str.{bytes_eq}
use Rattle.sha2.specs.Hashers.{Holds256}
use Rattle.sha2.specs.declared.Sha256.{Sha256}
use Rattle.usp_jws.specs.Letters.{is_kid, is_identity}
use Rattle.usp_jws.specs.Base64url.{b64u}
use Rattle.usp_jws.specs.Hmac.{hmac, key_block, xored}
use Rattle.usp_jws.specs.declared.limits.TheConstants.{MAX_SECRET, MIN_SECRET}

-- a key by its name, its issuer and its secret
pub record KeyValue : Type 0 where
  pub kid : List ℕ
  pub issuer : List ℕ
  pub secret : List ℕ

-- What each key keeps: its parts are within their limits, and its two hashers hold the pads of its secret.
pub record IsKey (kid issuer secret : List ℕ) (inner outer : Sha256) : Type 0 where
  pub named : is_kid kid ≡ true
  pub issued : is_identity issuer ≡ true
  pub strong : (MIN_SECRET ≤ length secret) × (length secret ≤ MAX_SECRET)
  pub inside : Holds256 inner (xored 0x36 (key_block secret))
  pub outside : Holds256 outer (xored 0x5c (key_block secret))

-- the header names no other key
abbrev pub names : Option (List ℕ) → KeyValue → Bool
names None key = true
names (Some kid) key = bytes_eq kid key.kid

-- the key is named, and its MAC over the signed text is the signature
abbrev pub agrees : Option (List ℕ) → List ℕ → List ℕ → KeyValue → Bool
agrees kid signed signature key = names kid key && bytes_eq (b64u (hmac key.secret signed)) signature

-- a key of that name stands among those
abbrev pub has_kid : List KeyValue → List ℕ → Bool
has_kid keys kid = list_any (λ key. bytes_eq key.kid kid) keys

-- the first key of that name, and its place
abbrev pub key_named : List KeyValue → List ℕ → Option KeyValue
key_named keys kid = find (λ key. bytes_eq key.kid kid) keys

abbrev pub place_named : List KeyValue → List ℕ → Option ℕ
place_named keys kid = position (λ key. bytes_eq key.kid kid) keys

-- the place of the first of the keys behind the others whose name an earlier key has
abbrev pub repeat_behind : List KeyValue → List KeyValue → Option ℕ
repeat_behind earlier [] = None
repeat_behind earlier (key ∷ keys) =
    if has_kid earlier key.kid then Some (length earlier) else repeat_behind (earlier ++ key ∷ []) keys

-- the first place whose name an earlier key has
abbrev pub first_repeat : List KeyValue → Option ℕ
first_repeat keys = repeat_behind [] keys
