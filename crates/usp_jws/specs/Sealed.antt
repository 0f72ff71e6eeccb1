-- A sealed token.
use Rattle.std.specs.Prelude.{ℕ, ◌+◌, List, ◌∷◌, ◌++◌, codes}
use Rattle.base64.specs.Rfc4648.{unpadded_len}
use Rattle.usp_jws.specs.Base64url.{b64u}
use Rattle.usp_jws.specs.Compact.{compact}
use Rattle.usp_jws.specs.Dotted.{dot}
use Rattle.usp_jws.specs.Hmac.{hmac}
use Rattle.usp_jws.specs.Keys.{KeyValue}
use Rattle.usp_jws.specs.declared.limits.TheConstants.{DIGEST_LETTERS}

-- {"alg":"HS256","kid":"K"} with the key's name for K
abbrev pub header_text : List ℕ → List ℕ
header_text kid = codes "{\"alg\":\"HS256\",\"kid\":\"" ++ kid ++ codes "\"}"

-- the first two parts with their dot
abbrev pub signed_text : List ℕ → List ℕ → List ℕ
signed_text kid payload = b64u (header_text kid) ++ dot ∷ b64u payload

-- the compact form of the header, the payload and the MAC of the first two parts
unfoldable pub sealed : KeyValue → List ℕ → List ℕ
sealed key payload = compact (header_text key.kid) payload (hmac key.secret (signed_text key.kid payload))

-- how long a token is, by the lengths of the key's name and of the payload. The MAC takes `DIGEST_LETTERS`.
abbrev pub sealed_len : ℕ → ℕ → ℕ
sealed_len kid payload = unpadded_len (kid + 24) + 1 + (unpadded_len payload + 1 + DIGEST_LETTERS)
