-- A token whose header and payload are decoded.
use Rattle.std.specs.Prelude.{◌≡◌, ℕ, List}
use Rattle.base64.specs.GeneralPurpose.{IsBytes}
use Rattle.usp_jws.specs.Base64url.{b64u}
use Rattle.usp_jws.specs.Parts.{PartsValue}

-- the parts of a token, and the bytes of the first two
pub record DecodedValue : Type 0 where
  pub parts : PartsValue
  pub header : List ℕ
  pub payload : List ℕ

-- What is kept of these: the parts are the base64url of the bytes.
pub record IsDecoded (parts : PartsValue) (header payload : List ℕ) : Type 0 where
  pub are_bytes : IsBytes header × IsBytes payload
  pub of_header : parts.header ≡ b64u header
  pub of_payload : parts.payload ≡ b64u payload
