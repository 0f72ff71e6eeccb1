-- What a token says: its parts, its header, the key that verifies it, and its claims.
use Rattle.std.specs.Prelude.{◌≡◌, ℕ, ◌≤◌, List, length, Option, Some, position}
use Rattle.base64.specs.GeneralPurpose.{IsBytes}
use Rattle.usp_claims.specs.Table.{IsClaimSet}
use Rattle.usp_claims.specs.declared.limits.TheConstants.{MAX_PAYLOAD}
use Rattle.usp_json.specs.Spells.{IsReading}
use Rattle.usp_json.specs.declared.value.Members.{Members}
use Rattle.usp_jws.specs.Base64url.{b64u}
use Rattle.usp_jws.specs.Compact.{IsToken}
use Rattle.usp_jws.specs.Headers.{IsHeader}
use Rattle.usp_jws.specs.Keys.{KeyValue, agrees}
use Rattle.usp_jws.specs.Parts.{PartsValue, signed_of, text_of}

-- the text is a token, made of these parts
pub record HasParts (token : List ℕ) (parts : PartsValue) : Type 0 where
  pub short : IsToken token
  pub whole : token ≡ text_of parts

-- at most `MAX_PAYLOAD` bytes that spell these claims
pub record SpellsClaims (bytes : List ℕ) (members : Members) : Type 0 where
  pub short : length bytes ≤ MAX_PAYLOAD
  pub reads : IsReading bytes members
  pub set : IsClaimSet members

-- the payload is the base64url of such bytes
pub record HasClaims (payload : List ℕ) (members : Members) : Type 0 where
  pub bytes : List ℕ
  pub are_bytes : IsBytes bytes
  pub encoded : payload ≡ b64u bytes
  pub claims : SpellsClaims bytes members

-- the place of the first key that the header names, if it names one, and whose MAC is the signature (RFC 7515
-- section 5.2)
abbrev pub verifying : List KeyValue → Option (List ℕ) → PartsValue → Option ℕ
verifying ring kid parts = position (agrees kid (signed_of parts) parts.signature) ring

-- The token has a header that names this key, or none.
pub record HasHeader (token : List ℕ) (kid : Option (List ℕ)) : Type 0 where
  pub parts : PartsValue
  pub split : HasParts token parts
  pub header : IsHeader parts.header kid

-- The key at this place verifies the token.
pub record IsVerified (ring : List KeyValue) (token : List ℕ) (place : ℕ) : Type 0 where
  pub parts : PartsValue
  pub kid : Option (List ℕ)
  pub split : HasParts token parts
  pub header : IsHeader parts.header kid
  pub first : verifying ring kid parts ≡ Some place

-- The token's claims are these.
pub record CarriesClaims (token : List ℕ) (members : Members) : Type 0 where
  pub parts : PartsValue
  pub split : HasParts token parts
  pub claims : HasClaims parts.payload members
