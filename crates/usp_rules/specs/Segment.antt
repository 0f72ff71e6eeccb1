-- The segment form of a hash name (RFC 6920 section 5), of SHA-256 (FIPS 180-4).
use Rattle.std.specs.Prelude.{ℕ, List, ◌++◌, codes}
use Rattle.sha2.specs.Sha256.{sha256}
use Rattle.usp_jws.specs.Base64url.{b64u}

-- `sha-256;` and the base64url of the text's SHA-256
unfoldable pub segment_of : List ℕ → List ℕ
segment_of text = codes "sha-256;" ++ b64u (sha256 text)
