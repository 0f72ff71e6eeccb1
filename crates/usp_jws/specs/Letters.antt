-- The letters of names and of tokens.
use Rattle.std.specs.Prelude.{ℕ, Bool, not, ◌&&◌, ◌||◌, nat_le, ◌==◌, List, length, codes}
use Rattle.std.specs.List.{list_all, list_any}
use Rattle.std.specs.Str.{bytes_eq}
use Rattle.std.specs.Char.{is_ascii_alphanumeric, is_ascii_graphic}
use Rattle.usp_jws.specs.Dotted.{dot}
use Rattle.usp_jws.specs.declared.limits.TheConstants.{MAX_IDENTITY, MAX_KID}

-- `-`, `_`, `"` and `\`
abbrev pub hyphen : ℕ
hyphen = 45

abbrev pub underscore : ℕ
underscore = 95

abbrev pub quote : ℕ
quote = 34

abbrev pub backslash : ℕ
backslash = 92

-- a letter of a kid: a letter, a digit, `-`, `.` or `_`
abbrev pub is_kid_letter : ℕ → Bool
is_kid_letter b = is_ascii_alphanumeric b || b == hyphen || b == dot || b == underscore

-- a byte of an identity: a printable ASCII character, but space, `"` and `\`
abbrev pub is_identity_byte : ℕ → Bool
is_identity_byte b = is_ascii_graphic b && not (b == quote) && not (b == backslash)

-- the name of a key: 1 to `MAX_KID` letters
abbrev pub is_kid : List ℕ → Bool
is_kid kid = nat_le 1 (length kid) && nat_le (length kid) MAX_KID && list_all is_kid_letter kid

-- the name of an issuer or an edge: 1 to `MAX_IDENTITY` bytes
abbrev pub is_identity : List ℕ → Bool
is_identity text = nat_le 1 (length text) && nat_le (length text) MAX_IDENTITY && list_all is_identity_byte text

-- the identity is one of those
abbrev pub has_identity : List (List ℕ) → List ℕ → Bool
has_identity identities identity = list_any (λ known. bytes_eq known identity) identities

-- a letter of a token: one of base64url (RFC 4648 section 5), or the dot
abbrev pub is_token_letter : ℕ → Bool
is_token_letter b = is_ascii_alphanumeric b || list_any (λ letter. b == letter) (codes "-_.")
