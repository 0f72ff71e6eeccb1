-- The header of a token (RFC 7515 section 4.1).
use Rattle.std.specs.Prelude.{◌≡◌, ◌≢◌, ℕ, Bool, false, ◌&&◌, List, codes, Option, Some, None, is_none, if◌then◌else◌}
use Rattle.std.specs.Option.{is_some, option_map_or, option_and_then}
use Rattle.std.specs.Str.{bytes_eq}
use Rattle.base64.specs.GeneralPurpose.{IsBytes}
use Rattle.usp_json.specs.Entries.{entries, value_of}
use Rattle.usp_json.specs.Faults.{RefusesJson}
use Rattle.usp_json.specs.Spells.{IsReading}
use Rattle.usp_json.specs.Scalars.{text_in}
use Rattle.usp_json.specs.declared.value.Json.{Json}
use Rattle.usp_json.specs.declared.value.Members.{Members}
use Rattle.usp_json.specs.declared.fault.JsonFault.{JsonFault}
use Rattle.usp_json.specs.declared.fault.JsonFault.TheVariants.{NoMemory as NoJsonMemory}
use Rattle.usp_jws.specs.Base64url.{b64u}
use Rattle.usp_jws.specs.declared.header.HeaderFault.{HeaderFault}
use Rattle.usp_jws.specs.declared.header.HeaderFault.TheVariants.{Json as NoJson, NoAlg, OtherAlg, Crit, Zip, Enc, BadKid, NoMemory}

-- the value of a parameter, and whether it is there
abbrev pub parameter : List ℕ → Members → Option Json
parameter name members = value_of name (entries members)

abbrev pub has_parameter : List ℕ → Members → Bool
has_parameter name members = is_some (parameter name members)

-- `alg` is the text `HS256`
abbrev pub is_hs256 : Members → Bool
is_hs256 members =
    option_map_or (λ text. bytes_eq text (codes "HS256"))
    (option_and_then text_in (parameter (codes "alg") members)) false

-- the name of the key, where it is a text
abbrev pub kid_of : Members → Option (List ℕ)
kid_of members = option_and_then text_in (parameter (codes "kid") members)

-- `kid` is there and no text
abbrev pub has_bad_kid : Members → Bool
has_bad_kid members = has_parameter (codes "kid") members && is_none (kid_of members)

-- Why these parameters are no header of such a token, the first that applies. `crit` names extensions that must be
-- understood (section 4.1.11), and none is; `zip` and `enc` belong to encryption (RFC 7516 section 4.1). Other
-- parameters are ignored.
abbrev pub header_fault : Members → Option HeaderFault
header_fault members =
    if has_parameter (codes "alg") members then
    (if is_hs256 members then
    (if has_parameter (codes "crit") members then Some Crit
    else (if has_parameter (codes "zip") members then Some Zip
    else (if has_parameter (codes "enc") members then Some Enc
    else (if has_bad_kid members then Some BadKid else None))))
    else Some OtherAlg)
    else Some NoAlg

-- the text is the base64url of a JSON object, and these are its members
pub record SpellsHeader (text : List ℕ) (members : Members) : Type 0 where
  pub bytes : List ℕ
  pub are_bytes : IsBytes bytes
  pub encoded : text ≡ b64u bytes
  pub reads : IsReading bytes members

-- the text is a header with that name of a key
abbrev pub IsHeader : List ℕ → Option (List ℕ) → Type 0
IsHeader text kid =
    (members : Members) × SpellsHeader text members × (header_fault members ≡ None) × (kid ≡ kid_of members)

-- the text is the base64url of bytes that are no JSON object, for that reason
abbrev pub HasNoObject : JsonFault → List ℕ → Type 0
HasNoObject fault text =
    (fault ≢ NoJsonMemory) × (bytes : List ℕ) × IsBytes bytes × (text ≡ b64u bytes) × RefusesJson fault bytes

abbrev pub HasHeaderFault : HeaderFault → List ℕ → Type 0
HasHeaderFault fault text =
    (members : Members) × SpellsHeader text members × (header_fault members ≡ Some fault)

-- what a fault says of a header; want of memory is free
abbrev pub RefusesHeader : HeaderFault → List ℕ → Type 0
RefusesHeader (NoJson fault) text = HasNoObject fault text
RefusesHeader NoMemory text = Unit {0}
RefusesHeader NoAlg text = HasHeaderFault NoAlg text
RefusesHeader OtherAlg text = HasHeaderFault OtherAlg text
RefusesHeader Crit text = HasHeaderFault Crit text
RefusesHeader Zip text = HasHeaderFault Zip text
RefusesHeader Enc text = HasHeaderFault Enc text
RefusesHeader BadKid text = HasHeaderFault BadKid text

-- the fault of bytes that are no JSON object
abbrev pub json_fault : JsonFault → HeaderFault
json_fault NoJsonMemory = NoMemory
json_fault fault = NoJson fault
