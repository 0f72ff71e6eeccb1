-- Members that are texts and numbers.
use Rattle.std.specs.Prelude.{ℕ, Bool, true, ◌&&◌, nat_le, List, codes, Result, Ok, Err, if◌then◌else◌}
use Rattle.std.specs.Option.{option_map_or}
use Rattle.serde_json.specs.Data.{Data, Num, unsigned}
use Rattle.serde_json.specs.Find.{get, as_str, as_number, as_bool}
use Rattle.usp_jws.specs.Letters.{is_identity}
use Rattle.usp_package.specs.Name.{is_attr_name}
use Rattle.usp_conf.specs.Answers.{and_then}
use Rattle.usp_conf.specs.Letters.{is_scheme}
use Rattle.usp_conf.specs.Members.{name_of}
use Rattle.usp_nonce.specs.declared.limits.TheConstants.{MAX_ROOM}
use Rattle.usp_conf.specs.declared.fault.ConfFault.{ConfFault}
use Rattle.usp_conf.specs.declared.fault.ConfFault.TheVariants as fault
use Rattle.usp_conf.specs.declared.member.Member.{Member}
use Rattle.usp_conf.specs.declared.member.Member.TheVariants as member

-- a member that must be there
abbrev pub required : {A : Type 0} → Member → (Data → Result A ConfFault) → Data
    → Result A ConfFault
required of read fields = option_map_or read (get (name_of of) fields) (Err (fault.Missing of))

-- a member that may be absent
abbrev pub optional : {A : Type 0} → Member → A → (Data → Result A ConfFault) → Data
    → Result A ConfFault
optional of without read fields = option_map_or read (get (name_of of) fields) (Ok without)

-- a text
abbrev pub text_of : Member → Data → Result (List ℕ) ConfFault
text_of of value = option_map_or (λ text. Ok text) (as_str value) (Err (fault.Kind of))

-- a value that passes its test
abbrev pub tested : {A : Type 0} → Member → Bool → A → Result A ConfFault
tested of passes value = if passes then Ok value else Err (fault.Range of)

-- a text that passes the test
abbrev pub text_that : (List ℕ → Bool) → Member → Data → Result (List ℕ) ConfFault
text_that passes of value = and_then (text_of of value) (λ text. tested of (passes text) text)

abbrev pub identity_of : Member → Data → Result (List ℕ) ConfFault
identity_of of = text_that is_identity of

-- the edge, its scheme, and the name of the attribute
abbrev pub edge_of : Data → Result (List ℕ) ConfFault
edge_of = required member.Edge (identity_of member.Edge)

abbrev pub scheme_of : Data → Result (List ℕ) ConfFault
scheme_of = required member.Scheme (text_that is_scheme member.Scheme)

abbrev pub attribute_value : Data → Result (List ℕ) ConfFault
attribute_value = text_that is_attr_name member.Attribute

abbrev pub attribute_of : Data → Result (List ℕ) ConfFault
attribute_of = optional member.Attribute (codes "URISigningPackage") attribute_value

-- a whole number within a range
abbrev pub within : Member → ℕ → ℕ → Num → Result ℕ ConfFault
within of least most (unsigned n) = tested of (nat_le least n && nat_le n most) n
within of least most other = Err (fault.Range of)

abbrev pub number_of : Member → ℕ → ℕ → Data → Result ℕ ConfFault
number_of of least most value =
    option_map_or (within of least most) (as_number value) (Err (fault.Kind of))

abbrev pub room_of : Data → Result ℕ ConfFault
room_of = optional member.Room MAX_ROOM (number_of member.Room 1 MAX_ROOM)

-- enforcement can't be turned off
abbrev pub enforce_value : Data → Result Bool ConfFault
enforce_value value =
    option_map_or (λ on. tested member.Enforce on true) (as_bool value)
    (Err (fault.Kind member.Enforce))

abbrev pub enforce_of : Data → Result Bool ConfFault
enforce_of = optional member.Enforce true enforce_value
