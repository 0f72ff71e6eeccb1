-- The faults of a text, in the order in which they are tried, and what a text reads as.
use Rattle.std.specs.Prelude.{ℕ, ◌+◌, Bool, true, false, ◌&&◌, ◌||◌, not, List, [], ◌∷◌, length, take, Option, Some, None, option_map, Result, Ok, Err, if◌then◌else◌, nat_lt, ◌==◌, codes}
use Rattle.std.specs.List.{list_any, list_all}
use Rattle.std.specs.Str.{byte, str_eq_ignore_ascii_case}
use Rattle.std.specs.Str.Parse.{digits_value}
use Rattle.std.specs.Char.{is_ascii_hexdigit, is_ascii_digit}
use Rattle.usp_uri.specs.declared.fault.UriFault.{UriFault}
use Rattle.usp_uri.specs.declared.fault.UriFault.TheVariants as fault
use Rattle.usp_uri.specs.declared.limits.TheConstants.{MAX_LEN}
use Rattle.usp_uri.specs.Letters.{is_host_byte, is_literal, is_hash}
use Rattle.usp_uri.specs.Delimited.{first_outside}
use Rattle.usp_uri.specs.Components.{components_of, text_of, authority_start, authority_in, host_in, port_in, after_authority}
use Rattle.usp_uri.specs.Normal.{normal_components}

abbrev pub length_fault : List ℕ → Option UriFault
length_fault text = if nat_lt MAX_LEN (length text) then Some fault.TooLong else None

abbrev pub begins_in_any_case : List ℕ → List ℕ → Bool
begins_in_any_case name text = str_eq_ignore_ascii_case (take (length name) text) name

abbrev pub scheme_fault : List ℕ → Option UriFault
scheme_fault text =
    if begins_in_any_case (codes "http://") text || begins_in_any_case (codes "https://") text then None
    else Some fault.Scheme

abbrev pub userinfo_fault : List ℕ → Option UriFault
userinfo_fault text = if list_any (λ c. c == byte "@") (authority_in text) then Some fault.Userinfo else None

-- a host that begins at this offset
abbrev pub host_fault_at : ℕ → List ℕ → Option UriFault
host_fault_at at [] = Some (fault.Syntax at)
host_fault_at at (c ∷ rest) = option_map (λ i. fault.Syntax i) (first_outside is_host_byte at (c ∷ rest))

abbrev pub host_fault : List ℕ → Option UriFault
host_fault text = host_fault_at (authority_start text) (host_in text)

-- nothing, or a number from 1 to 65,535 in digits without a leading zero
abbrev pub is_port : List ℕ → Bool
is_port [] = true
is_port (c ∷ rest) =
    list_all is_ascii_digit (c ∷ rest) && (not (c == byte "0") && nat_lt (digits_value 10 (c ∷ rest)) 65536)

abbrev pub port_fault_in : Option (List ℕ) → Option UriFault
port_fault_in None = None
port_fault_in (Some port) = if is_port port then None else Some fault.Port

abbrev pub port_fault : List ℕ → Option UriFault
port_fault text = port_fault_in (port_in text)

-- two hexadecimal digits stand here
abbrev pub begins_with_digits : List ℕ → Bool
begins_with_digits [] = false
begins_with_digits (high ∷ []) = false
begins_with_digits (high ∷ low ∷ rest) = is_ascii_hexdigit high && is_ascii_hexdigit low

-- a byte of a path or a query, by what follows it. The digits of an escape are allowed as they are.
abbrev pub is_allowed : ℕ → List ℕ → Bool
is_allowed c rest = is_literal c || (c == byte "%" && begins_with_digits rest)

abbrev pub fault_for : ℕ → ℕ → UriFault
fault_for at c =
    if is_hash c then fault.Fragment else (if c == byte "%" then fault.Escape at else fault.Syntax at)

-- the first byte that is not allowed, of a rest that begins at this offset
abbrev pub rest_fault_at : ℕ → List ℕ → Option UriFault
rest_fault_at at [] = None
rest_fault_at at (c ∷ rest) = if is_allowed c rest then rest_fault_at (at + 1) rest else Some (fault_for at c)

abbrev pub rest_fault : List ℕ → Option UriFault
rest_fault text = rest_fault_at (authority_start text + length (authority_in text)) (after_authority text)

-- the first of several faults that is there
abbrev pub first_fault : List (Option UriFault) → Option UriFault
first_fault [] = None
first_fault (None ∷ others) = first_fault others
first_fault (Some found ∷ others) = Some found

-- the faults of the text itself
abbrev pub text_fault : List ℕ → Option UriFault
text_fault text =
    first_fault
    (length_fault text ∷ scheme_fault text ∷ userinfo_fault text ∷ host_fault text ∷ port_fault text
    ∷ rest_fault text ∷ [])

-- the text made of the four steps, which means something where the text has no fault
abbrev pub normal_text : List ℕ → List ℕ
normal_text text = text_of (normal_components (components_of text))

abbrev pub fault_of : List ℕ → Option UriFault
fault_of text = first_fault (text_fault text ∷ length_fault (normal_text text) ∷ [])

abbrev pub unless : Option UriFault → List ℕ → Result (List ℕ) UriFault
unless None text = Ok text
unless (Some found) text = Err found

-- The normal form of a text, or its first fault.
unfoldable pub normal_of : List ℕ → Result (List ℕ) UriFault
normal_of text = unless (fault_of text) (normal_text text)
