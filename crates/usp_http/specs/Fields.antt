-- What the fields of a head say. A field is its name and its value, without the white space around that.
use Rattle.std.specs.Prelude.{ℕ, Bool, not, ◌&&◌, ◌||◌, ◌==◌, List, [], ◌∷◌, filter, map, codes, Option, Some, None}
use Rattle.std.specs.List.{list_any, slice_split}
use Rattle.std.specs.Str.{bytes_eq, str_eq_ignore_ascii_case}
use Rattle.usp_base.specs.Blanks.{trim_blanks}

-- Names are compared in any case (RFC 9110, section 5.1).
abbrev pub is_named : List ℕ → List ℕ × List ℕ → Bool
is_named name field = str_eq_ignore_ascii_case field.0 name

-- the values of the fields of that name, in order
abbrev pub values_of : List ℕ → List (List ℕ × List ℕ) → List (List ℕ)
values_of name fields = map (λ field. field.1) (filter (is_named name) fields)

-- the only value; nothing where there is none or more than one
abbrev pub only : List (List ℕ) → List ℕ
only (value ∷ []) = value
only values = []

-- the first value
abbrev pub first_of : List (List ℕ) → Option (List ℕ)
first_of [] = None
first_of (value ∷ values) = Some value

abbrev pub comma : ℕ
comma = 44

-- A part between commas is `close`, in any case.
abbrev pub is_close : List ℕ → Bool
is_close part = str_eq_ignore_ascii_case (trim_blanks part) (codes "close")

abbrev pub has_close : List ℕ → Bool
has_close value = list_any is_close (slice_split (λ b. b == comma) value)

-- The field asks to close the connection behind the reply (RFC 9112, section 9.6).
abbrev pub is_closing : List ℕ × List ℕ → Bool
is_closing field = is_named (codes "connection") field && has_close field.1

-- The field announces a body (RFC 9112, section 6.3): only a length that is spelled `0` announces none.
abbrev pub is_of_body : List ℕ × List ℕ → Bool
is_of_body field =
    is_named (codes "transfer-encoding") field
    || (is_named (codes "content-length") field && not (bytes_eq field.1 (codes "0")))
