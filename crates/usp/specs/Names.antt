-- The names of files below a folder, for paths of URIs.
use Rattle.std.specs.Prelude.{ℕ, Bool, true, false, List, [], ◌∷◌, map, Option, Some, None, if◌then◌else◌, ◌&&◌, ◌==◌, not}
use Rattle.std.specs.List.{list_all}
use Rattle.std.specs.Char.{is_ascii_hexdigit}
use Rattle.std.specs.Str.{byte, bytes_eq}
use Rattle.usp_uri.specs.Letters.{is_slash, escaped_byte}
use Rattle.usp_uri.specs.Normal.{segments_of, path_from, is_single_dot, is_double_dot}

-- a '%' and two hexadecimal digits (RFC 3986, section 2.1)
abbrev pub is_escape : ℕ → ℕ → ℕ → Bool
is_escape c high low = c == byte "%" && (is_ascii_hexdigit high && is_ascii_hexdigit low)

-- The text with each escape as its byte. What the step has made is not read again.
abbrev pub decoded : List ℕ → List ℕ
decoded [] = []
decoded (c ∷ []) = c ∷ []
decoded (c ∷ d ∷ []) = c ∷ d ∷ []
decoded (c ∷ high ∷ low ∷ rest) =
    elim (is_escape c high low) [
      | true ↦ escaped_byte high low ∷ decoded rest
      | false ↦ c ∷ decoded (high ∷ low ∷ rest)
    ]

-- no NUL, which ends a name of the system, and no '/', which parts two
abbrev pub is_name_byte : ℕ → Bool
is_name_byte c = not (c == 0) && not (is_slash c)

-- The name of a file or of a folder in the folder where it stands: not empty, and neither that folder, ".", nor
-- the one above, "..".
abbrev pub is_name : List ℕ → Bool
is_name text =
    not (bytes_eq text []) && (not (is_single_dot text) && (not (is_double_dot text) && list_all is_name_byte text))

-- the names, one below the other, that the segments of a path stand for
abbrev pub names_of : List ℕ → List (List ℕ)
names_of path = map decoded (segments_of path)

-- What stands behind the name of a folder for the file that a path names: a '/' and a name, for each segment. None
-- where a segment stands for no name.
abbrev pub name_below : List ℕ → Option (List ℕ)
name_below path = if list_all is_name (names_of path) then Some (path_from (names_of path)) else None
