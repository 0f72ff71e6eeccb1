-- The cookie that the value of a Set-Cookie field sets (RFC 6265, section 5.2). Of its attributes the last `Path` alone
-- is read.
use Rattle.std.specs.Prelude.{ℕ, ◌==◌, Bool, false, List, [], ◌∷◌, map, filter, reverse, codes, Option, Some, None, if◌then◌else◌}
use Rattle.std.specs.List.{slice_split}
use Rattle.std.specs.Option.{option_map}
use Rattle.std.specs.Str.{byte, str_eq_ignore_ascii_case}
use Rattle.usp_base.specs.Blanks.{trim_blanks}
use Rattle.usp_base.specs.Cuts.{cut_at}
use Rattle.usp_uri.specs.Normal.{rooted}
use Rattle.usp_cookie.specs.declared.cookie.Cookie.{Cookie}

abbrev pub parted_at : Option (List ℕ × List ℕ) → List ℕ → List ℕ × List ℕ
parted_at None value = (value, [])
parted_at (Some cut) value = cut

-- what stands before the first ';' and behind it; nothing stands behind it where there is none
abbrev pub parted : List ℕ → List ℕ × List ℕ
parted value = parted_at (cut_at (byte ";") value) value

-- the attributes: what ';' parts
abbrev pub attributes_in : List ℕ → List (List ℕ)
attributes_in text = slice_split (λ c. c == byte ";") text

-- the name and the value that the first '=' of a part parts, without the blanks at their ends
abbrev pub pair_of : List ℕ → Option (List ℕ × List ℕ)
pair_of part = option_map (λ cut. (trim_blanks cut.0, trim_blanks cut.1)) (cut_at (byte "=") part)

-- ---- the attributes

abbrev pub pair_or_name : Option (List ℕ × List ℕ) → List ℕ → List ℕ × List ℕ
pair_or_name None part = (trim_blanks part, [])
pair_or_name (Some pair) part = pair

-- a part without '=' is a name, and its value is empty
abbrev pub attribute_of : List ℕ → List ℕ × List ℕ
attribute_of part = pair_or_name (pair_of part) part

abbrev pub is_path : List ℕ × List ℕ → Bool
is_path attribute = str_eq_ignore_ascii_case attribute.0 (codes "path")

-- the values of the `Path` attributes, in order
abbrev pub paths_in : List (List ℕ) → List (List ℕ)
paths_in attributes = map (λ attribute. attribute.1) (filter is_path (map attribute_of attributes))

-- the last of some texts, or this one where there are none
abbrev pub last_or : List ℕ → List (List ℕ) → List ℕ
last_or other [] = other
last_or other (text ∷ texts) = last_or text texts

-- the value of the last `Path`, and nothing where there is none
abbrev pub last_path : List (List ℕ) → List ℕ
last_path attributes = last_or [] (paths_in attributes)

-- ---- the path of the cookie (section 5.1.4)

abbrev pub begins_with_slash : List ℕ → Bool
begins_with_slash [] = false
begins_with_slash (c ∷ text) = c == byte "/"

-- what stands behind the first '/', and nothing where there is none
abbrev pub behind_slash : List ℕ → List ℕ
behind_slash [] = []
behind_slash (c ∷ text) = if c == byte "/" then text else behind_slash text

-- the path of a request up to and without its last '/', or '/' where that is empty
abbrev pub folder_of : List ℕ → List ℕ
folder_of asked = rooted (reverse (behind_slash (reverse asked)))

-- the path that was said, where it begins with '/'; else the folder of the path that was asked for
abbrev pub path_of : (said asked : List ℕ) → List ℕ
path_of said asked = if begins_with_slash said then said else folder_of asked

-- ---- the cookie

abbrev pub cookie_with : (authority name path value : List ℕ) → Cookie
cookie_with authority name path value =
    record { authority = authority; name = name; path = path; value = value }

-- a name that is empty sets nothing
abbrev pub named_cookie : (authority name path value : List ℕ) → Option Cookie
named_cookie authority [] path value = None
named_cookie authority (c ∷ name) path value = Some (cookie_with authority (c ∷ name) path value)

abbrev pub paired_cookie : (authority path : List ℕ) → Option (List ℕ × List ℕ) → Option Cookie
paired_cookie authority path None = None
paired_cookie authority path (Some pair) = named_cookie authority pair.0 path pair.1

abbrev pub parted_cookie : (authority asked : List ℕ) → List ℕ × List ℕ → Option Cookie
parted_cookie authority asked parts =
    paired_cookie authority (path_of (last_path (attributes_in parts.1)) asked) (pair_of parts.0)

-- The cookie that an answer of this authority to a request for this path sets by this value. None where what stands
-- before the first ';' has no '=' or an empty name.
unfoldable pub cookie_of : (authority asked value : List ℕ) → Option Cookie
cookie_of authority asked value = parted_cookie authority asked (parted value)
