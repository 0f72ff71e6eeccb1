-- The normal form of a URI, as four steps on its components, each a rule of RFC 3986 section 6.2.
use Rattle.std.specs.Prelude.{ℕ, Bool, true, false, List, [], ◌∷◌, ◌++◌, map, reverse, Option, Some, None, option_map, if◌then◌else◌, ◌||◌, ◌==◌, codes}
use Rattle.std.specs.List.{flat_map}
use Rattle.std.specs.Str.{byte, bytes_eq}
use Rattle.std.specs.Char.{to_ascii_lowercase, to_ascii_uppercase}
use Rattle.usp_uri.specs.Letters.{is_unreserved, is_slash, escaped_byte}
use Rattle.usp_uri.specs.Components.{Components}

-- ---- 1. Percent-encoding (6.2.2.2): the escape of an unreserved byte becomes the byte, any other has its
-- digits in upper case. One pass: what the step has made is not read again.

abbrev pub normal_escape : ℕ → ℕ → List ℕ
normal_escape high low =
    if is_unreserved (escaped_byte high low) then escaped_byte high low ∷ []
    else byte "%" ∷ to_ascii_uppercase high ∷ to_ascii_uppercase low ∷ []

-- `elim` works out one case alone, so that a long text computes.
abbrev pub normal_escapes : List ℕ → List ℕ
normal_escapes [] = []
normal_escapes (c ∷ []) = c ∷ []
normal_escapes (c ∷ d ∷ []) = c ∷ d ∷ []
normal_escapes (c ∷ high ∷ low ∷ rest) =
    elim (c == byte "%") [
      | true ↦ normal_escape high low ++ normal_escapes rest
      | false ↦ c ∷ normal_escapes (high ∷ low ∷ rest)
    ]

abbrev pub with_normal_escapes : Components → Components
with_normal_escapes p = record p { path = normal_escapes p.path; query = option_map normal_escapes p.query }

-- ---- 2. Case (6.2.2.1): scheme and host in lower case.

abbrev pub with_normal_case : Components → Components
with_normal_case p = record p { scheme = map to_ascii_lowercase p.scheme; host = map to_ascii_lowercase p.host }

-- ---- 3. Path segments (6.2.2.3): the dot segments are removed (5.2.4). A path that is not empty is a list of
-- segments, each behind a '/'.

abbrev pub onto_first : ℕ → List (List ℕ) → List (List ℕ)
onto_first c [] = (c ∷ []) ∷ []
onto_first c (segment ∷ others) = (c ∷ segment) ∷ others

-- the pieces of a text between its '/'
abbrev pub pieces : List ℕ → List (List ℕ)
pieces [] = [] ∷ []
pieces (c ∷ rest) = if is_slash c then [] ∷ pieces rest else onto_first c (pieces rest)

abbrev pub segments_of : List ℕ → List (List ℕ)
segments_of [] = []
segments_of (slash ∷ rest) = pieces rest

abbrev pub path_from : List (List ℕ) → List ℕ
path_from segments = flat_map (λ segment. byte "/" ∷ segment) segments

abbrev pub is_single_dot : List ℕ → Bool
is_single_dot segment = bytes_eq segment (codes ".")

abbrev pub is_double_dot : List ℕ → Bool
is_double_dot segment = bytes_eq segment (codes "..")

abbrev pub without_last : List (List ℕ) → List (List ℕ)
without_last [] = []
without_last (last ∷ before) = before

-- The segments that are kept before the next one, the last of them first: "." leaves them, ".." takes the last
-- away, and above the root there is nothing to take.
abbrev pub next_kept : List (List ℕ) → List ℕ → List (List ℕ)
next_kept kept segment =
    if is_single_dot segment then kept
    else (if is_double_dot segment then without_last kept else segment ∷ kept)

-- A dot segment that ends the path leaves an empty segment there, so that the path ends in '/'.
abbrev pub at_the_end : List (List ℕ) → List ℕ → List (List ℕ)
at_the_end kept segment = if is_single_dot segment || is_double_dot segment then [] ∷ kept else kept

abbrev pub resolved : List (List ℕ) → List (List ℕ) → List (List ℕ)
resolved kept [] = reverse kept
resolved kept (segment ∷ []) = reverse (at_the_end (next_kept kept segment) segment)
resolved kept (segment ∷ next ∷ others) = resolved (next_kept kept segment) (next ∷ others)

abbrev pub remove_dot_segments : List ℕ → List ℕ
remove_dot_segments path = path_from (resolved [] (segments_of path))

abbrev pub without_dot_segments : Components → Components
without_dot_segments p = record p { path = remove_dot_segments p.path }

-- ---- 4. The rule of the scheme (6.2.3): its own port and an empty one go, and an empty path becomes "/".

abbrev pub own_port : List ℕ → List ℕ
own_port scheme = if bytes_eq scheme (codes "https") then codes "443" else codes "80"

abbrev pub kept_port : List ℕ → Option (List ℕ) → Option (List ℕ)
kept_port scheme None = None
kept_port scheme (Some port) = if bytes_eq port [] || bytes_eq port (own_port scheme) then None else Some port

abbrev pub rooted : List ℕ → List ℕ
rooted [] = codes "/"
rooted (c ∷ rest) = c ∷ rest

abbrev pub with_scheme_rule : Components → Components
with_scheme_rule p = record p { port = kept_port p.scheme p.port; path = rooted p.path }

-- ---- the four, one after the other

abbrev pub normal_components : Components → Components
normal_components p = with_scheme_rule (without_dot_segments (with_normal_case (with_normal_escapes p)))
