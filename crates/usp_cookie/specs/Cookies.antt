-- The cookie that carries a token (RFC 6265).
use Rattle.std.specs.Prelude.{◌≡◌, ℕ, ◌-◌, ◌≤◌, Bool, true, not, ◌==◌, min, List, [], ◌∷◌, ◌++◌, length, take, map, codes, Option, Some, None, if◌then◌else◌}
use Rattle.std.specs.List.{list_all, list_any, position_or_len, slice_split}
use Rattle.std.specs.Option.{option_and_then}
use Rattle.std.specs.Str.{byte, bytes_eq}
use Rattle.usp_base.specs.Blanks.{trim_blanks}
use Rattle.usp_base.specs.Cuts.{cut_at}
use Rattle.usp_uri.specs.Normal.{path_from, rooted}

-- ---- reading (section 4.2.1)

-- the pieces of a Cookie value: what ';' parts, without the blanks at its ends
abbrev pub pieces_in : List ℕ → List (List ℕ)
pieces_in value = map trim_blanks (slice_split (λ c. c == byte ";") value)

-- What a piece says of this name. Its first '=' parts a name and its value, and a piece without '=' says nothing.
abbrev pub value_under : (name : List ℕ) → (piece : List ℕ) → Option (List ℕ)
value_under name piece =
    option_and_then (λ pair. if bytes_eq pair.0 name then Some pair.1 else None) (cut_at (byte "=") piece)

-- the first of several values that is there
abbrev pub first_value : List (Option (List ℕ)) → Option (List ℕ)
first_value [] = None
first_value (None ∷ others) = first_value others
first_value (Some value ∷ others) = Some value

-- the value of the first pair of this name
abbrev pub token_of : (name : List ℕ) → (value : List ℕ) → Option (List ℕ)
token_of name value = first_value (map (value_under name) (pieces_in value))

-- ---- writing (section 4.1.1)

abbrev pub set_cookie : (name token path : List ℕ) → List ℕ
set_cookie name token path = name ++ (codes "=" ++ (token ++ (codes "; Path=" ++ path)))

-- ---- the path of a renewed cookie (RFC 9246 section 2.1.14, RFC 6265 section 5.1.4)

-- a ';' would end the attribute
abbrev pub has_semicolon : List ℕ → Bool
has_semicolon segment = list_any (λ c. c == byte ";") segment

-- how many of the segments are kept: at most so many, never the last one, and none from the first with a ';' on
abbrev pub kept_count : (depth : ℕ) → (segments : List (List ℕ)) → ℕ
kept_count depth segments = min depth (min (length segments - 1) (position_or_len has_semicolon segments))

abbrev pub kept_segments : (depth : ℕ) → (segments : List (List ℕ)) → List (List ℕ)
kept_segments depth segments = take (kept_count depth segments) segments

-- '/' and the segments that are kept, joined by '/'
abbrev pub cookie_path : (depth : ℕ) → (segments : List (List ℕ)) → List ℕ
cookie_path depth segments = rooted (path_from (kept_segments depth segments))

-- Leading segments that may be kept: at most so many, not all, and none with a ';'.
pub record MayKeep (depth : ℕ) (segments kept : List (List ℕ)) : Type 0 where
  pub rest : List (List ℕ)
  pub whole : segments ≡ kept ++ rest
  pub few : length kept ≤ depth
  pub not_all : 1 ≤ length rest
  pub free : list_all (λ segment. not (has_semicolon segment)) kept ≡ true
