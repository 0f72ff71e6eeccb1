-- The lines of a playlist (RFC 8216, section 4.1).
use Rattle.std.specs.Prelude.{ℕ, Bool, ◌==◌, List, [], ◌∷◌, map, codes, Option, Some, None, if◌then◌else◌}
use Rattle.std.specs.Option.{is_some}
use Rattle.std.specs.Str.{byte, bytes_eq}
use Rattle.usp_base.specs.Cuts.{after_prefix}
use Rattle.usp_base.specs.Lines.{lines_of}

abbrev pub header_line : List ℕ
header_line = codes "#EXTM3U"

abbrev pub inf_tag : List ℕ
inf_tag = codes "#EXTINF:"

abbrev pub target_tag : List ℕ
target_tag = codes "#EXT-X-TARGETDURATION:"

abbrev pub range_tag : List ℕ
range_tag = codes "#EXT-X-BYTERANGE:"

abbrev pub end_tag : List ℕ
end_tag = codes "#EXT-X-ENDLIST"

-- What a line behind the first is to a player: a tag with what stands behind it, the end tag, a URI, or nothing.
pub data ListLine : Type 0 where
  inf_line : (text : List ℕ) → ListLine
  target_line : (digits : List ℕ) → ListLine
  range_line : ListLine
  ending_line : ListLine
  uri_line : (text : List ℕ) → ListLine
  other_line : ListLine

abbrev pub has_tag : (tag line : List ℕ) → Bool
has_tag tag line = is_some (after_prefix tag line)

-- the line with what stands behind a tag, or else another
abbrev pub tagged_or : (List ℕ → ListLine) → Option (List ℕ) → ListLine → ListLine
tagged_or line_with None else_line = else_line
tagged_or line_with (Some text) else_line = line_with text

-- a line that begins with '#'
abbrev pub tag_line_of : List ℕ → ListLine
tag_line_of line =
    tagged_or inf_line (after_prefix inf_tag line)
    (tagged_or target_line (after_prefix target_tag line)
    (if has_tag range_tag line then range_line else if bytes_eq line end_tag then ending_line else other_line))

-- A line that is neither empty nor begins with '#' is a URI.
abbrev pub list_line_of : List ℕ → ListLine
list_line_of [] = other_line
list_line_of (c ∷ line) = if c == byte "#" then tag_line_of (c ∷ line) else uri_line (c ∷ line)

abbrev pub list_lines_of : List ℕ → List ListLine
list_lines_of text = map list_line_of (lines_of text)
