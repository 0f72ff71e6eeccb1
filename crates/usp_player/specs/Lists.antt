-- Media playlists, as a player reads them (RFC 8216, section 4).
use Rattle.std.specs.Prelude.{◌≡◌, ◌⊎◌, ℕ, ◌+◌, ◌&&◌, not, nat_lt, Bool, true, false, List, [], ◌∷◌, ◌++◌, length, map, Option, Some, None, Result, Ok, Err, if◌then◌else◌}
use Rattle.std.specs.Option.{is_some}
use Rattle.std.specs.Str.{byte, bytes_eq, is_utf8}
use Rattle.std.specs.Str.Lossy.{utf8_valid_len}
use Rattle.usp_base.specs.Cuts.{cut_at}
use Rattle.usp_base.specs.Lines.{lines_of}
use Rattle.usp_http.specs.Digits.{are_digits, at_most, number_in}
use Rattle.usp_player.specs.ListLines.{ListLine, ending_line, header_line, inf_line, list_line_of, range_line, target_line, uri_line}
use Rattle.usp_player.specs.declared.fault.ListFault.{ListFault}
use Rattle.usp_player.specs.declared.fault.ListFault.TheVariants as fault
use Rattle.usp_player.specs.declared.limits.TheConstants.{MAX_PLAYLIST, MAX_SEGMENTS, MAX_TARGET}
use Rattle.usp_player.specs.declared.playlist.Playlist.{Playlist}
use Rattle.usp_player.specs.declared.playlist.Segment.{Segment}

-- ---- what the tags say

-- the target duration in seconds (section 4.3.3.1)
abbrev pub target_of : List ℕ → Option ℕ
target_of digits = at_most MAX_TARGET (number_in digits)

abbrev pub front_at : Option (List ℕ × List ℕ) → List ℕ → List ℕ
front_at None text = text
front_at (Some cut) text = cut.0

-- what stands in front of the title (section 4.3.2.1)
abbrev pub duration_of : List ℕ → List ℕ
duration_of text = front_at (cut_at (byte ",") text) text

abbrev pub are_digits_at : Option (List ℕ × List ℕ) → List ℕ → Bool
are_digits_at None text = are_digits text
are_digits_at (Some cut) text = are_digits cut.0 && are_digits cut.1

-- digits, or digits, a point and digits
abbrev pub is_duration : List ℕ → Bool
is_duration text = are_digits_at (cut_at (byte ".") text) text

-- ---- what is around a line; earlier lines are listed with the nearest first

-- the URI that a `#EXTINF:` before these lines belongs to: the first before the next `#EXTINF:`
abbrev pub next_uri : (later : List ListLine) → Option (List ℕ)
next_uri [] = None
next_uri (uri_line text ∷ later) = Some text
next_uri (inf_line text ∷ later) = None
next_uri (line ∷ later) = next_uri later

-- a URI behind these lines has its `#EXTINF:` among them: no other URI stands between
abbrev pub has_inf : (earlier : List ListLine) → Bool
has_inf [] = false
has_inf (inf_line text ∷ earlier) = true
has_inf (uri_line text ∷ earlier) = false
has_inf (line ∷ earlier) = has_inf earlier

abbrev pub has_target : (earlier : List ListLine) → Bool
has_target [] = false
has_target (target_line digits ∷ earlier) = true
has_target (line ∷ earlier) = has_target earlier

abbrev pub uri_count : (earlier : List ListLine) → ℕ
uri_count [] = 0
uri_count (uri_line text ∷ earlier) = uri_count earlier + 1
uri_count (line ∷ earlier) = uri_count earlier

-- ---- faults

abbrev pub unless : Bool → ListFault → Option ListFault
unless sound bad = if sound then None else Some bad

abbrev pub uri_fault : ℕ → (has_its_inf is_few : Bool) → Option ListFault
uri_fault n false is_few = Some (fault.NoInf n)
uri_fault n true is_few = unless is_few (fault.TooMany n)

-- the fault of line n, between those before it and those behind it
abbrev pub fault_at : ℕ → (earlier : List ListLine) → ListLine → (later : List ListLine) → Option ListFault
fault_at n earlier (target_line digits) later =
    unless (not (has_target earlier) && is_some (target_of digits)) (fault.BadTarget n)
fault_at n earlier (inf_line text) later =
    unless (is_duration (duration_of text) && is_some (next_uri later)) (fault.BadInf n)
fault_at n earlier range_line later = Some (fault.ByteRange n)
fault_at n earlier (uri_line text) later = uri_fault n (has_inf earlier) (nat_lt (uri_count earlier) MAX_SEGMENTS)
fault_at n earlier line later = None

abbrev pub fault_or : Option ListFault → Option ListFault → Option ListFault
fault_or None other = other
fault_or (Some bad) other = Some bad

-- the fault of the first line that has one, of the lines from line n on
abbrev pub first_fault : ℕ → (earlier lines : List ListLine) → Option ListFault
first_fault n earlier [] = None
first_fault n earlier (line ∷ later) =
    fault_or (fault_at n earlier line later) (first_fault (n + 1) (line ∷ earlier) later)

-- ---- what the lines say where none has a fault

abbrev pub target_in : List ListLine → Option ℕ
target_in [] = None
target_in (target_line digits ∷ lines) = target_of digits
target_in (line ∷ lines) = target_in lines

abbrev pub segment_with : (duration uri : List ℕ) → Segment
segment_with duration uri = record { duration = duration; uri = uri }

abbrev pub segment_at : (uri duration : Option (List ℕ)) → List Segment
segment_at None duration = []
segment_at (Some uri) None = []
segment_at (Some uri) (Some duration) = segment_with duration uri ∷ []

-- each `#EXTINF:` with its URI, in order
abbrev pub segments_in : List ListLine → List Segment
segments_in [] = []
segments_in (inf_line text ∷ lines) = segment_at (next_uri lines) (Some (duration_of text)) ++ segments_in lines
segments_in (line ∷ lines) = segments_in lines

abbrev pub has_end : List ListLine → Bool
has_end [] = false
has_end (ending_line ∷ lines) = true
has_end (line ∷ lines) = has_end lines

-- ---- the playlist

abbrev pub playlist_with : (target : ℕ) → List Segment → (ended : Bool) → Playlist
playlist_with target segments ended = record { target = target; segments = segments; ended = ended }

-- the first fault, or that there is no target duration, or the playlist
abbrev pub list_with : Option ListFault → (target : Option ℕ) → List Segment → (ended : Bool)
    → Result Playlist ListFault
list_with (Some bad) target segments ended = Err bad
list_with None None segments ended = Err fault.NoTarget
list_with None (Some target) segments ended = Ok (playlist_with target segments ended)

-- the lines behind the first, which is line 1
abbrev pub list_behind : List ListLine → Result Playlist ListFault
list_behind lines = list_with (first_fault 2 [] lines) (target_in lines) (segments_in lines) (has_end lines)

abbrev pub list_in : List (List ℕ) → Result Playlist ListFault
list_in [] = Err fault.NoHeader
list_in (line ∷ lines) =
    if bytes_eq line header_line then list_behind (map list_line_of lines) else Err fault.NoHeader

-- the playlist of a text, or its fault
unfoldable pub list_of : List ℕ → Result Playlist ListFault
list_of text =
    if nat_lt MAX_PLAYLIST (length text) then Err fault.TooLong
    else if not (is_utf8 text) then Err (fault.NotUtf8 (utf8_valid_len text))
    else list_in (lines_of text)

-- The answer is that, or there was no memory.
abbrev pub ReadsList : Result Playlist ListFault → (found : Result Playlist ListFault) → Type 0
ReadsList answer found = (answer ≡ Err fault.NoMemory) ⊎ (answer ≡ found)
