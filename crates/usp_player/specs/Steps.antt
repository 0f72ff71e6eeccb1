-- A playlist line by line, as its reader goes.
use Rattle.std.specs.Prelude.{◌≡◌, ◌⊎◌, ℕ, ◌+◌, ◌&&◌, nat_lt, Bool, true, false, List, [], ◌∷◌, ◌++◌, length, Option, Some, None, Result, Ok, Err}
use Rattle.std.specs.Option.{is_some}
use Rattle.usp_player.specs.ListLines.{ListLine, ending_line, inf_line, other_line, range_line, target_line, uri_line}
use Rattle.usp_player.specs.Lists.{duration_of, is_duration, list_with, next_uri, segment_with, target_of}
use Rattle.usp_player.specs.SoFar.{SoFar, so_far}
use Rattle.usp_player.specs.declared.fault.ListFault.{ListFault}
use Rattle.usp_player.specs.declared.fault.ListFault.TheVariants as fault
use Rattle.usp_player.specs.declared.limits.TheConstants.{MAX_SEGMENTS}
use Rattle.usp_player.specs.declared.playlist.Playlist.{Playlist}
use Rattle.usp_player.specs.declared.playlist.Segment.{Segment}

-- what is read after a line, or its fault
abbrev pub Step : Type 0
Step = Result SoFar ListFault

abbrev pub nothing_read : SoFar
nothing_read = so_far None None [] false

abbrev pub with_target : ℕ → (old found : Option ℕ) → SoFar → Step
with_target n (Some old) found read = Err (fault.BadTarget n)
with_target n None None read = Err (fault.BadTarget n)
with_target n None (Some target) read = Ok (so_far (Some target) read.duration read.segments read.ended)

abbrev pub with_duration : ℕ → (sound : Bool) → (duration : List ℕ) → SoFar → Step
with_duration n false duration read = Err (fault.BadInf n)
with_duration n true duration read = Ok (so_far read.target (Some duration) read.segments read.ended)

abbrev pub with_segment : ℕ → (is_few : Bool) → Segment → SoFar → Step
with_segment n false segment read = Err (fault.TooMany n)
with_segment n true segment read = Ok (so_far read.target None (read.segments ++ segment ∷ []) read.ended)

abbrev pub with_uri : ℕ → (duration : Option (List ℕ)) → (text : List ℕ) → SoFar → Step
with_uri n None text read = Err (fault.NoInf n)
with_uri n (Some duration) text read =
    with_segment n (nat_lt (length read.segments) MAX_SEGMENTS) (segment_with duration text) read

abbrev pub with_line : ℕ → ListLine → (later : List ListLine) → SoFar → Step
with_line n (inf_line text) later read =
    with_duration n (is_duration (duration_of text) && is_some (next_uri later)) (duration_of text) read
with_line n (target_line digits) later read = with_target n read.target (target_of digits) read
with_line n range_line later read = Err (fault.ByteRange n)
with_line n ending_line later read = Ok (so_far read.target read.duration read.segments true)
with_line n (uri_line text) later read = with_uri n read.duration text read
with_line n other_line later read = Ok read

-- the playlist of the lines from line n on, behind those that were read
abbrev pub behind : ℕ → List ListLine → Step → Result Playlist ListFault
behind n lines (Err e) = Err e
behind n [] (Ok read) = list_with None read.target read.segments read.ended
behind n (line ∷ lines) (Ok read) = behind (n + 1) lines (with_line n line lines read)

-- The step leads to what is read now, or to this fault, unless there was no memory.
abbrev pub Adds : Step → SoFar → Result Unit ListFault → Type 0
Adds step now (Ok done) = step ≡ Ok now
Adds step now (Err e) = (e ≡ fault.NoMemory) ⊎ (step ≡ Err e)
