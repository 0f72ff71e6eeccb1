-- What a reader of playlists has read of the lines so far.
use Rattle.std.specs.Prelude.{ℕ, Bool, List, Option}
use Rattle.usp_player.specs.declared.playlist.Segment.{Segment}

-- `duration` is that of the next URI
pub record SoFar : Type 0 where
  pub target : Option ℕ
  pub duration : Option (List ℕ)
  pub segments : List Segment
  pub ended : Bool

abbrev pub so_far : Option ℕ → Option (List ℕ) → List Segment → Bool → SoFar
so_far target duration segments ended =
    record { target = target; duration = duration; segments = segments; ended = ended }
