-- The nonce calls that notes show.
use Rattle.std.specs.Prelude.{◌≡◌, ℕ, ◌≤◌, List, length, map}
use Rattle.usp_nonce.specs.declared.answer.Turned.{Turned}
use Rattle.usp_edge.specs.Calls.{Placed, turned_of}
use Rattle.usp_edge.specs.Honest.{turns_in}
use Rattle.usp_edge.specs.declared.note.Note.{Note}

-- the answers that notes show, in their order
abbrev pub turns_of : List Note → List Turned
turns_of notes = turns_in notes

-- The notes show these calls, in their order, and there are at most so many.
pub record Show (most : ℕ) (calls : List Placed) (notes : List Note) : Type 0 where
  pub turns : turns_of notes ≡ map turned_of calls
  pub few : length calls ≤ most
