-- What the seats of the edges' tables gain in a round.
use Rattle.std.specs.Prelude.{◌≡◌, ℕ, ◌+◌, List, length, map, Option, Some, slice_get}
use mathlib.Core.List.{IsPrefix}
use Rattle.usp_edge.specs.Calls.{Placed}
use Rattle.usp_edge.specs.Seats.{StandIn, places_of}
use Rattle.usp_edge.specs.declared.note.Note.{Note}
use Rattle.usp_script.specs.Script.{ScriptValue}
use Rattle.usp_script.specs.declared.ask.LabAsk.{LabAsk}
use Rattle.usp_shared.specs.Places.{times}
use Rattle.usp_shared.specs.Seats.{Seated}
use Rattle.usp_lab.specs.Benches.{Used, append_used}
use Rattle.usp_lab.specs.Reports.{used_by}
use Rattle.usp_lab.specs.Rounds.{AreServed, Served, calls_at}
use Rattle.usp_lab.specs.Turns.{IsRoundAt}

-- A seat of an edge's table has the calls of the round at that edge besides its own. They stand in what it has seen,
-- behind what it had seen before, those of each worker in their order.
pub record GainsRound (workers edge : ℕ) (old new : Seated) (round : List Served) : Type 0 where
  pub table : new.table ≡ old.table
  pub places : (x : ℕ) → times x new.places ≡ times x old.places + times x (places_of (calls_at edge round))
  pub stand : StandIn new.seen (calls_at edge round)
  pub more : IsPrefix old.seen new.seen
  pub turns : IsRoundAt workers edge (length old.seen) (length new.seen) round
  pub fallen : new.left + length (calls_at edge round) ≡ old.left
  pub whole : new.left + length new.places ≡ old.left + length old.places

-- each edge's seat gains the calls of its edge
pub record HaveGained (workers : ℕ) (old new : List Seated) (round : List Served) : Type 0 where
  pub many : length new ≡ length old
  pub each : (edge : ℕ) (before after : Seated) → slice_get old edge ≡ Some before → slice_get new edge ≡ Some after
      → GainsRound workers edge before after round

-- what is known around a round: its notes, the seats of the edges' tables and the lines given back, before and after
pub record Around : Type 0 where
  pub notes : List Note
  pub seats : List Seated
  pub seats_after : List Seated
  pub lines : Option (List Used)
  pub lines_after : Option (List Used)

-- A round was served by so many workers. Its notes are those of its asks in order, its calls stand in the tables of
-- their edges, and its lines were given back in order.
pub record ServesRound (script : ScriptValue) (issued : List (Option (List ℕ))) (known workers : ℕ)
    (asks : List LabAsk) (around : Around) : Type 0 where
  pub all : List Served
  pub served : AreServed script issued known asks all
  pub notes : around.notes ≡ map (λ served. served.note) all
  pub gained : HaveGained workers around.seats around.seats_after all
  pub lines : around.lines_after ≡ append_used around.lines (map used_by all)
