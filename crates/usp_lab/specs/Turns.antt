-- In which turns workers made the nonce calls of a run.
use Rattle.std.specs.Prelude.{◌≡◌, ℕ, zero, suc, ◌-◌, ◌<◌, List, [], ◌∷◌, length, Some, slice_get}
use Rattle.usp_conf.specs.Values.{ConfValue}
use Rattle.usp_edge.specs.Seats.{Rise, StandIn, places_of}
use Rattle.usp_nonce.specs.History.{Call, IsLegal}
use Rattle.usp_shared.specs.Places.{AreAllBelow}
use Rattle.usp_script.specs.Script.{ScriptValue}
use Rattle.usp_lab.specs.Entries.{Run, Runs, served_in}
use Rattle.usp_lab.specs.Rounds.{Served, calls_at}

-- Of a list, one in so many, behind the first that are skipped. Worker w, from 0, of a round makes the asks of
-- `one_in workers w`: those whose place in the round leaves w by division by the number of workers.
abbrev pub one_in : {X : Type 0} → (count skip : ℕ) → List X → List X
one_in count skip [] = []
one_in count zero (x ∷ xs) = x ∷ one_in count (count - 1) xs
one_in count (suc skip) (x ∷ xs) = one_in count skip xs

-- The calls of a round at an edge stand between two lengths of the edge's history, those of each worker in the order of
-- its asks.
abbrev pub IsRoundAt : (workers edge first last : ℕ) → List Served → Type 0
IsRoundAt workers edge first last round =
    (worker : ℕ) → worker < workers → Rise first last (calls_at edge (one_in workers worker round))

-- each round behind the rounds before it
pub data AreInTurn (workers edge : ℕ) : (first : ℕ) → List (List Served) → (last : ℕ) → Type 0 where
  ends : (first last : ℕ) → last ≡ first → AreInTurn workers edge first [] last
  goes_on : (first between last : ℕ) (round : List Served) (rounds : List (List Served))
      → IsRoundAt workers edge first between round → AreInTurn workers edge between rounds last
      → AreInTurn workers edge first (round ∷ rounds) last

-- All nonce calls of a run at an edge are one legal history, in which each stands once, at its place.
pub record HasHistory (workers : ℕ) (run : Run) (place : ℕ) (edge : ConfValue) : Type 0 where
  pub history : List Call
  pub legal : IsLegal edge.room history
  pub stand : StandIn history (calls_at place (served_in run))
  pub all : AreAllBelow (length history) (places_of (calls_at place (served_in run)))
  pub turns : AreInTurn workers place 0 run.rounds (length history)

-- The script was run by so many workers.
pub record IsRun (script : ScriptValue) (workers : ℕ) (run : Run) : Type 0 where
  pub runs : Runs script run
  pub histories : (place : ℕ) (edge : ConfValue) → slice_get script.edges place ≡ Some edge
      → HasHistory workers run place edge
