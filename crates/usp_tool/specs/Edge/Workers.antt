-- What the workers of an edge do together.
use Rattle.std.specs.Prelude.{◌≡◌, ℕ, ◌≤◌, ◌*◌, List, [], ◌∷◌, ◌++◌, length, Option, Some}
use Rattle.atomic_table.specs.Seated.{TableId}
use Rattle.usp_conf.specs.Values.{ConfValue}
use Rattle.usp_nonce.specs.History.{Call, IsLegal}
use Rattle.usp_shared.specs.Places.{AreAllBelow}
use Rattle.usp_shared.specs.Seats.{Seated}
use Rattle.usp_edge.specs.Calls.{Placed}
use Rattle.usp_edge.specs.Seats.{SeatGains, StandIn, places_of}
use Rattle.usp_edge.specs.declared.limits.TheConstants.{MAX_HEADS}
use Rattle.usp_edge.specs.declared.note.Note.{Note}
use Rattle.usp_tool.specs.Edge.AtDoor.{Works}
use Rattle.usp_edge.specs.Decided.{AreDecidedBy}
use Rattle.usp_tool.specs.Edge.Desks.{Desk, post_of}
use Rattle.usp_tool.specs.declared.edge.visit.DoorEnd.{DoorEnd}
use Rattle.usp_tool.specs.declared.edge.worker.Worker.{Worker}

-- The worker made one call of `serve_door`, and nothing else. These are its nonce calls, in order, and these its
-- notes. Each note is decided by its own calls.
pub record Sits (conf : ConfValue) (most : ℕ) (old new : Desk) (first last : Seated) : Type 0 where
  pub result : DoorEnd
  pub ends : new.ends ≡ Some result
  pub lines_out : new.lines_out ≡ old.lines_out
  pub works : Works SeatGains conf most (post_of old first) (post_of new last) old.door_faults new.door_faults result
  pub calls : List Placed
  pub notes : List Note
  pub gained : SeatGains first last calls
  pub noted : new.notes ≡ old.notes ++ notes
  pub decided : AreDecidedBy conf notes calls

-- The worker has a seat of this table, with calls enough.
pub record IsReady (table : TableId) (most : ℕ) (seat : Option Seated) : Type 0 where
  pub given : Seated
  pub is : seat ≡ Some given
  pub of_table : given.table ≡ table
  pub enough : MAX_HEADS * most ≤ given.left

-- The worker served with its seat, and has it still.
pub record HasSat (conf : ConfValue) (most : ℕ) (old new : Desk) (seat seat_after : Option Seated) : Type 0 where
  pub first : Seated
  pub last : Seated
  pub first_is : seat ≡ Some first
  pub last_is : seat_after ≡ Some last
  pub sits : Sits conf most old new first last

-- the same of a worker, which this desk tells of
abbrev pub HasWorked : {D C O : Type 0} → (Worker D C O → Desk) → (conf : ConfValue) → (most : ℕ)
    → (old new : Worker D C O) → Type 0
HasWorked desk conf most old new = HasSat conf most (desk old) (desk new) old.shift.seat new.shift.seat

-- The worker served, and its nonce calls stand in the history.
pub record HasServed (conf : ConfValue) (most : ℕ) (history : List Call) (old new : Desk) : Type 0 where
  pub first : Seated
  pub last : Seated
  pub sits : Sits conf most old new first last
  pub stand : StandIn history sits.calls

-- All workers served, and their calls, worker after worker, stand at these places.
pub data HaveServed (conf : ConfValue) (most : ℕ) (history : List Call)
    : (old new : List Desk) → List ℕ → Type 0 where
  nobody : HaveServed conf most history [] [] []
  another : (old new : Desk) (olds news : List Desk) (places : List ℕ) (has : HasServed conf most history old new)
      → HaveServed conf most history olds news places
      → HaveServed conf most history (old ∷ olds) (new ∷ news) (places_of has.sits.calls ++ places)

-- All nonce calls of all workers are one legal history of n calls. The places are those below n, each once.
pub record OneHistory (conf : ConfValue) (most n : ℕ) (old new : List Desk) : Type 0 where
  pub history : List Call
  pub legal : IsLegal conf.room history
  pub count : length history ≡ n
  pub places : List ℕ
  pub served : HaveServed conf most history old new places
  pub all : AreAllBelow n places
