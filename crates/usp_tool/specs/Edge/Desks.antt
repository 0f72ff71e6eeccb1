-- What is known of a worker.
use Rattle.std.specs.Prelude.{◌≡◌, ℕ, List, [], ◌∷◌, ◌++◌, Option, None}
use Rattle.usp_base.specs.Doors.{Coming, Gone}
use Rattle.usp_shared.specs.Seats.{Seated}
use Rattle.usp_edge.specs.Serving.{Objects}
use Rattle.usp_edge.specs.declared.note.Note.{Note}
use Rattle.usp_tool.specs.Edge.AtDoor.{Post}
use Rattle.usp_tool.specs.declared.edge.visit.DoorEnd.{DoorEnd}
use Rattle.usp_tool.specs.declared.edge.visit.Visit.{Visit}
use Rattle.usp_tool.specs.declared.edge.worker.Shift.{Shift}
use Rattle.usp_tool.specs.declared.edge.worker.Worker.{Worker}

-- what is known of a worker, without its seat
pub record Desk : Type 0 where
  pub coming : Coming
  pub back : Option (List Gone)
  pub lines_out : ℕ
  pub door_faults : ℕ
  pub given : Option (List ℕ)
  pub objects : Objects
  pub object_faults : ℕ
  pub notes : List Note
  pub visits : List Visit
  pub ends : Option DoorEnd

-- the same, by what its door, its clock and its objects tell
abbrev pub desk_by : {D C O : Type 0} (coming : D → Coming) (back : D → Option (List Gone))
    (lines_out door_faults : D → ℕ) (given : C → Option (List ℕ)) (objects : O → Objects) (object_faults : O → ℕ)
    → Worker D C O → Desk
desk_by coming back lines_out door_faults given objects object_faults worker = record {
  coming = coming worker.door;
  back = back worker.door;
  lines_out = lines_out worker.door;
  door_faults = door_faults worker.door;
  given = given worker.clock;
  objects = objects worker.objects;
  object_faults = object_faults worker.objects;
  notes = worker.shift.log.notes.items;
  visits = worker.shift.log.visits.items;
  ends = worker.shift.end;
}

-- what the worker at a desk meets, with its seat
abbrev pub post_of : Desk → Seated → Post Seated
post_of desk seat = record {
  coming = desk.coming;
  back = desk.back;
  visits = desk.visits;
  met = record {
    given = desk.given;
    supplies = record { nonces = seat; objects = desk.objects; faults = desk.object_faults };
    journal = desk.notes;
  };
}

-- Nothing was done yet in this shift.
pub record IsEmpty (shift : Shift) : Type 0 where
  pub seat : shift.seat ≡ None
  pub notes : shift.log.notes.items ≡ []
  pub visits : shift.log.visits.items ≡ []
  pub ends : shift.end ≡ None

-- the desk of a worker whose shift was cleared
abbrev pub cleared : Desk → Desk
cleared desk = record desk { notes = []; visits = []; ends = None }

-- the notes of all workers, one after the other
abbrev pub all_notes : List Desk → List Note
all_notes [] = []
all_notes (desk ∷ desks) = desk.notes ++ all_notes desks

abbrev pub seat_at : {D C O : Type 0} → Worker D C O → Option Seated
seat_at worker = worker.shift.seat

-- what the worker serves by, without its shift
abbrev pub outside_of : {D C O : Type 0} → Worker D C O → D × (C × O)
outside_of worker = (worker.door, (worker.clock, worker.objects))

-- the worker with this seat, or none, and all else as it is
abbrev pub with_seat : {D C O : Type 0} → Option Seated → Worker D C O → Worker D C O
with_seat seat worker = record worker { shift = record worker.shift { seat = seat } }
