-- What the worker at a door does.
use Rattle.std.specs.Prelude.{◌≡◌, ℕ, ◌+◌, ◌<◌, List, [], ◌∷◌, ◌++◌, length, Option}
use Rattle.usp_base.specs.Doors.{Coming, Gone, IsFresh, IsNoMore, known_first, known_more}
use Rattle.usp_base.specs.Outside.{Rose}
use Rattle.usp_conf.specs.Values.{ConfValue}
use Rattle.usp_edge.specs.Calls.{Placed}
use Rattle.usp_edge.specs.Serving.{Line, Met, Served}
use Rattle.usp_edge.specs.declared.end.End.{End}
use Rattle.usp_tool.specs.declared.edge.visit.DoorEnd.{DoorEnd}
use Rattle.usp_tool.specs.declared.edge.visit.DoorEnd.TheVariants as door
use Rattle.usp_tool.specs.declared.edge.visit.Visit.{Visit}

-- what a worker meets: what its door tells, its visits, and what it serves the connections with
pub record Post (N : Type 0) : Type 0 where
  pub coming : Coming
  pub back : Option (List Gone)
  pub visits : List Visit
  pub met : Met N

-- what the door is told of a line that it gets back
abbrev pub gone_line : Line → Gone
gone_line line = record {
  told = line.told_after;
  read_faults = line.around.faults_after;
  put_faults = line.put_faults_after;
}

-- One connection was served: the first of those to come, on which nothing was done yet. It was given back, and is the
-- last visit, with the number of its notes.
pub record Visited {N : Type 0} (gains : N → N → List Placed → Type 0) (conf : ConfValue) (old new : Post N)
    : Type 0 where
  pub line : Line
  pub ends : End
  pub notes : ℕ
  pub fresh : IsFresh line.around.faults line.put_faults line.told
  pub came : old.coming ≡ known_first line.around.left new.coming
  pub served : Served gains conf line old.met new.met ends
  pub back : new.back ≡ known_more old.back (gone_line line)
  pub counted : length old.met.journal + notes ≡ length new.met.journal
  pub visited : new.visits ≡ old.visits ++ record { notes = notes; «end» = ends } ∷ []

-- So many connections were served, one after the other.
pub data AtDoor {N : Type 0} (gains : N → N → List Placed → Type 0) (conf : ConfValue)
    : ℕ → Post N → Post N → Type 0 where
  nobody : (old new : Post N) → new ≡ old → AtDoor gains conf 0 old new
  further : (count : ℕ) (old mid new : Post N) → AtDoor gains conf count old mid → Visited gains conf mid new
      → AtDoor gains conf (count + 1) old new

-- what the end of a worker's work says
abbrev pub EndsBy : DoorEnd → (most count : ℕ) → Coming → (faults faults_after : ℕ) → Type 0
EndsBy door.Ended most count coming faults faults_after = (count < most) × IsNoMore coming
EndsBy door.Most most count coming faults faults_after = count ≡ most
EndsBy door.DoorFault most count coming faults faults_after = (count < most) × Rose faults faults_after
EndsBy door.NoMemory most count coming faults faults_after = count < most

-- The whole work of one worker.
pub record Works {N : Type 0} (gains : N → N → List Placed → Type 0) (conf : ConfValue) (most : ℕ) (old new : Post N)
    (faults faults_after : ℕ) (result : DoorEnd) : Type 0 where
  pub count : ℕ
  pub visits : AtDoor gains conf count old new
  pub ends : EndsBy result most count new.coming faults faults_after
