-- The part of a round that one worker serves.
use Rattle.std.specs.Prelude.{◌≡◌, ℕ, ◌+◌, ◌-◌, ◌*◌, ◌<◌, ◌≤◌, ◌%◌, All, Bool, true, false, nat_lt, if◌then◌else◌, List, [], ◌∷◌, ◌++◌, length, map, Option, slice_index_or}
use Rattle.std.specs.List.{AllByRecursion}
use Rattle.atomic_table.specs.Seated.{TableId}
use Rattle.usp_edge.specs.Seats.{SeatGains}
use Rattle.usp_edge.specs.declared.limits.TheConstants.{MAX_HEADS}
use Rattle.usp_script.specs.Script.{ScriptValue}
use Rattle.usp_script.specs.declared.ask.LabAsk.{LabAsk}
use Rattle.usp_shared.specs.Seats.{Seated}
use Rattle.usp_lab.specs.Jobs.{AreDone, Deed, IsOwn, IsReady, Task, deed_by, task_by}
use Rattle.usp_lab.specs.Rounds.{Served, calls_at}
use Rattle.usp_lab.specs.Tables.{Gets}
use Rattle.usp_lab.specs.Turns.{one_in}
use Rattle.usp_lab.specs.declared.round.share.Share.{Share}

-- what is known of a share: the tasks that are to be done, those that were, its seats by edge, and whether it was
-- done whole
pub record Part : Type 0 where
  pub tasks : List Task
  pub deeds : List Deed
  pub seats : List Seated
  pub whole : Bool

-- the same, by what its lines tell
abbrev pub part_by : {L : Type 0} (left put : L → Option (List ℕ)) → Share L → Part
part_by left put share = record {
  tasks = map (task_by left put) share.jobs.items;
  deeds = map (deed_by left put) share.done.items;
  seats = share.seats.items;
  whole = share.whole;
}

abbrev pub table_of : Seated → TableId
table_of seat = seat.table

-- nothing was done with the share, and it has no tasks yet
abbrev pub IsFreshPart : (seats : List Seated) → Part → Type 0
IsFreshPart seats part = part ≡ record { tasks = []; deeds = []; seats = seats; whole = false }

-- The share has a seat at each of these tables, with calls enough for its tasks.
pub record IsReadyPart (script : ScriptValue) (asks : List LabAsk) (boards : List TableId) (part : Part) : Type 0 where
  pub tasks : AllByRecursion (IsReady script asks) part.tasks
  pub deeds : part.deeds ≡ []
  pub tables : map table_of part.seats ≡ boards
  pub enough : All (λ seat. MAX_HEADS * length part.tasks ≤ seat.left) part.seats

-- each seat gained the calls of its edge
abbrev pub AllGain : (old new : List Seated) → List Served → Type 0
AllGain old new all = (edge : ℕ) (d : Seated) → edge < length old
    → SeatGains (slice_index_or old edge d) (slice_index_or new edge d) (calls_at edge all)

-- no seat has fewer calls left than by that many
abbrev pub LessBy : (most : ℕ) → (old new : List Seated) → Type 0
LessBy most old new = (edge : ℕ) (d : Seated) → edge < length old
    → (slice_index_or old edge d).left ≤ (slice_index_or new edge d).left + most

-- All tasks were done so, and the seats gained the calls of their asks.
pub record HasDone (script : ScriptValue) (issued : List (Option (List ℕ))) (known : ℕ) (asks : List LabAsk)
    (old new : Part) : Type 0 where
  pub all : List Served
  pub done : AreDone script issued known asks old.tasks new.deeds all
  pub gain : AllGain old.seats new.seats all

-- Whatever was issued and known, where the lines hold the heads of their asks then.
abbrev pub HasWhole : (script : ScriptValue) (asks : List LabAsk) (old new : Part) → Type 0
HasWhole script asks old new = (issued : List (Option (List ℕ))) (known : ℕ)
    → AllByRecursion (IsOwn script issued asks) old.tasks → HasDone script issued known asks old new

-- The worker served its share. Where that was not done whole, there was no memory.
pub record HasWorked (script : ScriptValue) (asks : List LabAsk) (old new : Part) : Type 0 where
  pub tables : map table_of new.seats ≡ map table_of old.seats
  pub done : new.whole ≡ true → HasWhole script asks old new

-- how many members of a list that begins at this turn go to others before one goes to that worker
abbrev pub skip_of : (count turn worker : ℕ) → ℕ
skip_of count turn worker = if nat_lt worker turn then worker + count - turn else worker - turn

-- what goes to that worker of a list whose first member has this place
abbrev pub share_of : {X : Type 0} → (count place worker : ℕ) → List X → List X
share_of count place worker xs = one_in count (skip_of count (place % count) worker) xs

-- the seat of a share at an edge
abbrev pub seat_in : {L : Type 0} (edge : ℕ) (d : Seated) → Share L → Seated
seat_in edge d share = slice_index_or share.seats.items edge d

-- These seats were taken into one, one after the other.
pub data TakenIn : Seated → List Seated → Seated → Type 0 where
  start : (old new : Seated) → new ≡ old → TakenIn old [] new
  next : (old mid new other : Seated) (seats : List Seated) → TakenIn old seats mid → Gets mid other new
      → TakenIn old (seats ++ other ∷ []) new
