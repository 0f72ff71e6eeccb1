-- The asks of a round over their lines, before they are served and after it.
use Rattle.std.specs.Prelude.{◌≡◌, ℕ, ◌+◌, List, [], ◌∷◌, Option, Some, slice_get}
use Rattle.std.specs.Option.{unwrap_or}
use Rattle.usp_edge.specs.declared.note.Note.{Note}
use Rattle.usp_script.specs.Script.{IsAsk, ScriptValue}
use Rattle.usp_script.specs.declared.ask.LabAsk.{LabAsk}
use Rattle.usp_lab.specs.Asking.{HoldsHead}
use Rattle.usp_lab.specs.Benches.{Used}
use Rattle.usp_lab.specs.Rounds.{IsServed, Served}
use Rattle.usp_lab.specs.Tokens.{carried_token}
use Rattle.usp_lab.specs.declared.round.share.Done.{Done}
use Rattle.usp_lab.specs.declared.round.share.Job.{Job}

-- an ask that is to be served: its place in the round, the bytes left on its line, and those put
pub record Task : Type 0 where
  pub place : ℕ
  pub left : Option (List ℕ)
  pub put : Option (List ℕ)

-- an ask that was served: the bytes left on its line, those put, and its note
pub record Deed : Type 0 where
  pub left : Option (List ℕ)
  pub put : Option (List ℕ)
  pub note : Note

-- the same of a job, by what its line tells
abbrev pub task_by : {L : Type 0} (left put : L → Option (List ℕ)) → Job L → Task
task_by left put job = record { place = job.place; left = left job.line; put = put job.line }

abbrev pub deed_by : {L : Type 0} (left put : L → Option (List ℕ)) → Done L → Deed
deed_by left put done = record { left = left done.line; put = put done.line; note = done.note }

-- the heads of a round, the first of which has this place, each on a line on which nothing was put
abbrev pub tasks_from : (place : ℕ) → (heads : List (List ℕ)) → List Task
tasks_from place [] = []
tasks_from place (head ∷ heads) =
    record { place = place; left = Some head; put = Some [] } ∷ tasks_from (place + 1) heads

-- how the line was used, where it tells that
abbrev pub used_of : Deed → Used
used_of deed = record { left = unwrap_or deed.left []; put = unwrap_or deed.put [] }

abbrev pub note_of : Deed → Note
note_of deed = deed.note

-- The task is an ask of the round, and its line holds the head of that with some token.
pub record IsReady (script : ScriptValue) (asks : List LabAsk) (task : Task) : Type 0 where
  pub ask : LabAsk
  pub token : Option (List ℕ)
  pub at : slice_get asks task.place ≡ Some ask
  pub is : IsAsk script.edges ask
  pub holds : HoldsHead script.edges ask token task.left task.put

-- The line holds the ask's own head, where the asks so far issued these.
pub record IsOwn (script : ScriptValue) (issued : List (Option (List ℕ))) (asks : List LabAsk) (task : Task)
    : Type 0 where
  pub ask : LabAsk
  pub at : slice_get asks task.place ≡ Some ask
  pub holds : HoldsHead script.edges ask (carried_token script issued ask.carried) task.left task.put

-- The task was done: its ask was served so, and nothing is left of its line.
pub record IsDone (script : ScriptValue) (issued : List (Option (List ℕ))) (known : ℕ) (asks : List LabAsk)
    (task : Task) (deed : Deed) (served : Served) : Type 0 where
  pub ask : LabAsk
  pub at : slice_get asks task.place ≡ Some ask
  pub is : IsServed script issued known ask served
  pub left : deed.left ≡ Some []
  pub put : deed.put ≡ Some served.text
  pub note : deed.note ≡ served.note

-- each of these tasks was done so, in their order
pub data AreDone (script : ScriptValue) (issued : List (Option (List ℕ))) (known : ℕ) (asks : List LabAsk)
    : List Task → List Deed → List Served → Type 0 where
  nothing : AreDone script issued known asks [] [] []
  another : (task : Task) (tasks : List Task) (deed : Deed) (deeds : List Deed) (served : Served) (all : List Served)
      → IsDone script issued known asks task deed served → AreDone script issued known asks tasks deeds all
      → AreDone script issued known asks (task ∷ tasks) (deed ∷ deeds) (served ∷ all)
