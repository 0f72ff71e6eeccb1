-- What connections come to.
use Rattle.std.specs.Prelude.{◌≡◌, ℕ, List, Option, IfSome}
use Rattle.usp_base.specs.Doors.{Gone}
use Rattle.usp_conf.specs.Values.{ConfValue}
use Rattle.usp_http.specs.Finding.{over}
use Rattle.usp_edge.specs.Calls.{Placed}
use Rattle.usp_edge.specs.Outcomes.{Find}
use Rattle.usp_edge.specs.Serving.{Did, DidProgress, Met}
use Rattle.usp_edge.specs.Session.{Progress, Session}
use Rattle.usp_edge.specs.declared.end.End.{End}
use Rattle.usp_edge.specs.declared.note.Note.{Note}
use Rattle.usp_tool.specs.Edge.Turns.{Show}

-- All that was done: the moments, the nonce calls, the reads of objects and the notes, each in order. The notes show
-- the calls, and there are at most so many.
pub record Sum {N : Type 0} (gains : N → N → List Placed → Type 0) (most : ℕ) (old new : Met N) : Type 0 where
  pub moments : List ℕ
  pub calls : List Placed
  pub finds : List Find
  pub notes : List Note
  pub did : Did gains old new moments calls finds notes
  pub show : Show most calls notes

-- neither a read nor a put failed on the line
abbrev pub HasNoFault : Gone → Type 0
HasNoFault gone = (gone.read_faults ≡ 0) × (gone.put_faults ≡ 0)

-- What was done, what was put and the end are those of one session over these bytes, behind which no more come.
pub record DidSession {N : Type 0} (gains : N → N → List Placed → Type 0) (conf : ConfValue) (bytes : List ℕ)
    (put : Option (List ℕ)) (old new : Met N) (ends : End) : Type 0 where
  pub progress : Progress
  pub session : Session conf bytes over progress ends
  pub put_is : IfSome put (λ text. text ≡ progress.text)
  pub did : DidProgress gains old new progress
