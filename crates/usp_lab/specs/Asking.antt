-- What an ask is served over, and what comes of it.
use Rattle.std.specs.Prelude.{◌≡◌, ℕ, List, [], Option, Some, slice_get}
use Rattle.usp_conf.specs.Values.{ConfValue}
use Rattle.usp_edge.specs.Calls.{Placed}
use Rattle.usp_edge.specs.declared.note.Note.{Note}
use Rattle.usp_http.specs.Finding.{IsHead}
use Rattle.usp_script.specs.Script.{ScriptValue}
use Rattle.usp_script.specs.declared.ask.LabAsk.{LabAsk}
use Rattle.usp_lab.specs.LabHead.{lab_head, lab_parts}
use Rattle.usp_lab.specs.Rounds.{IsServed, Served}

-- What is left on the line is the head of the ask with this token, a whole head, and nothing was put on it.
pub record HoldsHead (edges : List ConfValue) (ask : LabAsk) (token rest text : Option (List ℕ)) : Type 0 where
  pub edge : ConfValue
  pub at : slice_get edges ask.edge ≡ Some edge
  pub whole : IsHead (lab_parts edge ask token) (lab_head edge ask token) []
  pub left : rest ≡ Some (lab_head edge ask token)
  pub fresh : text ≡ Some []

-- The ask was served and this was noted: the nonces gained its calls, nothing is left on its line, and its text was
-- put.
pub record HasServed {N : Type 0} (gains : N → N → List Placed → Type 0) (old new : N) (script : ScriptValue)
    (issued : List (Option (List ℕ))) (known : ℕ) (ask : LabAsk) (note : Note) (rest text : Option (List ℕ))
    : Type 0 where
  pub served : Served
  pub is : IsServed script issued known ask served
  pub noted : served.note ≡ note
  pub gained : gains old new served.calls
  pub left : rest ≡ Some []
  pub told : text ≡ Some served.text

-- the bytes are the head of the ask with some token, a whole head
pub record HasHead (edge : ConfValue) (ask : LabAsk) (head : List ℕ) : Type 0 where
  pub token : Option (List ℕ)
  pub is : head ≡ lab_head edge ask token
  pub whole : IsHead (lab_parts edge ask token) head []
