-- The heads of the asks of a round.
use Rattle.std.specs.Prelude.{◌≡◌, ℕ, List, [], ◌∷◌, Option, Some, slice_get}
use Rattle.usp_conf.specs.Values.{ConfValue}
use Rattle.usp_http.specs.Finding.{IsHead}
use Rattle.usp_script.specs.Script.{ScriptValue}
use Rattle.usp_script.specs.declared.ask.LabAsk.{LabAsk}
use Rattle.usp_lab.specs.LabHead.{lab_head, lab_parts}
use Rattle.usp_lab.specs.Tokens.{carried_token}

-- These bytes are the head of the ask, a whole head, where the asks so far issued these.
pub record IsHeadOf (script : ScriptValue) (issued : List (Option (List ℕ))) (ask : LabAsk) (head : List ℕ)
    : Type 0 where
  pub edge : ConfValue
  pub at : slice_get script.edges ask.edge ≡ Some edge
  pub is : head ≡ lab_head edge ask (carried_token script issued ask.carried)
  pub whole : IsHead (lab_parts edge ask (carried_token script issued ask.carried)) head []

-- each of these is the head of its ask, where the asks so far issued these
pub data AreHeads (script : ScriptValue) (issued : List (Option (List ℕ))) : List LabAsk → List (List ℕ) → Type 0 where
  nothing : AreHeads script issued [] []
  another : (ask : LabAsk) (asks : List LabAsk) (head : List ℕ) (heads : List (List ℕ))
      → IsHeadOf script issued ask head → AreHeads script issued asks heads
      → AreHeads script issued (ask ∷ asks) (head ∷ heads)
