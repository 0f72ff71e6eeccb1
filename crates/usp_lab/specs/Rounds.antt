-- What the asks of a script were served, round after round.
use Rattle.std.specs.Prelude.{◌≡◌, ℕ, ◌==◌, List, [], ◌∷◌, ◌++◌, map, Option, Some, slice_get, if◌then◌else◌}
use Rattle.usp_conf.specs.Values.{ConfValue}
use Rattle.usp_edge.specs.Calls.{Placed}
use Rattle.usp_edge.specs.Outcomes.{Find, object}
use Rattle.usp_edge.specs.Session.{Progress, Session}
use Rattle.usp_edge.specs.declared.end.End.TheVariants as ending
use Rattle.usp_edge.specs.declared.note.Note.{Note}
use Rattle.usp_http.specs.Finding.{over}
use Rattle.usp_script.specs.Script.{ScriptValue, object_at}
use Rattle.usp_script.specs.declared.ask.LabAsk.{LabAsk}
use Rattle.usp_script.specs.declared.ask.LabObject.{LabObject}
use Rattle.usp_lab.specs.LabHead.{lab_head}
use Rattle.usp_lab.specs.Tokens.{carried_token}

-- An ask that was served: its edge, what was noted of it, its nonce calls, what was put on its line, and how many
-- tokens the ledger had as its round began.
pub record Served : Type 0 where
  pub ask : LabAsk
  pub edge : ConfValue
  pub note : Note
  pub calls : List Placed
  pub text : List ℕ
  pub known : ℕ

-- the objects were found as the script has them
abbrev pub AreFinds : List LabObject → (edge : ℕ) → List Find → Type 0
AreFinds objects edge [] = Unit {0}
AreFinds objects edge (find ∷ finds) =
    (find.found ≡ object (object_at objects edge find.uri)) × AreFinds objects edge finds

-- The ask is one connection whose bytes are its head, served at its moment. It is one request, behind which the
-- connection ends, and nothing is left of it.
pub record IsServed (script : ScriptValue) (issued : List (Option (List ℕ))) (known : ℕ) (ask : LabAsk)
    (served : Served) : Type 0 where
  pub is : served.ask ≡ ask
  pub at : slice_get script.edges ask.edge ≡ Some served.edge
  pub progress : Progress
  pub session : Session served.edge (lab_head served.edge ask (carried_token script issued ask.carried)) over progress
      ending.Closed
  pub rest : progress.rest ≡ []
  pub moments : progress.moments ≡ ask.moment ∷ []
  pub finds : AreFinds script.objects ask.edge progress.finds
  pub notes : progress.notes ≡ served.note ∷ []
  pub calls : progress.calls ≡ served.calls
  pub text : progress.text ≡ served.text
  pub since : served.known ≡ known

-- each of these asks was served so, in their order
pub data AreServed (script : ScriptValue) (issued : List (Option (List ℕ))) (known : ℕ)
    : List LabAsk → List Served → Type 0 where
  nothing : AreServed script issued known [] []
  another : (ask : LabAsk) (asks : List LabAsk) (served : Served) (all : List Served)
      → IsServed script issued known ask served → AreServed script issued known asks all
      → AreServed script issued known (ask ∷ asks) (served ∷ all)

-- what each of these asks issued
abbrev pub issued_by : List Served → List (Option (List ℕ))
issued_by all = map (λ served. served.note.issued) all

-- the nonce calls at an edge, by the asks in order
abbrev pub calls_at : (edge : ℕ) → List Served → List Placed
calls_at edge [] = []
calls_at edge (served ∷ all) = (if served.ask.edge == edge then served.calls else []) ++ calls_at edge all

-- all rounds, one after the other
abbrev pub all_of : {X : Type 0} → List (List X) → List X
all_of [] = []
all_of (xs ∷ more) = xs ++ all_of more
