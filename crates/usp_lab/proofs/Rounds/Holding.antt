-- Lines that hold the heads of their asks.
use Rattle.std.proofs.Common.{◌≡◌, refl, sym, ap, ◌∙◌, subst, ℕ, zero, suc, ◌+◌, ◌≤◌, ◌<◌, List, [], ◌∷◌, ◌++◌, length, map, Option, Some, None, arith}
use Rattle.std.specs.List.{AllByRecursion}
use Rattle.std.specs.Prelude.{All, slice_get}
use Rattle.std.proofs.lemmas.Option.{get_or_from_slice_get, slice_get_within}
use Rattle.usp_script.specs.Script.{IsAsk, ScriptValue}
use Rattle.usp_script.specs.declared.ask.LabAsk.{LabAsk}
use Rattle.usp_http.specs.Finding.{IsHead}
use Rattle.usp_lab.specs.Asked.{AreHeads, IsHeadOf}
use Rattle.usp_lab.specs.Asked as heads
use Rattle.usp_lab.specs.Asking.{HoldsHead}
use Rattle.usp_lab.specs.Jobs.{AreDone, Deed, IsDone, IsOwn, IsReady, Task, tasks_from}
use Rattle.usp_lab.specs.Jobs as done
use Rattle.usp_lab.specs.LabHead.{lab_head, lab_parts}
use Rattle.usp_lab.specs.Rounds.{AreServed, IsServed, Served}
use Rattle.usp_lab.specs.Rounds as serves
use Rattle.usp_lab.specs.Tokens.{carried_token}

same_some : {X : Type 0} (x y : X) → Some x ≡ Some y → x ≡ y
same_some x y is = cc

-- these asks are the others from that place on
abbrev pub AreFrom : (asks : List LabAsk) (place : ℕ) → List LabAsk → Type 0
AreFrom asks place rest = (k : ℕ) → slice_get asks (place + k) ≡ slice_get rest k

from_next : (asks : List LabAsk) (place : ℕ) (ask : LabAsk) (rest : List LabAsk) → AreFrom asks place (ask ∷ rest) → AreFrom asks (place + 1) rest
from_next asks place ask rest are k = ap (slice_get asks) (let e : place + 1 + k ≡ place + suc k = omega arith in e) ∙ are (suc k)

from_here : (asks : List LabAsk) (place : ℕ) (ask : LabAsk) (rest : List LabAsk) → AreFrom asks place (ask ∷ rest) → slice_get asks place ≡ Some ask
from_here asks place ask rest are = ap (slice_get asks) (let e : place ≡ place + 0 = omega arith in e) ∙ are 0

pub from_first : (asks : List LabAsk) → AreFrom asks 0 asks
from_first asks k = ap (slice_get asks) (let e : 0 + k ≡ k = omega arith in e)

module _ (script : ScriptValue) (issued : List (Option (List ℕ))) (asks : List LabAsk) where
  holds_of : (ask : LabAsk) (head : List ℕ) → IsHeadOf script issued ask head
      → HoldsHead script.edges ask (carried_token script issued ask.carried) (Some head) (Some [])
  holds_of ask head is = record {
    edge = is.edge;
    at = is.at;
    whole = subst (λ l. IsHead (lab_parts is.edge ask (carried_token script issued ask.carried)) l []) is.is is.whole;
    left = ap Some is.is;
    fresh = refl;
  }

  pub own_from : (place : ℕ) (rest : List LabAsk) (heads : List (List ℕ)) → AreFrom asks place rest → AreHeads script issued rest heads
      → AllByRecursion (IsOwn script issued asks) (tasks_from place heads)
  own_from place _ _ are heads.nothing = tt
  own_from place _ _ are (heads.another ask rest head more is so) = (
    record { ask = ask; at = from_here asks place ask rest are; holds = holds_of ask head is },
    own_from (place + 1) rest more (from_next asks place ask rest are) so,
  )

  ready_of : (task : Task) → All (IsAsk script.edges) asks → IsOwn script issued asks task → IsReady script asks task
  ready_of task are own = record {
    ask = own.ask;
    token = carried_token script issued own.ask.carried;
    at = own.at;
    is = subst (IsAsk script.edges) (get_or_from_slice_get asks task.place own.ask own.ask own.at) (are task.place own.ask (slice_get_within asks task.place own.ask own.at));
    holds = own.holds;
  }

  pub ready_all : (tasks : List Task) → All (IsAsk script.edges) asks → AllByRecursion (IsOwn script issued asks) tasks → AllByRecursion (IsReady script asks) tasks
  ready_all [] are own = tt
  ready_all (task ∷ tasks) are (here, own) = (ready_of task are here, ready_all tasks are own)

  pub served_from : (known place : ℕ) (rest : List LabAsk) (heads : List (List ℕ)) (deeds : List Deed) (all : List Served) → AreFrom asks place rest
      → AreHeads script issued rest heads → AreDone script issued known asks (tasks_from place heads) deeds all → AreServed script issued known rest all
  served_from known place _ _ _ _ are heads.nothing done.nothing = serves.nothing
  served_from known place _ _ _ _ are (heads.another ask rest head more is so) (done.another task tasks deed deeds served all here below) =
      serves.another ask rest served all
      (subst (λ a. IsServed script issued known a served) (same_some here.ask ask (sym here.at ∙ from_here asks place ask rest are)) here.is)
      (served_from known (place + 1) rest more deeds all (from_next asks place ask rest are) so below)

pub heads_many : (script : ScriptValue) (issued : List (Option (List ℕ))) (asks : List LabAsk) (heads : List (List ℕ)) → AreHeads script issued asks heads → length heads ≡ length asks
heads_many script issued _ _ heads.nothing = refl
heads_many script issued _ _ (heads.another ask rest head more is so) = ap suc (heads_many script issued rest more so)

pub tasks_many : (place : ℕ) (heads : List (List ℕ)) → length (tasks_from place heads) ≡ length heads
tasks_many place [] = refl
tasks_many place (head ∷ heads) = ap suc (tasks_many (place + 1) heads)
