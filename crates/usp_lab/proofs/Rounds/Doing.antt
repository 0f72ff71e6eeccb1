-- Tasks that were done.
use Rattle.std.proofs.Common.{◌≡◌, refl, sym, ap, ◌∙◌, subst, ℕ, zero, suc, ◌+◌, ◌*◌, ◌≤◌, ◌<◌, List, [], ◌∷◌, ◌++◌, length, map, length-append, mul-suc, if◌then◌else◌, Bool, true, false, Option, Some, None, arith}
use Rattle.std.specs.Option.{unwrap_or}
use Rattle.std.specs.Prelude.{◌==◌}
use Rattle.usp_edge.specs.Calls.{Placed}
use Rattle.usp_edge.specs.declared.end.End.TheVariants as ending
use Rattle.usp_edge.specs.declared.limits.TheConstants.{MAX_HEADS}
use Rattle.usp_edge.specs.declared.note.Note.{Note}
use Rattle.usp_edge.proofs.MostCalls.{session_few}
use Rattle.usp_http.specs.Finding.{over}
use Rattle.usp_script.specs.Script.{ScriptValue}
use Rattle.usp_script.specs.declared.ask.LabAsk.{LabAsk}
use Rattle.usp_lab.specs.Benches.{Used}
use Rattle.usp_lab.specs.Jobs.{AreDone, Deed, IsDone, Task, another, note_of, nothing, used_of}
use Rattle.usp_lab.specs.LabHead.{lab_head}
use Rattle.usp_lab.specs.Reports.{used_by}
use Rattle.usp_lab.specs.Rounds.{IsServed, Served, calls_at}
use Rattle.usp_lab.specs.Tokens.{carried_token}
use Rattle.usp_lab.proofs.Rounds.Calling.{calls_here}
use Rattle.usp_lab.proofs.Rounds.Merging.{Pairs}

-- a deed, and what was served by it
pub record Couple : Type 0 where
  pub deed : Deed
  pub served : Served

abbrev pub deed_in : Couple → Deed
deed_in couple = couple.deed

abbrev pub served_in : Couple → Served
served_in couple = couple.served

abbrev used_made : (left put : Option (List ℕ)) → Used
used_made left put = record { left = unwrap_or left []; put = unwrap_or put [] }

used_same : (deed : Deed) (served : Served) → deed.left ≡ Some [] → deed.put ≡ Some served.text → used_of deed ≡ used_by served
used_same deed served left put =
    ap (λ (o : Option (List ℕ)). used_made o deed.put) left ∙ ap (used_made (Some [])) put

module _ (script : ScriptValue) (issued : List (Option (List ℕ))) (known : ℕ) (asks : List LabAsk) where
  pub done_more : (tasks : List Task) (deeds : List Deed) (all : List Served) (task : Task) (deed : Deed) (served : Served)
      → AreDone script issued known asks tasks deeds all → IsDone script issued known asks task deed served
      → AreDone script issued known asks (tasks ++ task ∷ []) (deeds ++ deed ∷ []) (all ++ served ∷ [])
  done_more _ _ _ task deed served nothing last = another task [] deed [] served [] last nothing
  done_more _ _ _ task deed served (another first tasks one deeds other all here more) last =
      another first (tasks ++ task ∷ []) one (deeds ++ deed ∷ []) other (all ++ served ∷ []) here (done_more tasks deeds all task deed served more last)

  abbrev pub Does : Task → Couple → Type 0
  Does task couple = IsDone script issued known asks task couple.deed couple.served

  pub record Coupled (tasks : List Task) (made : List Deed) (whole : List Served) : Type 0 where
    pub couples : List Couple
    pub pairs : Pairs Does tasks couples
    pub deeds : map deed_in couples ≡ made
    pub all : map served_in couples ≡ whole

  pub couple : (tasks : List Task) (deeds : List Deed) (all : List Served) → AreDone script issued known asks tasks deeds all → Coupled tasks deeds all
  couple _ _ _ nothing = record { couples = []; pairs = tt; deeds = refl; all = refl }
  couple _ _ _ (another task tasks deed deeds served all here more) =
      let below = couple tasks deeds all more in
      record {
        couples = record { deed = deed; served = served } ∷ below.couples;
        pairs = (here, below.pairs);
        deeds = ap (λ l. deed ∷ l) below.deeds;
        all = ap (λ l. served ∷ l) below.all;
      }

  pub uncouple : (tasks : List Task) (couples : List Couple) → Pairs Does tasks couples
      → AreDone script issued known asks tasks (map deed_in couples) (map served_in couples)
  uncouple [] [] pairs = nothing
  uncouple [] (c ∷ couples) pairs = absurd pairs
  uncouple (task ∷ tasks) [] pairs = absurd pairs
  uncouple (task ∷ tasks) (c ∷ couples) (here, pairs) =
      another task tasks c.deed (map deed_in couples) c.served (map served_in couples) here (uncouple tasks couples pairs)

  pub done_notes : (tasks : List Task) (deeds : List Deed) (all : List Served) → AreDone script issued known asks tasks deeds all
      → map note_of deeds ≡ map (λ served. served.note) all
  done_notes _ _ _ nothing = refl
  done_notes _ _ _ (another task tasks deed deeds served all here more) =
      ap (λ (n : Note). n ∷ map note_of deeds) here.note ∙ ap (λ l. served.note ∷ l) (done_notes tasks deeds all more)

  pub done_lines : (tasks : List Task) (deeds : List Deed) (all : List Served) → AreDone script issued known asks tasks deeds all
      → map used_of deeds ≡ map used_by all
  done_lines _ _ _ nothing = refl
  done_lines _ _ _ (another task tasks deed deeds served all here more) =
      ap (λ (u : Used). u ∷ map used_of deeds) (used_same deed served here.left here.put) ∙ ap (λ l. used_by served ∷ l) (done_lines tasks deeds all more)

  pub done_many : (tasks : List Task) (deeds : List Deed) (all : List Served) → AreDone script issued known asks tasks deeds all → length deeds ≡ length tasks
  done_many _ _ _ nothing = refl
  done_many _ _ _ (another task tasks deed deeds served all here more) = ap suc (done_many tasks deeds all more)

  pub served_many : (tasks : List Task) (deeds : List Deed) (all : List Served) → AreDone script issued known asks tasks deeds all → length all ≡ length tasks
  served_many _ _ _ nothing = refl
  served_many _ _ _ (another task tasks deed deeds served all here more) = ap suc (served_many tasks deeds all more)

  -- an ask makes no more calls than a connection may
  calls_few : (ask : LabAsk) (served : Served) → IsServed script issued known ask served → length served.calls ≤ MAX_HEADS
  calls_few ask served is =
      subst (λ l. length l ≤ MAX_HEADS) is.calls
      (session_few served.edge (lab_head served.edge ask (carried_token script issued ask.carried)) over is.progress ending.Closed is.session)

  here_few : (served : Served) (at : Bool) → length served.calls ≤ MAX_HEADS → length (if at then served.calls else []) ≤ MAX_HEADS
  here_few served true few = few
  here_few served false few = omega arith

  pub done_few : (edge : ℕ) (tasks : List Task) (deeds : List Deed) (all : List Served) → AreDone script issued known asks tasks deeds all
      → length (calls_at edge all) ≤ MAX_HEADS * length tasks
  done_few edge _ _ _ nothing = omega arith
  done_few edge _ _ _ (another task tasks deed deeds served all here more) =
      let one = here_few served (served.ask.edge == edge) (calls_few here.ask served here.is) in
      let below = done_few edge tasks deeds all more in
      let long = length-append (calls_here edge served) (calls_at edge all) in
      omega (arith, one, below, long)
