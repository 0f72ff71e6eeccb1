-- What the asks of a round issued is short.
use Rattle.std.proofs.Common.{◌≡◌, refl, sym, ap, ◌∙◌, subst, ℕ, zero, suc, ◌≤◌, ◌<◌, List, [], ◌∷◌, length, Option, Some, None, arith}
use Rattle.std.specs.Prelude.{All, IfSome, slice_get}
use Rattle.std.proofs.lemmas.Option.{get_or_from_slice_get, slice_get_within}
use Rattle.usp_conf.specs.Values.{ConfValue}
use Rattle.usp_script.specs.Script.{IsAsk, ScriptValue}
use Rattle.usp_script.specs.declared.ask.LabAsk.{LabAsk}
use Rattle.usp_base.specs.declared.limits.TheConstants.{MOMENT_BOUND}
use Rattle.usp_lab.specs.Named.{HasNamedKeys}
use Rattle.usp_lab.specs.Rounds.{AreServed, IsServed, Served, another, issued_by, nothing}
use Rattle.usp_lab.specs.UnderWay.{IsShort}
use Rattle.usp_lab.proofs.Honest.{issued_short, served_honest, served_moment}

named_at : (edges : List ConfValue) (place : ℕ) (edge : ConfValue) → All HasNamedKeys edges
    → slice_get edges place ≡ Some edge → HasNamedKeys edge
named_at edges place edge all at =
    subst HasNamedKeys (get_or_from_slice_get edges place edge edge at)
    (all place edge (slice_get_within edges place edge at))

some_short : (issued : Option (List ℕ)) → ((token : List ℕ) → issued ≡ Some token → IsShort token)
    → IfSome issued IsShort
some_short None short = tt
some_short (Some token) short = short token refl

one_short : (script : ScriptValue) (issued : List (Option (List ℕ))) (known : ℕ) (ask : LabAsk) (served : Served)
    → All HasNamedKeys script.edges → IsAsk script.edges ask → IsServed script issued known ask served
    → IfSome served.note.issued IsShort
one_short script issued known ask served named asked is =
    some_short served.note.issued
    (λ token it. issued_short served.edge served.note token (named_at script.edges ask.edge served.edge named is.at)
    (subst (λ n. n < MOMENT_BOUND) (sym (served_moment script issued known ask served is)) asked.moment)
    (served_honest script issued known ask served is) it)

pub all_short : (script : ScriptValue) (issued : List (Option (List ℕ))) (known : ℕ) (asks : List LabAsk)
    (all : List Served) → All HasNamedKeys script.edges → All (IsAsk script.edges) asks
    → AreServed script issued known asks all → All (λ issued. IfSome issued IsShort) (issued_by all)
all_short script issued known _ _ named asked nothing k d lt = absurd (omega (arith, lt))
all_short script issued known _ _ named asked (another ask asks served all is so) zero d lt =
    one_short script issued known ask served named (asked zero ask (omega arith)) is
all_short script issued known _ _ named asked (another ask asks served all is so) (suc k) d lt =
    all_short script issued known asks all named (λ j e lt. asked (suc j) e (omega (arith, lt))) so k d
    (omega (arith, lt))
