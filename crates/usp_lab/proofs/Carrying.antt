-- The tokens that asks carry are short.
use Rattle.std.proofs.Common.{◌≡◌, refl, ap, ◌∙◌, subst, ℕ, zero, suc, ◌-◌, ◌<◌, List, [], ◌∷◌, ◌++◌, length, Option, Some, None, arith}
use Rattle.std.specs.Prelude.{All, IfSome, slice_get, slice_index_or}
use Rattle.std.proofs.lemmas.Option.{slice_get_read}
use Rattle.std.specs.Option.{option_and_then}
use Rattle.std.proofs.lemmas.List.Elements.{All-append}
use Rattle.usp_conf.specs.Values.{ConfValue}
use Rattle.usp_script.specs.Script.{IsAsk, IsBare, IsRound, IsScript, ScriptValue, attribute_of, grants_in}
use Rattle.usp_script.specs.declared.ask.Carried.{Carried}
use Rattle.usp_script.specs.declared.ask.Carried.TheVariants.{InCookie, InQuery, Nothing}
use Rattle.usp_script.specs.declared.ask.LabAsk.{LabAsk}
use Rattle.usp_script.specs.declared.ask.Label.{Label}
use Rattle.usp_script.specs.declared.ask.Label.TheVariants.{Granted, Issued, Outside}
use Rattle.usp_script.specs.declared.ask.Round.{Round}
use Rattle.usp_lab.specs.Tokens.{carried_token, token_for}
use Rattle.usp_lab.specs.UnderWay.{IsShort}

at_place : {X : Type 0} (P : X → Type 0) (xs : List X) (place : ℕ) → All P xs → IfSome (slice_get xs place) P
at_place P [] place all = tt
at_place P (x ∷ xs) zero all = all zero x (omega arith)
at_place P (x ∷ xs) (suc place) all = at_place P xs place (λ k d lt. all (suc k) d (omega (arith, lt)))

grants_short : (edges : List ConfValue) (rounds : List Round) → All (IsRound edges) rounds
    → All IsShort (grants_in rounds)
grants_short edges [] are = λ k d lt. absurd (omega (arith, lt))
grants_short edges (round ∷ rounds) are =
    All-append IsShort round.grants (grants_in rounds) ((are zero round (omega arith)).grants)
    (grants_short edges rounds (λ k d lt. are (suc k) d (omega (arith, lt))))

inner : (o : Option (Option (List ℕ))) → IfSome o (λ issued. IfSome issued IsShort)
    → IfSome (option_and_then (λ token. token) o) IsShort
inner None short = tt
inner (Some issued) short = short

token_short : (script : ScriptValue) (issued : List (Option (List ℕ))) (label : Label) → IsScript script
    → All (λ issued. IfSome issued IsShort) issued → IfSome (token_for script issued label) IsShort
token_short script issued (Granted number) is short =
    at_place IsShort (grants_in script.rounds) (number - 1) (grants_short script.edges script.rounds is.rounds)
token_short script issued (Outside number) is short = at_place IsShort script.outsides (number - 1) is.outsides
token_short script issued (Issued number) is short =
    inner (slice_get issued (number - 1)) (at_place (λ issued. IfSome issued IsShort) issued (number - 1) short)

pub carried_short : (script : ScriptValue) (issued : List (Option (List ℕ))) (carried : Carried) → IsScript script
    → All (λ issued. IfSome issued IsShort) issued → IfSome (carried_token script issued carried) IsShort
carried_short script issued Nothing is short = tt
carried_short script issued (InQuery label) is short = token_short script issued label is short
carried_short script issued (InCookie label) is short = token_short script issued label is short

-- ---- the edge of an ask

pub bare_at : (edges : List ConfValue) (ask : LabAsk) (edge : ConfValue) → IsAsk edges ask
    → slice_get edges ask.edge ≡ Some edge → IsBare (attribute_of edge) ask.uri ask.carried
bare_at edges ask edge is at =
    subst (λ (o : Option ConfValue). IfSome o (λ e. IsBare (attribute_of e) ask.uri ask.carried)) at is.bare

pub confs_at : (edges confs : List ConfValue) (place : ℕ) (edge : ConfValue) → confs ≡ edges → place < length edges
    → edge ≡ slice_index_or confs place edge → slice_get edges place ≡ Some edge
confs_at edges confs place edge same below is =
    slice_get_read edges (length edges) place edge refl below
    (is ∙ ap (λ (l : List ConfValue). slice_index_or l place edge) same)
