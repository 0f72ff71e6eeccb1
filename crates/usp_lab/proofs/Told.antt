-- What is known of each ask that was served.
use Rattle.std.proofs.Common.{◌≡◌, ℕ, zero, suc, ◌<◌, List, [], ◌∷◌, ◌++◌, length, map, option_to_list, Option, Some, None, IfSome, inl, inr, refl, sym, ap, ◌∙◌, subst}
use Rattle.std.specs.Prelude.{All}
use Rattle.std.specs.List.{slice_get}
use Rattle.std.proofs.lemmas.List.{append-nil}
use Rattle.std.proofs.lemmas.List.Elements.{All-head, All-tail}
use Rattle.usp_base.specs.declared.limits.TheConstants.{MOMENT_BOUND}
use Rattle.usp_conf.specs.Values.{ConfValue}
use Rattle.usp_edge.proofs.Honesty.{session_honest}
use Rattle.usp_edge.proofs.Showing.{session_told}
use Rattle.usp_edge.specs.Calls.{Placed, turned_of}
use Rattle.usp_edge.specs.Honest.{AreHonest, AreMoments, AreShown, IsHonest}
use Rattle.usp_edge.specs.declared.end.End.TheVariants as ending
use Rattle.usp_edge.specs.declared.note.Note.{Note}
use Rattle.usp_http.specs.Finding.{over}
use Rattle.usp_nonce.specs.declared.answer.Answer.TheVariants.{Taken}
use Rattle.usp_nonce.specs.declared.answer.Turned.{Turned}
use Rattle.usp_script.specs.Script.{IsAsk, IsRound, ScriptValue}
use Rattle.usp_script.specs.declared.ask.LabAsk.{LabAsk}
use Rattle.usp_script.specs.declared.ask.Round.{Round}
use Rattle.usp_edge.proofs.Deciding.{session_decided}
use Rattle.usp_lab.proofs.Lists.{all_one_more, get_split, same_some}
use Rattle.usp_edge.specs.Decided.{AreDecidedBy, IsDecidedBy, more, none}
use Rattle.usp_lab.specs.Entries.{Run, RunsFrom, ends, opened, runs, served_in, with_round}
use Rattle.usp_lab.specs.LabHead.{lab_head}
use Rattle.usp_lab.specs.Provenance.{AreTaken}
use Rattle.usp_lab.specs.Rounds.{AreServed, IsServed, Served, another, issued_by, nothing}
use Rattle.usp_lab.specs.Tokens.{carried_token}

-- What its connection says of an ask that was served, and of its note.
pub record IsTold (script : ScriptValue) (served : Served) : Type 0 where
  pub at : slice_get script.edges served.ask.edge ≡ Some served.edge
  pub early : served.ask.moment < MOMENT_BOUND
  pub moment : served.note.moment ≡ served.ask.moment
  pub honest : IsHonest served.edge served.note
  pub shown : map turned_of served.calls ≡ option_to_list served.note.call
  pub decided : AreDecidedBy served.edge (served.note ∷ []) served.calls

same_moment : (a b : ℕ) → a ∷ [] ≡ b ∷ [] → a ≡ b
same_moment a b e = cc

pub told_of : (script : ScriptValue) (issued : List (Option (List ℕ))) (known : ℕ) (ask : LabAsk) (served : Served) → ask.moment < MOMENT_BOUND → IsServed script issued known ask served → IsTold script served
told_of script issued known ask served early s =
    let head = lab_head served.edge ask (carried_token script issued ask.carried) in
    let told = session_told served.edge head over s.progress ending.Closed s.session in
    let shown : AreShown served.calls (served.note ∷ [])
    = subst (λ c. AreShown c (served.note ∷ [])) s.calls (subst (AreShown s.progress.calls) s.notes told.0) in
    let moments : ask.moment ∷ [] ≡ served.note.moment ∷ [] = sym s.moments ∙ subst (AreMoments s.progress.moments) s.notes told.1 in
    let honest : AreHonest served.edge (served.note ∷ []) = subst (AreHonest served.edge) s.notes (session_honest served.edge head over s.progress ending.Closed s.session) in
    record {
      at = subst (λ (a : LabAsk). slice_get script.edges a.edge ≡ Some served.edge) (sym s.is) s.at;
      early = subst (λ (a : LabAsk). a.moment < MOMENT_BOUND) (sym s.is) early;
      moment = sym (same_moment ask.moment served.note.moment moments) ∙ ap (λ (a : LabAsk). a.moment) (sym s.is);
      honest = honest.0;
      shown = shown ∙ append-nil (option_to_list served.note.call);
      decided = subst (λ c. AreDecidedBy served.edge (served.note ∷ []) c) s.calls
          (subst (λ n. AreDecidedBy served.edge n s.progress.calls) s.notes (session_decided served.edge head over s.progress ending.Closed s.session));
    }

-- ---- what decides one note

no_calls : (conf : ConfValue) (notes : List Note) (calls : List Placed) → AreDecidedBy conf notes calls → notes ≡ [] → calls ≡ []
no_calls conf _ _ none is = refl
no_calls conf _ _ (more note notes calls rest by behind) is = cc

one_decided : (conf : ConfValue) (note : Note) (notes : List Note) (calls : List Placed) → AreDecidedBy conf notes calls → notes ≡ note ∷ [] → IsDecidedBy conf note calls
one_decided conf note _ _ none is = cc
one_decided conf note _ _ (more first notes calls rest by behind) is =
    let same : first ≡ note = cc in
    let over : notes ≡ [] = cc in
    let whole : calls ≡ calls ++ rest = sym (ap (λ (l : List Placed). calls ++ l) (no_calls conf notes rest behind over) ∙ append-nil calls) in
    subst (λ (c : List Placed). IsDecidedBy conf note c) whole (subst (λ (n : Note). IsDecidedBy conf n calls) same by)

-- the note of an ask is decided by its own calls
pub decided_alone : (script : ScriptValue) (served : Served) → IsTold script served → IsDecidedBy served.edge served.note served.calls
decided_alone script served told = one_decided served.edge served.note (served.note ∷ []) served.calls told.decided refl

-- ---- what the nonce calls of an ask answered

turns_taken : (calls : List Placed) (turn : Option Turned) → map turned_of calls ≡ option_to_list turn → IfSome turn (λ turned. turned.answer ≡ Taken) → AreTaken calls
turns_taken [] turn e taken = tt
turns_taken (of ∷ []) None e taken = cc
turns_taken (of ∷ []) (Some turned) e taken =
    let same : turned_of of ≡ turned = cc in
    (ap (λ (t : Turned). t.answer) same ∙ taken, tt)
turns_taken (of ∷ second ∷ calls) None e taken = cc
turns_taken (of ∷ second ∷ calls) (Some turned) e taken = cc

-- what was issued was issued behind a nonce that was taken
pub issued_taken : (script : ScriptValue) (served : Served) (token : List ℕ) → IsTold script served → served.note.issued ≡ Some token → AreTaken served.calls
issued_taken script served token told is = turns_taken served.calls served.note.call told.shown (told.honest.issued token is).taken

-- ---- each ask of a run

-- what is true of each
abbrev pub OfEach : {X : Type 0} → (X → Type 0) → List X → Type 0
OfEach {X} P xs = (number : ℕ) (x : X) → slice_get xs number ≡ Some x → P x

pub each_both : {X : Type 0} (P : X → Type 0) (xs ys : List X) → OfEach P xs → OfEach P ys → OfEach P (xs ++ ys)
each_both P xs ys first second number x e = elim (get_split xs ys number x e) [
  | inl front ↦ first number x front
  | inr later ↦ second later.0 x later.2
]

-- what is true of what is served is true of each ask of a round
pub served_each : (P : Served → Type 0) (script : ScriptValue) (issued : List (Option (List ℕ))) (known : ℕ)
    → ((ask : LabAsk) (served : Served) → IsAsk script.edges ask → IsServed script issued known ask served → P served)
    → (asks : List LabAsk) (all : List Served) → All (IsAsk script.edges) asks → AreServed script issued known asks all → OfEach P all
served_each P script issued known law _ _ are nothing number x e = cc
served_each P script issued known law _ _ are (another ask asks served all is rest) zero x e =
    subst P (same_some served x e) (law ask served (All-head (IsAsk script.edges) ask asks are) is)
served_each P script issued known law _ _ are (another ask asks served all is rest) (suc number) x e =
    served_each P script issued known law asks all (All-tail (IsAsk script.edges) ask asks are) rest number x e

-- and of each ask of a run
pub run_each : (P : Served → Type 0) (script : ScriptValue)
    → ((issued : List (Option (List ℕ))) (known : ℕ) (ask : LabAsk) (served : Served) → IsAsk script.edges ask → IsServed script issued known ask served → P served)
    → (run : Run) (rounds : List Round) (after : Run) → All (IsRound script.edges) rounds → RunsFrom script run rounds after → OfEach P (served_in run) → OfEach P (served_in after)
run_each P script law _ _ _ are (ends run after is) h = subst (λ (r : Run). OfEach P (served_in r)) (sym is) h
run_each P script law _ _ _ are (runs run after round rounds all served rest) h =
    let here = All-head (IsRound script.edges) round rounds are in
    let issued = issued_by (served_in run) in
    let known = length (opened run round) in
    run_each P script law (with_round run round all) rounds after (All-tail (IsRound script.edges) round rounds are) rest
    (subst (OfEach P) (sym (all_one_more run.rounds all))
    (each_both P (served_in run) all h (served_each P script issued known (law issued known) round.asks all here.asks served)))

pub served_told : (script : ScriptValue) (run : Run) (round : Round) (all : List Served) → IsRound script.edges round → AreServed script (issued_by (served_in run)) (length (opened run round)) round.asks all
    → OfEach (IsTold script) all
served_told script run round all is served =
    served_each (IsTold script) script (issued_by (served_in run)) (length (opened run round))
    (λ ask served one is. told_of script (issued_by (served_in run)) (length (opened run round)) ask served one.moment is) round.asks all is.asks served

pub run_told : (script : ScriptValue) (run : Run) (rounds : List Round) (after : Run) → All (IsRound script.edges) rounds → RunsFrom script run rounds after
    → OfEach (IsTold script) (served_in run) → OfEach (IsTold script) (served_in after)
run_told script = run_each (IsTold script) script (λ issued known ask served one is. told_of script issued known ask served one.moment is)
