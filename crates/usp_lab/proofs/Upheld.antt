-- The notes of a run at an edge are decided over the one history of that edge.
use Rattle.std.proofs.Common.{◌≡◌, refl, sym, ap, ◌∙◌, subst, ℕ, zero, suc, ◌≤◌, Bool, true, List, [], ◌∷◌, ◌++◌, length, map, option_to_list, Option, Some, inl, inr, arith}
use Rattle.std.specs.Prelude.{◌==◌}
use Rattle.std.specs.List.{slice_get}
use Rattle.std.proofs.lemmas.List.{length-map, map-append}
use Rattle.usp_conf.specs.Values.{ConfValue}
use Rattle.usp_edge.proofs.Counting.{calls_few}
use Rattle.usp_edge.specs.Calls.{Placed}
use Rattle.usp_edge.specs.Honest.{turns_in}
use Rattle.usp_edge.specs.Outcomes.{turn_of}
use Rattle.usp_edge.specs.Seats.{StandIn, places_of}
use Rattle.usp_edge.specs.declared.note.Note.{Note}
use Rattle.usp_json.proofs.Numbers.{tells}
use Rattle.usp_nonce.specs.History.{Call}
use Rattle.usp_nonce.specs.declared.answer.Turned.{Turned}
use Rattle.usp_script.specs.Script.{IsScript, ScriptValue}
use Rattle.usp_shared.specs.Places.{AreAllBelow}
use Rattle.usp_lab.proofs.Told.{IsTold, OfEach}
use Rattle.usp_lab.proofs.Counts.{all_count}
use Rattle.usp_edge.proofs.Deciding.{decided_both}
use Rattle.usp_lab.proofs.Lists.{same_some}
use Rattle.usp_lab.proofs.Tracing.{each_told}
use Rattle.usp_edge.proofs.Standing.{decided_in, notes_places, shown_places}
use Rattle.usp_edge.specs.Decided.{AreDecidedBy, Upholds, none}
use Rattle.usp_lab.specs.Entries.{Run, served_in}
use Rattle.usp_lab.specs.Notes.{notes_at}
use Rattle.usp_lab.specs.Rounds.{Served, calls_at}
use Rattle.usp_lab.specs.Turns.{HasHistory, IsRun}

-- ---- the asks at an edge

same_edge : (edges : List ConfValue) (a b : ℕ) (one other : ConfValue) → (a == b) ≡ true → slice_get edges a ≡ Some one → slice_get edges b ≡ Some other → one ≡ other
same_edge edges a b one other same at there =
    let places : a ≡ b = grind (arith, same) in
    same_some one other (sym at ∙ (ap (slice_get edges) places ∙ there))

module _ (script : ScriptValue) (place : ℕ) (edge : ConfValue) where
  decided_here : (served : Served) → IsTold script served → slice_get script.edges place ≡ Some edge → (served.ask.edge == place) ≡ true → AreDecidedBy edge (served.note ∷ []) served.calls
  decided_here served told there same =
      subst (λ (c : ConfValue). AreDecidedBy c (served.note ∷ []) served.calls) (same_edge script.edges served.ask.edge place served.edge edge same told.at there) told.decided

  decided_at : (all : List Served) → slice_get script.edges place ≡ Some edge → OfEach (IsTold script) all → AreDecidedBy edge (notes_at place all) (calls_at place all)
  decided_at [] there told = none
  decided_at (served ∷ all) there told =
      let rest = decided_at all there (λ k s e. told (suc k) s e) in
      elim (tells (served.ask.edge == place)) [
        | inl hit ↦ rw hit (decided_both edge (served.note ∷ []) (notes_at place all) served.calls (calls_at place all) (decided_here served (told zero served refl) there hit) rest)
        | inr miss ↦ rw miss rest
      ]

pub upholds : (script : ScriptValue) (workers : ℕ) (run : Run) → IsScript script → IsRun script workers run → (place : ℕ) (edge : ConfValue) → slice_get script.edges place ≡ Some edge
    → Upholds edge (length (calls_at place (served_in run))) (notes_at place (served_in run))
upholds script workers run is_script is place edge there =
    let has : HasHistory workers run place edge = is.histories place edge there in
    let calls = calls_at place (served_in run) in
    let notes = notes_at place (served_in run) in
    let by = decided_at script place edge (served_in run) there (each_told script run is_script is.runs) in
    let count : length has.history ≡ length calls = sym (all_count (length has.history) (places_of calls) has.all) ∙ length-map calls (λ (of : Placed). of.place) in
    record {
      history = has.history;
      legal = has.legal;
      count = count;
      decided = decided_in edge has.history notes calls by has.stand;
      places = subst (λ n. AreAllBelow n (shown_places notes)) count (subst (AreAllBelow (length has.history)) (sym (notes_places edge notes calls by)) has.all);
    }
