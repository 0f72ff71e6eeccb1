-- The places that notes show are those of the calls by which they are decided, and the calls stand in one history.
use Rattle.std.proofs.Common.{◌≡◌, refl, sym, ap, ◌∙◌, ℕ, ◌≤◌, List, [], ◌∷◌, ◌++◌, length, map, option_to_list, Option, arith}
use Rattle.std.proofs.lemmas.List.{map-append}
use Rattle.usp_conf.specs.Values.{ConfValue}
use Rattle.usp_nonce.specs.History.{Call}
use Rattle.usp_nonce.specs.declared.answer.Turned.{Turned}
use Rattle.usp_edge.proofs.Counting.{calls_few}
use Rattle.usp_edge.specs.Calls.{Placed}
use Rattle.usp_edge.specs.Decided.{AreDecided, AreDecidedBy, IsDecidedBy, by_calls, by_rules, more, none}
use Rattle.usp_edge.specs.Honest.{turns_in}
use Rattle.usp_edge.specs.Outcomes.{turn_of}
use Rattle.usp_edge.specs.Seats.{StandIn, places_of}
use Rattle.usp_edge.specs.declared.note.Note.{Note}

-- ---- the places that notes show

abbrev pub shown_places : List Note → List ℕ
shown_places notes = map (λ (t : Turned). t.place) (turns_in notes)

one_place : (calls : List Placed) → length calls ≤ 1 → map (λ (t : Turned). t.place) (option_to_list (turn_of calls)) ≡ places_of calls
one_place [] few = refl
one_place (of ∷ []) few = refl
one_place (of ∷ of2 ∷ calls) few = absurd (omega (arith, few))

note_place : (conf : ConfValue) (note : Note) (calls : List Placed) → IsDecidedBy conf note calls → map (λ (t : Turned). t.place) (option_to_list note.call) ≡ places_of calls
note_place conf note calls (by_rules ask rule of judges verdict call is) =
    ap (λ (c : Option Turned). map (λ (t : Turned). t.place) (option_to_list c)) call ∙ sym (ap places_of is)
note_place conf note calls (by_calls ask content token members key of judges made verdict call) =
    ap (λ (c : Option Turned). map (λ (t : Turned). t.place) (option_to_list c)) call ∙ one_place calls (calls_few _ members content ask.moment calls made)

pub notes_places : (conf : ConfValue) (notes : List Note) (calls : List Placed) → AreDecidedBy conf notes calls → shown_places notes ≡ places_of calls
notes_places conf _ _ none = refl
notes_places conf _ _ (more note notes calls rest by behind) =
    map-append (λ (t : Turned). t.place) (option_to_list note.call) (turns_in notes)
    ∙ ((λ i. note_place conf note calls by i ++ notes_places conf notes rest behind i) ∙ sym (map-append (λ (of : Placed). of.place) calls rest))

-- ---- the history in which their calls stand

stand_front : (history : List Call) (x y : List Placed) → StandIn history (x ++ y) → StandIn history x
stand_front history [] y stand = tt
stand_front history (of ∷ x) y (here, stand) = (here, stand_front history x y stand)

stand_rest : (history : List Call) (x y : List Placed) → StandIn history (x ++ y) → StandIn history y
stand_rest history [] y stand = stand
stand_rest history (of ∷ x) y (here, stand) = stand_rest history x y stand

pub decided_in : (conf : ConfValue) (history : List Call) (notes : List Note) (calls : List Placed) → AreDecidedBy conf notes calls → StandIn history calls → AreDecided conf history notes
decided_in conf history _ _ none stand = tt
decided_in conf history _ _ (more note notes calls rest by behind) stand = (
  record { calls = calls; by = by; stand = stand_front history calls rest stand },
  decided_in conf history notes rest behind (stand_rest history calls rest stand),
)
