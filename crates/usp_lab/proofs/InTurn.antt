-- With one worker the nonce calls of an edge come in the order of the asks.
use Rattle.std.proofs.Common.{◌≡◌, refl, sym, ap, ◌∙◌, subst, ℕ, zero, suc, ◌+◌, ◌≤◌, ◌<◌, List, [], ◌∷◌, ◌++◌, length, Option, Some, inl, inr, arith, append_assoc}
use Rattle.std.specs.Prelude.{◌==◌, if◌then◌else◌, ◌⊎◌}
use Rattle.std.specs.List.{slice_get}
use Rattle.std.proofs.lemmas.List.{length-map}
use Rattle.usp_conf.specs.Values.{ConfValue}
use Rattle.usp_edge.specs.Calls.{ArePlaces, Placed, calls_of}
use Rattle.usp_edge.specs.SeatLaws.{rise_through}
use Rattle.usp_edge.specs.Seats.{Rise, StandIn, places_of}
use Rattle.usp_json.proofs.Numbers.{tells}
use Rattle.usp_nonce.specs.History.{Call, IsLegal}
use Rattle.usp_shared.proofs.Counts.{once_at}
use Rattle.usp_shared.specs.Places.{AreAllBelow, times}
use Rattle.usp_lab.proofs.Counts.{all_count, one_if}
use Rattle.usp_lab.proofs.Lists.{same_some}
use Rattle.usp_lab.specs.Entries.{Run, served_in}
use Rattle.usp_lab.specs.Rounds.{Served, all_of, calls_at}
use Rattle.usp_lab.specs.Turns.{AreInTurn, HasHistory, ends, goes_on, one_in}

-- ---- all rounds

rise_lower : (from low to : ℕ) (x : List Placed) → low ≤ from → Rise from to x → Rise low to x
rise_lower from low to [] le rise = omega (arith, le, rise)
rise_lower from low to (of ∷ x) le rise = let here = rise.0 in (omega (arith, le, here), rise.1)

rise_both : (from between to : ℕ) (x y : List Placed) → Rise from between x → Rise between to y → Rise from to (x ++ y)
rise_both from between to [] y first second = rise_lower between from to y first second
rise_both from between to (of ∷ x) y first second = (first.0, rise_both (of.place + 1) between to x y first.1 second)

-- one worker makes all asks
one_worker : (all : List Served) → one_in 1 0 all ≡ all
one_worker [] = refl
one_worker (served ∷ all) = ap (λ (l : List Served). served ∷ l) (one_worker all)

calls_both : (edge : ℕ) (x y : List Served) → calls_at edge (x ++ y) ≡ calls_at edge x ++ calls_at edge y
calls_both edge [] y = refl
calls_both edge (served ∷ x) y =
    let here = if served.ask.edge == edge then served.calls else [] in
    ap (λ (l : List Placed). here ++ l) (calls_both edge x y) ∙ sym (append_assoc here (calls_at edge x) (calls_at edge y))

-- the calls rise through all rounds
all_rise : (edge first last : ℕ) (rounds : List (List Served)) → AreInTurn 1 edge first rounds last → Rise first last (calls_at edge (all_of rounds))
all_rise edge _ _ _ (ends first last is) = omega (arith, is)
all_rise edge _ _ _ (goes_on first between last round rounds here behind) =
    let worker : Rise first between (calls_at edge round) = subst (λ (l : List Served). Rise first between (calls_at edge l)) (one_worker round) (here 0 (omega arith)) in
    subst (Rise first last) (sym (calls_both edge round (all_of rounds)))
    (rise_both first between last (calls_at edge round) (calls_at edge (all_of rounds)) worker (all_rise edge between last rounds behind))

-- ---- their places

-- no call stands before the first
never_before : (x from to : ℕ) (calls : List Placed) → x < from → Rise from to calls → times x (places_of calls) ≡ 0
never_before x from to [] before rise = refl
never_before x from to (of ∷ calls) before rise =
    let le = rise.0 in
    let rest = never_before x (of.place + 1) to calls (omega (arith, before, le)) rise.1 in
    let other : one_if (of.place == x) ≡ 0 = grind (arith, before, le) in
    let sum : one_if (of.place == x) + times x (places_of calls) ≡ 0 = omega (arith, rest, other) in sum

-- each number between them is a place
abbrev AreThere : (from to : ℕ) → List Placed → Type 0
AreThere from to calls = (x : ℕ) → from ≤ x → x < to → 1 ≤ times x (places_of calls)

first_of_all : (from to : ℕ) (of : Placed) (calls : List Placed) → Rise from to (of ∷ calls) → AreThere from to (of ∷ calls) → of.place ≡ from
first_of_all from to of calls rise there = elim (tells (of.place == from)) [
  | inl hit ↦ grind (arith, hit)
  | inr miss ↦
      let through = rise_through (of.place + 1) to calls rise.1 in
      let le = rise.0 in
      let above : from < of.place = grind (arith, miss, le) in
      let whole : 1 ≤ one_if (of.place == from) + times from (places_of calls) = there from (omega arith) (omega (arith, through, le)) in
      let none = never_before from (of.place + 1) to calls (omega (arith, le)) rise.1 in
      let other : one_if (of.place == from) ≡ 0 = rw miss refl in
      absurd (omega (arith, whole, none, other))
]

in_order : (from to : ℕ) (calls : List Placed) → Rise from to calls → AreThere from to calls → ArePlaces from calls
in_order from to [] rise there = tt
in_order from to (of ∷ calls) rise there =
    let here = first_of_all from to of calls rise there in
    let rest : Rise (from + 1) to calls = subst (λ n. Rise (n + 1) to calls) here rise.1 in
    let others : AreThere (from + 1) to calls
    = λ x above below.
    let whole : 1 ≤ one_if (of.place == x) + times x (places_of calls) = there x (omega (arith, above)) below in
    let other : one_if (of.place == x) ≡ 0 = grind (arith, above, here) in omega (arith, whole, other) in
    (here, in_order (from + 1) to calls rest others)

pub goes_in_order : (run : Run) (place : ℕ) (edge : ConfValue) → HasHistory 1 run place edge → ArePlaces 0 (calls_at place (served_in run))
goes_in_order run place edge has =
    let calls = calls_at place (served_in run) in
    let n = length has.history in
    in_order 0 n calls (all_rise place 0 n run.rounds has.turns) (λ x above below. omega (arith, has.all.just x, once_at n x below))

-- ---- their history

get_whole : (front history : List Call) (k : ℕ) (call : Call) → slice_get (front ++ history) (length front) ≡ Some call → (rest : List Call) × (history ≡ call ∷ rest)
get_whole [] [] k call e = cc
get_whole [] (first ∷ history) k call e = (history, ap (λ (c : Call). c ∷ history) (same_some first call e))
get_whole (x ∷ front) history k call e = get_whole front history k call e

-- a history in which calls stand from a place on, and no others
whole_history : (front history : List Call) (calls : List Placed) → ArePlaces (length front) calls → StandIn (front ++ history) calls → length history ≡ length calls → history ≡ calls_of calls
whole_history front [] [] places stand long = refl
whole_history front (call ∷ history) [] places stand long = absurd (omega (arith, long))
whole_history front history (of ∷ calls) places stand long =
    let at = subst (λ n. slice_get (front ++ history) n ≡ Some of.call) places.0 stand.0 in
    let h = get_whole front history 0 of.call at in
    let joined : front ++ history ≡ (front ++ of.call ∷ []) ++ h.0 = ap (λ (l : List Call). front ++ l) h.1 ∙ sym (append_assoc front (of.call ∷ []) h.0) in
    let next : length front + 1 ≡ length (front ++ of.call ∷ []) = longer front of.call in
    let rest = whole_history (front ++ of.call ∷ []) h.0 calls (subst (λ n. ArePlaces n calls) next places.1) (subst (λ (l : List Call). StandIn l calls) joined stand.1)
    (omega (arith, long, ap length h.1)) in
    h.1 ∙ ap (λ (l : List Call). of.call ∷ l) rest
  where
    longer : (xs : List Call) (x : Call) → length xs + 1 ≡ length (xs ++ x ∷ [])
    longer [] x = refl
    longer (y ∷ xs) x = let h = longer xs x in omega (arith, h)

pub legal_in_order : (run : Run) (place : ℕ) (edge : ConfValue) → HasHistory 1 run place edge → IsLegal edge.room (calls_of (calls_at place (served_in run)))
legal_in_order run place edge has =
    let calls = calls_at place (served_in run) in
    let count : length has.history ≡ length calls = sym (all_count (length has.history) (places_of calls) has.all) ∙ length-map calls (λ (of : Placed). of.place) in
    subst (IsLegal edge.room) (whole_history [] has.history calls (goes_in_order run place edge has) has.stand count) has.legal
