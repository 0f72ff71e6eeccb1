-- Nonce calls that stand one behind the other.
use Rattle.std.proofs.Common.{◌≡◌, refl, sym, ap, ◌∙◌, subst, ℕ, ◌+◌, List, [], ◌∷◌, ◌++◌, append_assoc, length, length-append, Some, arith}
use Rattle.std.specs.List.{slice_get}
use Rattle.usp_edge.specs.Calls.{ArePlaces, Placed, calls_of}
use Rattle.usp_edge.specs.Seats.{StandIn, places_of}
use Rattle.usp_nonce.specs.History.{Call}
use Rattle.usp_shared.proofs.Counts.{never_at, once_more}
use Rattle.usp_shared.specs.Places.{AreAllBelow, once_below, times}

-- numbers from one on are there, each once
counted_from : (from : ℕ) (all : List Placed) (x : ℕ) → ArePlaces from all
    → times x (places_of all) + once_below from x ≡ once_below (from + length all) x
counted_from from [] x are =
    let e : from ≡ from + 0 = omega arith in omega (arith, ap (λ n. once_below n x) e)
counted_from from (of ∷ all) x (here, rest) =
    let below = counted_from (from + 1) all x rest in
    let more = once_more from x in
    let same = ap (λ p. times x (p ∷ [])) here in
    let next : (from + 1) + length all ≡ from + length (of ∷ all) = omega arith in
    omega (arith, below, more, same, ap (λ n. once_below n x) next)

pub all_places : (all : List Placed) (n : ℕ) → ArePlaces 0 all → n ≡ length all → AreAllBelow n (places_of all)
all_places all n are same = subst (λ m. AreAllBelow m (places_of all)) (sym same) (record {
  just = λ x.
      let whole : 0 + length all ≡ length all = omega arith in
      omega (arith, counted_from 0 all x are, never_at 0 x (omega arith), ap (λ m. once_below m x) whole);
})

pub places_both : (from : ℕ) (own rest : List Placed) → ArePlaces from own → ArePlaces (from + length own) rest
    → ArePlaces from (own ++ rest)
places_both from [] rest first second =
    let e : from + 0 ≡ from = omega arith in subst (λ n. ArePlaces n rest) e second
places_both from (of ∷ own) rest (here, first) second =
    let e : from + length (of ∷ own) ≡ (from + 1) + length own = omega arith in
    (here, places_both (from + 1) own rest first (subst (λ n. ArePlaces n rest) e second))

-- what stands behind a list
behind_at : (before : List Call) (call : Call) (more : List Call) → slice_get (before ++ call ∷ more) (length before) ≡ Some call
behind_at [] call more = refl
behind_at (first ∷ before) call more = behind_at before call more

pub stand_all : (history before : List Call) (all : List Placed) → history ≡ before ++ calls_of all
    → ArePlaces (length before) all → StandIn history all
stand_all history before [] is are = tt
stand_all history before (of ∷ all) is (here, rest) =
    let at : slice_get history of.place ≡ Some of.call =
    ap (slice_get history) here
    ∙ (ap (λ (h : List Call). slice_get h (length before)) is ∙ behind_at before of.call (calls_of all)) in
    let next : history ≡ (before ++ of.call ∷ []) ++ calls_of all =
    is ∙ sym (append_assoc before (of.call ∷ []) (calls_of all)) in
    let long : length before + 1 ≡ length (before ++ of.call ∷ []) = sym (length-append before (of.call ∷ [])) in
    (at, stand_all history (before ++ of.call ∷ []) all next (subst (λ n. ArePlaces n all) long rest))

pub stand_front : (history : List Call) (x y : List Placed) → StandIn history (x ++ y) → StandIn history x
stand_front history [] y stand = tt
stand_front history (of ∷ x) y (here, stand) = (here, stand_front history x y stand)

pub stand_rest : (history : List Call) (x y : List Placed) → StandIn history (x ++ y) → StandIn history y
stand_rest history [] y stand = stand
stand_rest history (of ∷ x) y (here, stand) = stand_rest history x y stand
