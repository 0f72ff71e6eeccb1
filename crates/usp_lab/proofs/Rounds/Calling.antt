-- The nonce calls of asks, at one edge.
use Rattle.std.proofs.Common.{◌≡◌, refl, sym, ap, ◌∙◌, subst, ℕ, zero, suc, ◌+◌, ◌≤◌, ◌<◌, Bool, true, false, List, [], ◌∷◌, ◌++◌, length, map, length-append, append_assoc, if◌then◌else◌, arith}
use Rattle.std.specs.List.{AllByRecursion}
use Rattle.std.specs.Prelude.{◌==◌}
use Rattle.std.proofs.lemmas.List.{map-append}
use Rattle.usp_edge.specs.Calls.{Placed}
use Rattle.usp_edge.specs.Seats.{Rise, StandIn, places_of}
use Rattle.usp_lab.specs.Rounds.{Served, calls_at}
use Rattle.usp_nonce.specs.History.{Call}
use Rattle.usp_shared.specs.Places.{times}
use Rattle.usp_lab.proofs.Rounds.Summing.{weigh}

-- what one ask called there
abbrev pub calls_here : (edge : ℕ) → Served → List Placed
calls_here edge served = if served.ask.edge == edge then served.calls else []

pub times_both : (x : ℕ) (xs ys : List ℕ) → times x (xs ++ ys) ≡ times x xs + times x ys
times_both x [] ys = let is : times x ys ≡ 0 + times x ys = omega arith in is
times_both x (y ∷ xs) ys =
    let here = if y == x then 1 else 0 in
    let below = times_both x xs ys in
    let is : here + times x (xs ++ ys) ≡ (here + times x xs) + times x ys = omega (arith, below) in is

pub calls_both : (edge : ℕ) (xs ys : List Served) → calls_at edge (xs ++ ys) ≡ calls_at edge xs ++ calls_at edge ys
calls_both edge [] ys = refl
calls_both edge (served ∷ xs) ys =
    ap (λ l. calls_here edge served ++ l) (calls_both edge xs ys) ∙ sym (append_assoc (calls_here edge served) (calls_at edge xs) (calls_at edge ys))

pub times_calls : (x edge : ℕ) (all : List Served) → times x (places_of (calls_at edge all)) ≡ weigh (λ served. times x (places_of (calls_here edge served))) all
times_calls x edge [] = refl
times_calls x edge (served ∷ all) =
    ap (times x) (map-append (λ (of : Placed). of.place) (calls_here edge served) (calls_at edge all))
    ∙ (times_both x (places_of (calls_here edge served)) (places_of (calls_at edge all))
    ∙ ap (λ n. times x (places_of (calls_here edge served)) + n) (times_calls x edge all))

pub many_calls : (edge : ℕ) (all : List Served) → length (calls_at edge all) ≡ weigh (λ served. length (calls_here edge served)) all
many_calls edge [] = refl
many_calls edge (served ∷ all) =
    length-append (calls_here edge served) (calls_at edge all) ∙ ap (λ n. length (calls_here edge served) + n) (many_calls edge all)

-- ---- standing in a history

stand_front : (history : List Call) (x y : List Placed) → StandIn history (x ++ y) → StandIn history x × StandIn history y
stand_front history [] y stand = (tt, stand)
stand_front history (of ∷ x) y (here, stand) = let both = stand_front history x y stand in ((here, both.0), both.1)

stand_back : (history : List Call) (x y : List Placed) → StandIn history x → StandIn history y → StandIn history (x ++ y)
stand_back history [] y first second = second
stand_back history (of ∷ x) y (here, first) second = (here, stand_back history x y first second)

pub stand_each : (history : List Call) (edge : ℕ) (all : List Served) → StandIn history (calls_at edge all)
    → AllByRecursion (λ served. StandIn history (calls_here edge served)) all
stand_each history edge [] stand = tt
stand_each history edge (served ∷ all) stand =
    let both = stand_front history (calls_here edge served) (calls_at edge all) stand in (both.0, stand_each history edge all both.1)

pub stand_all : (history : List Call) (edge : ℕ) (all : List Served) → AllByRecursion (λ served. StandIn history (calls_here edge served)) all
    → StandIn history (calls_at edge all)
stand_all history edge [] each = tt
stand_all history edge (served ∷ all) (here, each) =
    stand_back history (calls_here edge served) (calls_at edge all) here (stand_all history edge all each)

-- places that rise below a bound do so below a higher one
pub rise_wider : (from to more : ℕ) (calls : List Placed) → to ≤ more → Rise from to calls → Rise from more calls
rise_wider from to more [] le rise = omega (arith, le, rise)
rise_wider from to more (of ∷ calls) le (here, rise) = (here, rise_wider (of.place + 1) to more calls le rise)

-- ---- asks of one call at most

abbrev pub IsFew : Served → Type 0
IsFew served = length served.calls ≤ 1

few_here : (served : Served) (edge : ℕ) (at : Bool) → IsFew served → length (if at then served.calls else []) ≤ 1
few_here served edge true few = few
few_here served edge false few = omega arith

pub few_calls : (edge : ℕ) (all : List Served) → AllByRecursion IsFew all → length (calls_at edge all) ≤ length all
few_calls edge [] few = omega arith
few_calls edge (served ∷ all) (one, few) =
    let here = few_here served edge (served.ask.edge == edge) one in
    let below = few_calls edge all few in
    omega (arith, here, below, length-append (calls_here edge served) (calls_at edge all))

-- ---- how many tokens the ledger had

abbrev pub knowing : ℕ → Served → Served
knowing known served = record served { known = known }

pub calls_knowing : (known edge : ℕ) (all : List Served) → calls_at edge (map (knowing known) all) ≡ calls_at edge all
calls_knowing known edge [] = refl
calls_knowing known edge (served ∷ all) = ap (λ l. calls_here edge served ++ l) (calls_knowing known edge all)
