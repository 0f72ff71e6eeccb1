-- The laws of what a seat gains.
use Rattle.std.specs.Prelude.{◌≡◌, refl, ℕ, ◌+◌, ◌≤◌, List, [], ◌∷◌, ◌++◌, length}
use Rattle.std.proofs.Common.{sym, ap, ◌∙◌, add-zero, add_assoc, add_comm, length-append, append-nil, append_assoc, le_refl, le_trans, le-add_right}
use Rattle.std.proofs.lemmas.List.{map-append}
use mathlib.Core.List.{IsPrefix}
use Rattle.usp_nonce.specs.History.{Call}
use Rattle.usp_shared.specs.Seats.{Seated}
use Rattle.usp_shared.proofs.Entered.{stays_at}
use Rattle.usp_shared.proofs.Fronts.{prefix_self, prefix_trans}
use Rattle.usp_edge.specs.Calls.{Placed}
use Rattle.usp_edge.specs.Seats.{SeatGains, StandIn, Rise, places_of}

pub stand_later : (history longer : List Call) (calls : List Placed) → IsPrefix history longer → StandIn history calls
    → StandIn longer calls
stand_later history longer [] more stand = tt
stand_later history longer (of ∷ calls) more (here, stand) =
    (stays_at history longer of.call of.place here more, stand_later history longer calls more stand)

pub stand_both : (history : List Call) (x y : List Placed) → StandIn history x → StandIn history y
    → StandIn history (x ++ y)
stand_both history [] y first second = second
stand_both history (of ∷ x) y (here, first) second = (here, stand_both history x y first second)

-- what rises to a bound lies between the bounds
pub rise_through : (from to : ℕ) (x : List Placed) → Rise from to x → from ≤ to
rise_through from to [] rise = rise
rise_through from to (of ∷ x) (here, rise) =
    le_trans (le_trans here (le-add_right of.place 1)) (rise_through (of.place + 1) to x rise)

rise_lower : (from low to : ℕ) (x : List Placed) → low ≤ from → Rise from to x → Rise low to x
rise_lower from low to [] le rise = le_trans le rise
rise_lower from low to (of ∷ x) le (here, rise) = (le_trans le here, rise)

rise_both : (from mid to : ℕ) (x y : List Placed) → Rise from mid x → Rise mid to y → Rise from to (x ++ y)
rise_both from mid to [] y first second = rise_lower mid from to y first second
rise_both from mid to (of ∷ x) y (here, first) second = (here, rise_both (of.place + 1) mid to x y first second)

left_both : (a b c : ℕ) (x y : List Placed) → b + length x ≡ a → c + length y ≡ b → c + length (x ++ y) ≡ a
left_both a b c x y first second =
    ap (λ n. c + n) (length-append x y ∙ add_comm (length x) (length y))
    ∙ (sym (add_assoc c (length y) (length x)) ∙ (ap (λ n. n + length x) second ∙ first))

places_both : (a b c : List ℕ) (x y : List Placed) → b ≡ a ++ places_of x → c ≡ b ++ places_of y
    → c ≡ a ++ places_of (x ++ y)
places_both a b c x y first second =
    second
    ∙ (ap (λ ps. ps ++ places_of y) first
    ∙ (append_assoc a (places_of x) (places_of y) ∙ ap (λ ps. a ++ ps) (sym (map-append (λ of. of.place) x y))))

pub seat_gains_none : (a : Seated) → SeatGains a a []
seat_gains_none a = record {
  table = refl;
  places = sym (append-nil a.places);
  stand = tt;
  rise = le_refl (length a.seen);
  more = prefix_self a.seen;
  fallen = add-zero a.left;
}

pub seat_gains_both : (a b c : Seated) (x y : List Placed) → SeatGains a b x → SeatGains b c y
    → SeatGains a c (x ++ y)
seat_gains_both a b c x y first second = record {
  table = second.table ∙ first.table;
  places = places_both a.places b.places c.places x y first.places second.places;
  stand = stand_both c.seen x y (stand_later b.seen c.seen x second.more first.stand) second.stand;
  rise = rise_both (length a.seen) (length b.seen) (length c.seen) x y first.rise second.rise;
  more = prefix_trans a.seen b.seen c.seen first.more second.more;
  fallen = left_both a.left b.left c.left x y first.fallen second.fallen;
}
