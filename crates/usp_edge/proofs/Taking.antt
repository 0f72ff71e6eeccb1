-- What a seat gains by one call.
use Rattle.std.proofs.Common.{◌≡◌, ℕ, ◌+◌, ◌≤◌, List, [], ◌∷◌, ◌++◌, length, length-append, ap, arith}
use Rattle.usp_nonce.specs.History.{Call}
use Rattle.usp_shared.specs.Histories.{IsEntered}
use Rattle.usp_shared.specs.Seats.{Seated}
use Rattle.usp_shared.proofs.Entered.{entered_at, entered_more}
use Rattle.usp_edge.specs.Seats.{SeatGains}

pub gains_one : (old new : Seated) (call : Call) (place : ℕ) → IsEntered old.seen call place new.seen
    → new.places ≡ old.places ++ place ∷ [] → new.left + 1 ≡ old.left → new.table ≡ old.table
    → SeatGains old new (record { place = place; call = call } ∷ [])
gains_one old new call place entered places left table =
    let front : List Call = old.seen ++ entered.between in
    let long : length new.seen ≡ length (front ++ call ∷ []) = ap length entered.seen in
    let here : length new.seen ≡ place + 1 = omega (arith, long, length-append front (call ∷ []), entered.place_is) in
    let behind : length old.seen ≤ place = omega (arith, length-append old.seen entered.between, entered.place_is) in
    record {
      table = table;
      places = places;
      stand = (entered_at old.seen new.seen call place entered, tt);
      rise = (behind, (let le : place + 1 ≤ length new.seen = omega (arith, here) in le));
      more = entered_more old.seen new.seen call place entered;
      fallen = left;
    }
