-- What a seat of a shared table gains by calls.
use Rattle.std.specs.Prelude.{◌≡◌, ℕ, ◌+◌, ◌≤◌, List, [], ◌∷◌, ◌++◌, length, map, Some, slice_get}
use mathlib.Core.List.{IsPrefix}
use Rattle.usp_nonce.specs.History.{Call}
use Rattle.usp_shared.specs.Seats.{Seated}
use Rattle.usp_edge.specs.Calls.{Placed}

abbrev pub places_of : List Placed → List ℕ
places_of calls = map (λ of. of.place) calls

-- Each call stands at its place in the history.
abbrev pub StandIn : List Call → List Placed → Type 0
StandIn history [] = Unit {0}
StandIn history (of ∷ calls) = (slice_get history of.place ≡ Some of.call) × StandIn history calls

-- The places rise. The first is at least `from`, and all are below `to`.
abbrev pub Rise : (from to : ℕ) → List Placed → Type 0
Rise from to [] = from ≤ to
Rise from to (of ∷ calls) = (from ≤ of.place) × Rise (of.place + 1) to calls

-- Both seats are of one table, and the calls of the new one are those of the old one and then these. They stand at
-- their places in the table's one history, each behind what the old seat had seen and within what the new one has
-- seen, which begins with what the old one had seen.
pub record SeatGains (old new : Seated) (calls : List Placed) : Type 0 where
  pub table : new.table ≡ old.table
  pub places : new.places ≡ old.places ++ places_of calls
  pub stand : StandIn new.seen calls
  pub rise : Rise (length old.seen) (length new.seen) calls
  pub more : IsPrefix old.seen new.seen
  pub fallen : new.left + length calls ≡ old.left
