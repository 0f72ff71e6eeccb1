-- How seats are taken back into one.
use Rattle.std.specs.Prelude.{◌≡◌, ◌+◌, List, [], ◌∷◌, ◌++◌, Option, Some, None}
use mathlib.Core.List.{IsPrefix}
use Rattle.usp_shared.specs.Seats.{Seated}

-- Another seat was taken in.
pub record Gets (old other new : Seated) : Type 0 where
  pub table : new.table ≡ old.table
  pub places : new.places ≡ old.places ++ other.places
  pub left : new.left ≡ old.left + other.left
  pub more : IsPrefix old.seen new.seen
  pub seen : IsPrefix other.seen new.seen

-- the same of a seat, if there is one
abbrev pub Took : Seated → Option Seated → Seated → Type 0
Took old None new = new ≡ old
Took old (Some other) new = Gets old other new

-- The seats were taken into one, one after the other, those that there are.
pub data TakenIn : Seated → List (Option Seated) → Seated → Type 0 where
  start : (old new : Seated) → new ≡ old → TakenIn old [] new
  next : (old mid new : Seated) (seats : List (Option Seated)) (seat : Option Seated) → TakenIn old seats mid
      → Took mid seat new → TakenIn old (seats ++ seat ∷ []) new
