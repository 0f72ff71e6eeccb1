-- A text that the grammar spells is cut into the components that spell it.
use Rattle.std.proofs.Common.{◌≡◌, ℕ, Bool, true, false, not, ◌&&◌, List, [], ◌∷◌, ◌++◌, refl, ap}
use Rattle.std.specs.List.{list_all}
use Rattle.usp_uri.specs.Delimited.{until, from_first}

-- no byte of the class stands in the text
abbrev pub is_free_of : (ℕ → Bool) → List ℕ → Bool
is_free_of stops text = list_all (λ c. not (stops c)) text

abbrev pub begins_in : (ℕ → Bool) → List ℕ → Bool
begins_in stops [] = true
begins_in stops (c ∷ rest) = stops c

both : (a b : Bool) → (a && b) ≡ true → (a ≡ true) × (b ≡ true)
both true b e = (refl, e)
both false b e = absurd cc

not_true : (b : Bool) → not b ≡ true → b ≡ false
not_true false e = refl
not_true true e = absurd cc

until_end : (stops : ℕ → Bool) (rest : List ℕ) → begins_in stops rest ≡ true → until stops rest ≡ []
until_end stops [] e = refl
until_end stops (c ∷ rest) e = rw e refl

from_end : (stops : ℕ → Bool) (rest : List ℕ) → begins_in stops rest ≡ true → from_first stops rest ≡ rest
from_end stops [] e = refl
from_end stops (c ∷ rest) e = rw e refl

-- a front that is free of the class, before a rest that begins in it
pub until-front : (stops : ℕ → Bool) (front rest : List ℕ) → is_free_of stops front ≡ true → begins_in stops rest ≡ true → until stops (front ++ rest) ≡ front
until-front stops [] rest free e = until_end stops rest e
until-front stops (c ∷ front) rest free e =
    let parts = both _ _ free in
    rw (not_true (stops c) parts.0) (ap (λ (t : List ℕ). c ∷ t) (until-front stops front rest parts.1 e))

pub from_first-front : (stops : ℕ → Bool) (front rest : List ℕ) → is_free_of stops front ≡ true → begins_in stops rest ≡ true → from_first stops (front ++ rest) ≡ rest
from_first-front stops [] rest free e = from_end stops rest e
from_first-front stops (c ∷ front) rest free e =
    let parts = both _ _ free in
    rw (not_true (stops c) parts.0) (from_first-front stops front rest parts.1 e)
