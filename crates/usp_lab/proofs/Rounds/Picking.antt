-- Members of lists by their places.
use Rattle.std.proofs.Common.{◌≡◌, refl, sym, ap, ◌∙◌, subst, ℕ, zero, suc, ◌+◌, ◌-◌, ◌<◌, ◌≤◌, List, [], ◌∷◌, ◌++◌, length, map, arith}
use Rattle.std.specs.List.{AllByRecursion}
use Rattle.std.specs.Prelude.{All, slice_index_or}
use Rattle.usp_lab.specs.Turns.{one_in}

pub first_of : {X : Type 0} (xs : List X) → 0 < length xs → X
first_of [] lt = absurd (omega (arith, lt))
first_of (x ∷ xs) lt = x

pub get_any : {X : Type 0} (xs : List X) (i : ℕ) (d e : X) → i < length xs → slice_index_or xs i d ≡ slice_index_or xs i e
get_any [] i d e lt = absurd (omega (arith, lt))
get_any (x ∷ xs) zero d e lt = refl
get_any (x ∷ xs) (suc i) d e lt = get_any xs i d e (omega (arith, lt))

pub some_below : (n : ℕ) → 0 < suc n
some_below n = omega arith

pub more_below : (n k : ℕ) → k < n → suc k < suc n
more_below n k lt = omega (arith, lt)

-- what is known below a bound, as a function of every number
abbrev pub of_below : {Y : Type 0} (n : ℕ) → ((w : ℕ) → w < n → Y) → Y → ℕ → Y
of_below zero f y w = y
of_below (suc n) f y zero = f 0 (some_below n)
of_below (suc n) f y (suc w) = of_below n (λ k lt. f (suc k) (more_below n k lt)) y w

pub each_below : {Y : Type 0} (Q : ℕ → Y → Type 0) (n : ℕ) (f : (w : ℕ) → w < n → Y) (y : Y) → ((w : ℕ) (lt : w < n) → Q w (f w lt))
    → (w : ℕ) → w < n → Q w (of_below n f y w)
each_below Q zero f y each w lt = absurd (omega (arith, lt))
each_below Q (suc n) f y each zero lt = each 0 (some_below n)
each_below Q (suc n) f y each (suc w) lt =
    each_below (λ k. Q (suc k)) n (λ k less. f (suc k) (more_below n k less)) y (λ k less. each (suc k) (more_below n k less)) w (omega (arith, lt))

module _ {X : Type 0} (P : X → Type 0) where
  pub every_in : (count skip : ℕ) (xs : List X) → AllByRecursion P xs → AllByRecursion P (one_in count skip xs)
  every_in count skip [] each = tt
  every_in count zero (x ∷ xs) (here, each) = (here, every_in count (count - 1) xs each)
  every_in count (suc skip) (x ∷ xs) (here, each) = every_in count skip xs each
