-- Places in a history: lists of numbers.
use Rattle.std.specs.Prelude.{◌≡◌, ℕ, ◌+◌, ◌≤◌, ◌==◌, nat_lt, if◌then◌else◌, List, [], ◌∷◌}

-- how often x is among the places
abbrev pub times : ℕ → List ℕ → ℕ
times x [] = 0
times x (y ∷ ys) = (if y == x then 1 else 0) + times x ys

-- 1 where x is below n, and else 0
abbrev pub once_below : ℕ → ℕ → ℕ
once_below n x = if nat_lt x n then 1 else 0

-- numbers below n, none of them twice
pub record AreDistinctBelow (n : ℕ) (places : List ℕ) : Type 0 where
  pub at_most : (x : ℕ) → times x places ≤ once_below n x

-- the numbers below n, each once
pub record AreAllBelow (n : ℕ) (places : List ℕ) : Type 0 where
  pub just : (x : ℕ) → times x places ≡ once_below n x
