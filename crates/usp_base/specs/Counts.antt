-- Counts of faults.
use Rattle.std.specs.Prelude.{◌≤◌, ◌+◌, ℕ, min}

-- the last value of a count, 2^64 - 1
abbrev pub last_count : ℕ
last_count = 18446744073709551615

-- The count rose. At its last value it counts as risen.
abbrev pub Rose : ℕ → ℕ → Type 0
Rose before now = min (before + 1) last_count ≤ now

-- A count does not fall, and a failure comes only where it rose.
pub record HasCause (before now : ℕ) (failure : Type 0) : Type 0 where
  pub later : before ≤ now
  pub failed : failure → Rose before now
