-- Places, counted.
use Rattle.std.proofs.Common.{◌≡◌, ℕ, suc, ◌+◌, ◌≤◌, ◌<◌, List, [], ◌∷◌, ◌++◌, length, arith}
use Rattle.std.specs.Prelude.{◌==◌, if◌then◌else◌}
use Rattle.usp_shared.specs.Places.{times, once_below, AreDistinctBelow, AreAllBelow}

pub times_append : (x : ℕ) (ps qs : List ℕ) → times x (ps ++ qs) ≡ times x ps + times x qs
times_append x [] qs = let is : times x qs ≡ 0 + times x qs = omega arith in is
times_append x (p ∷ ps) qs =
    let below = times_append x ps qs in
    let is : (if p == x then 1 else 0) + times x (ps ++ qs) ≡ ((if p == x then 1 else 0) + times x ps) + times x qs = omega (arith, below) in is

pub times_one : (x n : ℕ) → times x (n ∷ []) ≡ (if n == x then 1 else 0)
times_one x n = let is : (if n == x then 1 else 0) + 0 ≡ (if n == x then 1 else 0) = omega arith in is

pub times_more : (x n : ℕ) (ps : List ℕ) → times x (ps ++ n ∷ []) ≡ times x ps + (if n == x then 1 else 0)
times_more x n ps = omega (arith, times_append x ps (n ∷ []), times_one x n)

-- a number is among the places at most as often as there are places
pub times_le : (x : ℕ) (ps : List ℕ) → times x ps ≤ length ps
times_le x [] = omega arith
times_le x (p ∷ ps) =
    let below = times_le x ps in
    let one : (if p == x then 1 else 0) ≤ 1 = grind arith in
    let is : (if p == x then 1 else 0) + times x ps ≤ suc (length ps) = omega (arith, below, one) in is

pub once_le : (n x : ℕ) → once_below n x ≤ 1
once_le n x = grind arith

pub once_more : (n x : ℕ) → once_below (n + 1) x ≡ once_below n x + (if n == x then 1 else 0)
once_more n x = grind arith

pub once_rises : (m n x : ℕ) → m ≤ n → once_below m x ≤ once_below n x
once_rises m n x le = grind arith

pub once_at : (n x : ℕ) → x < n → once_below n x ≡ 1
once_at n x lt = grind arith

pub never_at : (n x : ℕ) → n ≤ x → once_below n x ≡ 0
never_at n x le = grind arith

pub distinct_none : (n : ℕ) → AreDistinctBelow n []
distinct_none n = record { at_most = λ x. omega arith }

-- what was below m is below a larger n
pub distinct_rises : (m n : ℕ) (ps : List ℕ) → m ≤ n → AreDistinctBelow m ps → AreDistinctBelow n ps
distinct_rises m n ps le d = record { at_most = λ x. omega (arith, d.at_most x, once_rises m n x le) }

-- a place behind all places
pub distinct_more : (m n : ℕ) (ps : List ℕ) → m ≤ n → AreDistinctBelow m ps → AreDistinctBelow (n + 1) (ps ++ n ∷ [])
distinct_more m n ps le d =
    record { at_most = λ x. omega (arith, d.at_most x, once_rises m n x le, times_more x n ps, once_more n x) }

once_zero : (n x : ℕ) → once_below n x ≡ 0 → n ≤ x
once_zero n x none = grind (arith, none)

-- where places are below m, and all numbers below n are among them
pub all_below : (m n : ℕ) (ps : List ℕ) → AreDistinctBelow m ps → AreAllBelow n ps → n ≤ m
all_below m n ps d a =
    let none : once_below n m ≡ 0 = omega (arith, d.at_most m, a.just m, never_at m m (omega arith)) in
    once_zero n m none
