-- A number of each view, added up.
use Rattle.std.proofs.Common.{◌≡◌, ℕ, zero, suc, ◌+◌, ◌≤◌, List, [], ◌∷◌, ◌++◌, set, sym, ap, arith}
use mathlib.Core.Option.{some, some-injective, some-ne-none}
use lib.ListN.{get_elem?}
use Rattle.usp_shared.specs.Rule.{total_of}
use Rattle.usp_shared.specs.declared.rule.View.{View}

-- the sum after a view changes
pub sum_at : (f : View → ℕ) (vs : List View) (id : ℕ) (v w : View) → get_elem? vs id ≡ some v → total_of f (set vs id w) + f v ≡ total_of f vs + f w
sum_at f [] id v w e = absurd (some-ne-none v (sym e))
sum_at f (x ∷ xs) zero v w e =
    let same : f x ≡ f v = ap f (some-injective x v e) in
    let is : (f w + total_of f xs) + f v ≡ (f x + total_of f xs) + f w = omega (arith, same) in is
sum_at f (x ∷ xs) (suc id) v w e =
    let below = sum_at f xs id v w e in
    let is : (f x + total_of f (set xs id w)) + f v ≡ (f x + total_of f xs) + f w = omega (arith, below) in is

-- the sum after one more view
pub total_snoc : (f : View → ℕ) (vs : List View) (v : View) → total_of f (vs ++ v ∷ []) ≡ total_of f vs + f v
total_snoc f [] v = let is : f v + 0 ≡ 0 + f v = omega arith in is
total_snoc f (x ∷ xs) v =
    let below = total_snoc f xs v in
    let is : f x + total_of f (xs ++ v ∷ []) ≡ (f x + total_of f xs) + f v = omega (arith, below) in is

pub part_le : (f : View → ℕ) (vs : List View) (by : ℕ) (u : View) → get_elem? vs by ≡ some u → f u ≤ total_of f vs
part_le f [] by u e = absurd (some-ne-none u (sym e))
part_le f (x ∷ xs) zero u e =
    let same : f x ≡ f u = ap f (some-injective x u e) in
    let is : f u ≤ f x + total_of f xs = omega (arith, same) in is
part_le f (x ∷ xs) (suc by) u e =
    let below = part_le f xs by u e in
    let is : f u ≤ f x + total_of f xs = omega (arith, below) in is

pub total_le : (f g : View → ℕ) (vs : List View) → ((v : View) → f v ≤ g v) → total_of f vs ≤ total_of g vs
total_le f g [] le = omega arith
total_le f g (x ∷ xs) le =
    let here : f x ≤ g x = le x in
    let below = total_le f g xs le in
    let is : f x + total_of f xs ≤ g x + total_of g xs = omega (arith, here, below) in is
