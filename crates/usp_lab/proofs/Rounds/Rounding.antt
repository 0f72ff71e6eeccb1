-- The numbers of a round.
use Rattle.std.proofs.Common.{◌≡◌, refl, sym, ap, ◌∙◌, subst, ℕ, ◌+◌, ◌*◌, ◌≤◌, ◌<◌, ◌⊎◌, inl, inr, Bool, true, false, min, max, List, [], length, arith}
use Rattle.std.specs.Prelude.{All, nat_lt}
use Rattle.std.proofs.Math.Nat.{mul-le-mul_right}
use Rattle.std.proofs.lemmas.Bool.{ltb-true, ltb-false}
use Rattle.usp_edge.specs.declared.limits.TheConstants.{MAX_HEADS}
use Rattle.usp_lab.specs.Tables.{HasRoom, TableValue}

count_by : (workers asks : ℕ) (less : Bool) → nat_lt asks workers ≡ less → 1 ≤ workers → (max (min workers asks) 1 ≡ workers) ⊎ (asks ≤ max (min workers asks) 1)
count_by workers asks true is some = inr (let lt = ltb-true asks workers is in omega (arith, lt))
count_by workers asks false is some = inl (let le = ltb-false asks workers is in omega (arith, le, some))

pub count_is : (workers asks count : ℕ) → count ≡ max (min workers asks) 1 → 1 ≤ workers → (count ≡ workers) ⊎ (asks ≤ count)
count_is workers asks count is some = subst (λ n. (n ≡ workers) ⊎ (asks ≤ n)) (sym is) (count_by workers asks (nat_lt asks workers) refl some)

-- each table has calls for the parts of all workers
pub parts_fit : (count part asks : ℕ) (tables : List TableValue) → count ≤ 16 → part ≡ MAX_HEADS * asks → All (HasRoom asks) tables
    → All (λ table. count * part ≤ table.seat.left) tables
parts_fit count part asks tables le is room edge d lt =
    let most = mul-le-mul_right part le in
    let has = room edge d lt in
    omega (arith, most, is, has)
