-- Sizes that are counted up to a limit.
use Rattle.std.proofs.Common.{◌≡◌, ℕ, zero, suc, ◌+◌, ◌-◌, ◌*◌, ◌^◌, ◌≤◌, ◌<◌, inl, inr, min, Option, Some, None, ap, ◌∙◌, arith}
use Rattle.std.proofs.lemmas.Nat.{mul-le}
use Rattle.std.proofs.lemmas.Bool.{cases_lt}
use Rattle.std.proofs.Math.Nat.{suc-mul}
use Rattle.usp_ere.specs.Expression.{size_of_repeat}

-- products of a count and nodes up to the limit are small
pub least_product : (least nodes : ℕ) → least < 2 ^ 8 → nodes ≤ 4000 → least * nodes ≤ 1020000
least_product least nodes few small =
    let p : least * nodes ≤ 255 * 4000 = mul-le least nodes 255 4000 (omega arith) small in omega arith

pub more_product : (more nodes : ℕ) → more < 2 ^ 8 → nodes ≤ 4000 → more * (nodes + 1) ≤ 1020255
more_product more nodes few small =
    let p : more * (nodes + 1) ≤ 255 * 4001 = mul-le more (nodes + 1) 255 4001 (omega arith) (omega arith) in omega arith

-- a count that is not 0 takes each piece at least once
once : (k s : ℕ) → s ≤ suc k * s
once k s = let e : suc k * s ≡ k * s + s = suc-mul k s in omega arith

-- what grows with the nodes of a piece may be counted with these up to the limit
grown_up_to : (limit s : ℕ) (f : ℕ → ℕ) → ((n : ℕ) → n ≤ f n) → min limit (f (min limit s)) ≡ min limit (f s)
grown_up_to limit s f grows = elim (cases_lt limit s) [
  | inr small ↦ let e : min limit s ≡ s = omega arith in ap (λ n. min limit (f n)) e
  | inl large ↦
      let e : min limit s ≡ limit = omega arith in
      let a : limit ≤ f limit = grows limit in
      let b : s ≤ f s = grows s in
      let c : min limit (f limit) ≡ min limit (f s) = omega arith in
      ap (λ n. min limit (f n)) e ∙ c
]

-- some counts of pieces
counted_up_to : (limit s least more : ℕ) → min limit (least * min limit s + more * (min limit s + 1)) ≡ min limit (least * s + more * (s + 1))
counted_up_to limit s zero zero = omega arith
counted_up_to limit s zero (suc k) = grown_up_to limit s (λ n. 0 * n + suc k * (n + 1)) (λ n. let p = once k (n + 1) in omega arith)
counted_up_to limit s (suc k) more = grown_up_to limit s (λ n. suc k * n + more * (n + 1)) (λ n. let p = once k n in omega arith)

-- a limit on the nodes of a piece may be set before the repeat or behind it
pub repeat_up_to : (limit s least : ℕ) (most : Option ℕ) → min limit (size_of_repeat (min limit s) least most) ≡ min limit (size_of_repeat s least most)
repeat_up_to limit s least None = grown_up_to limit s (λ n. least * n + n + 1) (λ n. omega arith)
repeat_up_to limit s least (Some most) = counted_up_to limit s least (most - least)
