-- What is left of the calls that are parted.
use Rattle.std.proofs.Common.{◌≡◌, ap, ◌∙◌, ℕ, suc, ◌+◌, ◌-◌, ◌*◌, ◌≤◌, ◌<◌, suc-mul, arith}
use Rattle.std.proofs.Math.Nat.{mul-le-mul_right}

more_parts : (i part : ℕ) → (i + 1) * part ≡ i * part + part
more_parts i part = ap (λ n. n * part) (let e : i + 1 ≡ suc i = omega arith in e) ∙ suc-mul i part

parts_fit : (i n part : ℕ) → i < n → i * part + part ≤ n * part
parts_fit i n part lt =
    let le : i + 1 ≤ n = omega (arith, lt) in
    let m : (i + 1) * part ≤ n * part = mul-le-mul_right part le in
    let one = more_parts i part in
    omega (arith, m, one)

pub left_next : (a s n i long part : ℕ) → i < long → long * part ≤ a → s + i * part ≡ a → n ≡ s - part → n + (i + 1) * part ≡ a
left_next a s n i long part lt fits so is =
    let fit = parts_fit i long part lt in
    let one = more_parts i part in
    omega (arith, fit, fits, so, is, one)

pub few_calls : (calls seen places left share : ℕ) → calls ≡ seen → places ≡ seen → left + places ≡ share → calls ≤ share
few_calls calls seen places left share is same whole = omega (arith, is, same, whole)

-- what is left where the whole is parted
pub left_of_whole : (left share part : ℕ) → left ≡ share - part → part ≡ share → left + part ≡ share
left_of_whole left share part is same = omega (arith, is, same)
