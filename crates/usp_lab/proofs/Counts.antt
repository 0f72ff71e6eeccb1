-- How many places there are.
use Rattle.std.proofs.Common.{◌≡◌, ℕ, zero, suc, ◌+◌, ◌≤◌, ◌<◌, Bool, List, [], ◌∷◌, ◌++◌, length, length-append, inl, inr, refl, sym, ap, ◌∙◌, subst, arith}
use Rattle.std.specs.Prelude.{◌==◌, if◌then◌else◌}
use Rattle.usp_json.proofs.Numbers.{tells}
use Rattle.usp_shared.proofs.Counts.{never_at, once_at, once_more, times_append}
use Rattle.usp_shared.specs.Places.{AreAllBelow, once_below, times}

-- 1 where it is so, and else 0
abbrev pub one_if : Bool → ℕ
one_if is = if is then 1 else 0

-- a place that is there stands between others
record Between (x : ℕ) (places : List ℕ) : Type 0 where
  front : List ℕ
  behind : List ℕ
  is : places ≡ front ++ x ∷ behind

place_there : (x : ℕ) (places : List ℕ) → 1 ≤ times x places → Between x places
place_there x [] there = absurd (omega arith)
place_there x (y ∷ places) there = elim (tells (y == x)) [
  | inl hit ↦ let same : y ≡ x = grind (arith, hit) in record { front = []; behind = places; is = ap (λ n. n ∷ places) same }
  | inr miss ↦
      let parts : 1 ≤ one_if (y == x) + times x places = there in
      let other : one_if (y == x) ≡ 0 = grind (arith, miss) in
      let rest : 1 ≤ times x places = omega (arith, parts, other) in
      let h = place_there x places rest in
      record { front = y ∷ h.front; behind = h.behind; is = ap (λ l. y ∷ l) h.is }
]

none_there : (places : List ℕ) → ((x : ℕ) → times x places ≡ 0) → length places ≡ 0
none_there [] none = refl
none_there (y ∷ places) none =
    let one : one_if (y == y) ≡ 1 = grind arith in
    let sum : one_if (y == y) + times y places ≡ 0 = none y in
    absurd (omega (arith, one, sum))

-- without the last number
one_less : (n : ℕ) (front behind : List ℕ) → AreAllBelow (n + 1) (front ++ n ∷ behind) → AreAllBelow n (front ++ behind)
one_less n front behind all = record {
  just = λ x.
      let whole = all.just x in
      let parts = times_append x front (n ∷ behind) in
      let here : times x (n ∷ behind) ≡ one_if (n == x) + times x behind = refl in
      omega (arith, whole, parts, here, times_append x front behind, once_more n x);
}

-- where all numbers below n are there, each once, there are n
pub all_count : (n : ℕ) (places : List ℕ) → AreAllBelow n places → length places ≡ n
all_count zero places all = none_there places (λ x. all.just x ∙ never_at 0 x (omega arith))
all_count (suc n) places all =
    let next : suc n ≡ n + 1 = omega arith in
    let below : AreAllBelow (n + 1) places = subst (λ m. AreAllBelow m places) next all in
    let there : 1 ≤ times n places = omega (arith, below.just n, once_at (n + 1) n (omega arith)) in
    let h = place_there n places there in
    let rest = all_count n (h.front ++ h.behind) (one_less n h.front h.behind (subst (λ l. AreAllBelow (n + 1) l) h.is below)) in
    omega (arith, rest, ap length h.is, length-append h.front (n ∷ h.behind), length-append h.front h.behind)
