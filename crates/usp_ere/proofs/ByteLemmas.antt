-- Words that are filled bit by bit.
use Rattle.std.proofs.Common.{◌≡◌, ◌≢◌, ℕ, ◌+◌, ◌-◌, ◌*◌, ◌^◌, ◌%◌, ◌<◌, ◌≤◌, Bool, true, false, nat_lt, ◌&&◌, eqb, inl, inr, refl, sym, ap, ◌∙◌, arith, eq-eqb, ne_eqb, w64, if◌then◌else◌, List, [], ◌∷◌, ◌++◌, ◌||◌, ◌⊎◌, not, max, nat_eq, length, get_or, take}
use Rattle.std.proofs.lemmas.Bool.{cases_eq, cases_lt}
use Rattle.std.proofs.lemmas.Bool.Decides.{nat_tests}
use Rattle.std.proofs.lemmas.Nat.Bits.{bit_at_set_same, bit_at_set_other, bit_at-zero, bit_at_or, bit_at_not, bit_at-lt}
use Rattle.std.proofs.lemmas.List.{take_more}
use Rattle.std.specs.Int.{bit_not}
use Rattle.usp_ere.specs.declared.class.Element.{Element}
use Rattle.usp_ere.specs.Sets.{between, element_holds, elements_hold}
use Rattle.std.specs.Prelude.{bit_or}
use Rattle.std.specs.Int.{bit_at}
use Rattle.usp_ere.specs.Bits.{has_bit, IsFilled}

pub filled_none : (test : ℕ → Bool) → IsFilled 0 0 test
filled_none test = record { by = λ k h. let none : nat_lt k 0 && test k ≡ false = grind (arith, nat_tests) in ap (λ x. eqb x 1) (bit_at-zero k) ∙ sym none }

same_test : (k n : ℕ) (b c : Bool) → k ≢ n → nat_lt k n && c ≡ nat_lt k (n + 1) && c
same_test k n b c ne = grind (arith, nat_tests)

pub filled_set : (word n : ℕ) (test : ℕ → Bool) → n < 64 → IsFilled word n test → test n ≡ true
    → IsFilled (bit_or word (1 * 2 ^ n % 2 ^ 64)) (n + 1) test
filled_set word n test small f hit = record {
  by = λ k h. elim (cases_eq k n) [
    | inl same ↦
        let e : has_bit (bit_or word (1 * 2 ^ n % 2 ^ 64)) k ≡ true = rw same (eq-eqb _ 1 (bit_at_set_same w64 word n small)) in
        let r : nat_lt k (n + 1) && test k ≡ true = rw (same, hit) (grind (arith, nat_tests)) in e ∙ sym r
    | inr other ↦
        ap (λ x. eqb x 1) (bit_at_set_other w64 word n small k other) ∙ f.by k h ∙ same_test k n true (test k) other
  ];
}

pub filled_skip : (word n : ℕ) (test : ℕ → Bool) → IsFilled word n test → test n ≡ false → IsFilled word (n + 1) test
filled_skip word n test f miss = record {
  by = λ k h. elim (cases_eq k n) [
    | inl same ↦
        let l : nat_lt k n && test k ≡ false = rw (same, miss) (grind (arith, nat_tests)) in
        let r : nat_lt k (n + 1) && test k ≡ false = rw (same, miss) (grind (arith, nat_tests)) in f.by k h ∙ l ∙ sym r
    | inr other ↦ f.by k h ∙ same_test k n true (test k) other
  ];
}

pub filled_all : (word : ℕ) (test : ℕ → Bool) → IsFilled word 64 test → (k : ℕ) → k < 64 → has_bit word k ≡ test k
filled_all word test f k lt = f.by k lt ∙ whole (test k)
  where
    whole : (b : Bool) → nat_lt k 64 && b ≡ b
    whole b = grind (arith, nat_tests)

pub outside : (first last from k : ℕ) → (last < from) ⊎ (from + 63 < first) → k < 64 → has_bit 0 k ≡ between first last (from + k)
outside first last from k away lt =
    let none : between first last (from + k) ≡ false = elim away [ inl below ↦ grind (arith, nat_tests) | inr above ↦ grind (arith, nat_tests) ] in
    ap (λ x. eqb x 1) (bit_at-zero k) ∙ sym none

pub one_between : (c b : ℕ) → between c c b ≡ nat_eq b c
one_between c b = grind (arith, nat_tests)

or_bits : (a b k : ℕ) → has_bit (bit_or a b) k ≡ has_bit a k || has_bit b k
or_bits a b k = ap (λ x. eqb x 1) (bit_at_or a b k) ∙ bits (bit_at a k) (bit_at b k) (bit_at-lt a k) (bit_at-lt b k)
  where
    bits : (x y : ℕ) → x < 2 → y < 2 → eqb (max x y) 1 ≡ eqb x 1 || eqb y 1
    bits x y p q = grind (arith, nat_tests)

any_next : (es : List Element) (e : Element) (b : ℕ) → elements_hold (es ++ e ∷ []) b ≡ elements_hold es b || element_holds e b
any_next [] e b = or_none (element_holds e b)
  where
    or_none : (x : Bool) → x || false ≡ x
    or_none true = refl
    or_none false = refl
any_next (x ∷ es) e b = ap (λ r. element_holds x b || r) (any_next es e b) ∙ or_assoc (element_holds x b) (elements_hold es b) (element_holds e b)
  where
    or_assoc : (p q r : Bool) → p || (q || r) ≡ (p || q) || r
    or_assoc true q r = refl
    or_assoc false q r = refl

pub or_next : (word more from k : ℕ) (es : List Element) (i : ℕ) (e d : Element) → has_bit word k ≡ elements_hold (take i es) (from + k) → has_bit more k ≡ element_holds e (from + k)
    → i < length es → e ≡ get_or es i d → has_bit (bit_or word more) k ≡ elements_hold (take (i + 1) es) (from + k)
or_next word more from k es i e d held one lt is =
    or_bits word more k
    ∙ ap (λ x. x || has_bit more k) held ∙ ap (λ y. elements_hold (take i es) (from + k) || y) one
    ∙ sym (ap (λ l. elements_hold l (from + k)) (take_more es i d lt ∙ ap (λ y. take i es ++ y ∷ []) (sym is)) ∙ any_next (take i es) e (from + k))

pub not_bits : (word k : ℕ) → word < 2 ^ 64 → k < 64 → has_bit (bit_not w64 word) k ≡ not (has_bit word k)
not_bits word k small lt = ap (λ x. eqb x 1) (bit_at_not w64 word k small lt) ∙ flip (bit_at word k) (bit_at-lt word k)
  where
    flip : (x : ℕ) → x < 2 → eqb (1 - x) 1 ≡ not (eqb x 1)
    flip x p = grind (arith, nat_tests)

pub all_bits : (k : ℕ) → k < 64 → has_bit 18446744073709551615 k ≡ true
all_bits k lt = not_bits 0 k (omega arith) lt ∙ ap (λ x. not (eqb x 1)) (bit_at-zero k)

or_true : (a b : Bool) → a ≡ true → a || b ≡ true
or_true a b e = rw e refl

or_other : (a b : Bool) → b ≡ true → a || b ≡ true
or_other true b e = refl
or_other false b e = e

pub or_first : (a b k : ℕ) → has_bit a k ≡ true → has_bit (bit_or a b) k ≡ true
or_first a b k e = or_bits a b k ∙ or_true (has_bit a k) (has_bit b k) e

pub or_second : (a b k : ℕ) → has_bit b k ≡ true → has_bit (bit_or a b) k ≡ true
or_second a b k e = or_bits a b k ∙ or_other (has_bit a k) (has_bit b k) e

pub ruleset range_rules = (filled_none, filled_all, outside)
