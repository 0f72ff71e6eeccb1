-- Numbers that digits spell.
use Rattle.std.proofs.Common.{◌≡◌, ◌≤◌, ◌<◌, ℕ, Bool, true, false, nat_le, cond, List, Option, Some, None, refl, sym, ap, ◌∙◌, arith}
use Rattle.std.proofs.lemmas.Bool.Decides.{nat_tests}
use Rattle.usp_base.specs.Numbers.{value_from, value_of}
use Rattle.usp_base.proofs.Digits.{value_from-grows}
use Rattle.usp_http.specs.Digits.{are_digits, at_most, number_in}

spelled : (text : List ℕ) → are_digits text ≡ true → number_in text ≡ Some (value_of text)
spelled text are = ap (λ b. cond b (Some (value_of text)) None) are

-- no digits spell no number
pub unspelled : (most : ℕ) (text : List ℕ) → are_digits text ≡ false → at_most most (number_in text) ≡ None
unspelled most text are = ap (λ b. at_most most (cond b (Some (value_of text)) None)) are

above : (most n : ℕ) → most < n → nat_le n most ≡ false
above most n lt = grind (arith, nat_tests)

within : (most n : ℕ) → n ≤ most → nat_le n most ≡ true
within most n le = grind (arith, nat_tests)

-- digits that begin as a number above the greatest spell one above it
pub spelled_above : (most n : ℕ) (text rest : List ℕ) → are_digits text ≡ true → value_of text ≡ value_from n rest → most < n
    → at_most most (number_in text) ≡ None
spelled_above most n text rest are is lt =
    let more = value_from-grows n rest in
    ap (at_most most) (spelled text are) ∙ ap (λ b. cond b (Some (value_of text)) None) (above most (value_of text) (omega (arith, is, lt, more)))

pub spelled_within : (most n : ℕ) (text : List ℕ) → are_digits text ≡ true → value_of text ≡ n → n ≤ most
    → at_most most (number_in text) ≡ Some n
spelled_within most n text are is le =
    ap (at_most most) (spelled text are) ∙ ap (λ b. cond b (Some (value_of text)) None) (within most (value_of text) (omega (arith, is, le)))
    ∙ ap Some is

-- A number is this one where it is also at most that.
pub same_of_most : (n : ℕ) (o : Option ℕ) → at_most n o ≡ Some n → o ≡ Some n
same_of_most n None is = absurd (cc is)
same_of_most n (Some m) is = same_if n m (nat_le m n) is
  where
    same_if : (n m : ℕ) (b : Bool) → cond b (Some m) None ≡ Some n → Some m ≡ Some n
    same_if n m true is = is
    same_if n m false is = absurd (cc is)

pub most_of_same : (n : ℕ) (o : Option ℕ) → o ≡ Some n → at_most n o ≡ Some n
most_of_same n o is = ap (at_most n) is ∙ ap (λ b. cond b (Some n) None) (within n n (omega arith))
