-- Numbers that digits spell.
use Rattle.std.proofs.Common.{◌≡◌, ℕ, ◌+◌, ◌-◌, ◌*◌, ◌<◌, ◌≤◌, Bool, true, false, ◌&&◌, nat_le, cond, List, [], ◌∷◌, Some, None, refl, arith}
use Rattle.std.proofs.lemmas.Bool.Decides.{nat_tests}
use Rattle.usp_base.specs.Numbers.{value_from, value_of, is_whole, number_of}

-- further digits make a number no smaller
pub value_from-grows : (n : ℕ) (digits : List ℕ) → n ≤ value_from n digits
value_from-grows n [] = omega arith
value_from-grows n (digit ∷ digits) =
    let more = value_from-grows (n * 10 + (digit - 48)) digits in omega arith

none_if : (w b : Bool) (n : ℕ) → b ≡ false → None ≡ cond (w && b) (Some n) None
none_if true false n e = refl
none_if false false n e = refl
none_if w true n e = cc

-- a text that begins as a number above the greatest has none
pub number_of-past : (most n : ℕ) (text rest : List ℕ) → value_of text ≡ value_from n rest → most < n → None ≡ number_of most text
number_of-past most n text rest is past =
    let more = value_from-grows n rest in
    let above : most < value_of text = omega arith in
    none_if (is_whole text) (nat_le (value_of text) most) (value_of text) (grind (arith, nat_tests))
