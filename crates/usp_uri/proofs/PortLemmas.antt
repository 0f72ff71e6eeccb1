-- A number of digits is no smaller than that of its first digits.
use Rattle.std.proofs.Common.{◌≡◌, ℕ, ◌+◌, ◌-◌, ◌*◌, ◌<◌, ◌≤◌, Bool, true, false, ◌&&◌, List, [], ◌∷◌, length, get_or, refl, arith}
use Rattle.std.proofs.lemmas.Bool.Decides.{nat_tests}
use Rattle.std.specs.Str.Parse.{digits_value_after}
use Rattle.std.specs.Char.{is_ascii_digit, digit_value}
use Rattle.std.proofs.lemmas.Bool.{le-ltb}
use Rattle.usp_uri.specs.Faults.{is_port}

pub at_least : (n : ℕ) (digits : List ℕ) → n ≤ digits_value_after 10 n digits
at_least n [] = omega arith
at_least n (c ∷ rest) = omega (arith, at_least (n * 10 + digit_value c) rest)

none_of_both : (a b : Bool) → (a && (b && false)) ≡ false
none_of_both true true = refl
none_of_both true false = refl
none_of_both false b = refl

pub too_large : (port : List ℕ) → 65535 < digits_value_after 10 0 port → is_port port ≡ false
too_large [] h = absurd (omega arith)
too_large (c ∷ rest) h =
    rw (le-ltb (digits_value_after 10 0 (c ∷ rest)) 65536 (omega arith)) (none_of_both _ _)

digit_is : (c : ℕ) → is_ascii_digit c ≡ true → digit_value c ≡ c - 48
digit_is c e = grind (arith, nat_tests)

pub passes : (number : ℕ) (rest : List ℕ) (total : ℕ) → 1 ≤ length rest → is_ascii_digit (get_or rest 0 0) ≡ true
    → 65535 < number * 10 + (get_or rest 0 0 - 48) → digits_value_after 10 number rest ≡ total → 65535 < total
passes number [] total some digit h e = absurd (omega arith)
passes number (c ∷ after) total some digit h e =
    omega (arith, at_least (number * 10 + digit_value c) after, digit_is c digit)
