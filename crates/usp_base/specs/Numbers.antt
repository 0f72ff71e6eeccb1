-- Whole numbers in decimal, without a sign or a leading zero.
use Rattle.std.specs.Prelude.{ℕ, ◌+◌, ◌-◌, ◌*◌, Bool, false, not, ◌&&◌, nat_le, ◌==◌, List, [], ◌∷◌, Option, Some, None, if◌then◌else◌}
use Rattle.std.specs.List.{list_all}

-- the digits 0 and 9
abbrev pub digit_0 : ℕ
digit_0 = 48

abbrev pub digit_9 : ℕ
digit_9 = 57

abbrev pub is_digit : ℕ → Bool
is_digit b = nat_le digit_0 b && nat_le b digit_9

-- the number that digits spell behind a number
abbrev pub value_from : ℕ → List ℕ → ℕ
value_from n [] = n
value_from n (digit ∷ digits) = value_from (n * 10 + (digit - digit_0)) digits

-- the number that digits spell
abbrev pub value_of : List ℕ → ℕ
value_of digits = value_from 0 digits

-- one digit, or more of which the first is no zero
abbrev pub is_whole : List ℕ → Bool
is_whole [] = false
is_whole (digit ∷ []) = is_digit digit
is_whole (first ∷ digit ∷ digits) = not (first == digit_0) && list_all is_digit (first ∷ digit ∷ digits)

-- the number that a text spells, where it is at most that
abbrev pub number_of : ℕ → List ℕ → Option ℕ
number_of most text = if is_whole text && nat_le (value_of text) most then Some (value_of text) else None
