-- A test for numbers (RFC 8259 section 6) that goes from byte to byte.
use Rattle.std.specs.Prelude.{ℕ, ◌==◌, Bool, true, false, List, [], ◌∷◌, Option, Some, None, if◌then◌else◌, option_and_then}
use Rattle.usp_base.specs.Numbers.{digit_0, is_digit}
use Rattle.usp_json.specs.Grammar.{is_mark, is_sign}
use Rattle.usp_json.specs.declared.states.NumberPart.{NumberPart}
use Rattle.usp_json.specs.declared.states.NumberPart.TheVariants.{Minus, Zero, Whole, Point, Fraction, Mark, Sign, Exponent}
use Rattle.usp_json.specs.Signs.{minus_sign, decimal_point}

-- one more byte of a number
abbrev pub number_step : NumberPart → ℕ → Option NumberPart
number_step Minus b = if b == digit_0 then Some Zero else (if is_digit b then Some Whole else None)
number_step Zero b = if b == decimal_point then Some Point else (if is_mark b then Some Mark else None)
number_step Whole b =
    if is_digit b then Some Whole
    else (if b == decimal_point then Some Point else (if is_mark b then Some Mark else None))
number_step Point b = if is_digit b then Some Fraction else None
number_step Fraction b = if is_digit b then Some Fraction else (if is_mark b then Some Mark else None)
number_step Mark b = if is_digit b then Some Exponent else (if is_sign b then Some Sign else None)
number_step Sign b = if is_digit b then Some Exponent else None
number_step Exponent b = if is_digit b then Some Exponent else None

-- the first byte of a number
abbrev pub number_first : ℕ → Option NumberPart
number_first b = if b == minus_sign then Some Minus else number_step Minus b

abbrev pub number_run : NumberPart → List ℕ → Option NumberPart
number_run part [] = Some part
number_run part (b ∷ bs) = option_and_then (λ p. number_run p bs) (number_step part b)

-- a number may end there
abbrev pub is_whole_number : NumberPart → Bool
is_whole_number Zero = true
is_whole_number Whole = true
is_whole_number Fraction = true
is_whole_number Exponent = true
is_whole_number _ = false

abbrev pub ends_number : Option NumberPart → Bool
ends_number None = false
ends_number (Some part) = is_whole_number part

abbrev pub is_number : List ℕ → Bool
is_number [] = false
is_number (b ∷ bs) = ends_number (option_and_then (λ p. number_run p bs) (number_first b))
