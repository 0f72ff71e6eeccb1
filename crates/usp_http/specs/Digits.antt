-- Numbers that digits spell.
use Rattle.std.specs.Prelude.{ℕ, Bool, false, nat_le, List, [], ◌∷◌, Option, Some, None, if◌then◌else◌}
use Rattle.std.specs.List.{list_all}
use Rattle.usp_base.specs.Numbers.{is_digit, value_of}

-- one or more digits
abbrev pub are_digits : List ℕ → Bool
are_digits [] = false
are_digits (digit ∷ digits) = list_all is_digit (digit ∷ digits)

-- the number that a text of digits spells; zeros may lead
abbrev pub number_in : List ℕ → Option ℕ
number_in text = if are_digits text then Some (value_of text) else None

-- a number where it is no greater
abbrev pub at_most : ℕ → Option ℕ → Option ℕ
at_most most None = None
at_most most (Some number) = if nat_le number most then Some number else None
