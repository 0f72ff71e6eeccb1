-- How the text of an expression is cut into tokens, from the left.
use Rattle.std.specs.Prelude.{ℕ, zero, suc, ◌+◌, ◌-◌, List, [], ◌∷◌, Bool, true, false, nat_eq, ◌||◌, if◌then◌else◌, Option, Some, None, Ok, Err, codes, length, drop}
use Rattle.usp_ere.specs.Letters.{asterisk, backslash, capital_a, capital_z, circumflex, dollar_sign, left_brace, left_parenthesis, left_square_bracket, period, plus_sign, question_mark, right_parenthesis, small_a, small_z, vertical_line}
use Rattle.usp_ere.specs.declared.fault.EreFault.{EreFault}
use Rattle.usp_ere.specs.declared.fault.EreFault.TheVariants.{Undefined}
use Rattle.usp_ere.specs.Sets.{between}
use Rattle.usp_ere.specs.Expression.{Expr, byte, any, set, at_begin, at_end}
use Rattle.usp_ere.specs.SetText.{begins, Elements, elements_at}
use Rattle.usp_base.specs.Numbers.{is_digit}
use Rattle.usp_ere.specs.CountText.{Counted, counts_at}

pub data Token : Type 0 where
  -- a character, `.` or a set, of so many bytes
  atom : (e : Expr) (bytes : ℕ) → Token
  -- `^` or `$`
  anchor : (e : Expr) → Token
  -- a repeat
  times : (least : ℕ) (most : Option ℕ) (bytes : ℕ) → Token
  -- a `{` that begins no repeat
  brace : Token
  opening : Token
  closing : Token
  bar : Token
  -- a fault
  bad : (f : EreFault) → Token

-- a set that begins at a place
abbrev pub set_token : (at : ℕ) → Bool → Elements → Token
set_token at negated (Ok (es, end)) = atom (set negated es) (end - at)
set_token at negated (Err f) = bad f

-- the set at a place, with t behind its `[`
abbrev pub set_at : ℕ → List ℕ → Token
set_at at t =
    if begins t (codes "^") then set_token at true (elements_at (at + 2) (drop 1 t))
    else set_token at false (elements_at (at + 1) t)

abbrev pub is_letter_or_digit : ℕ → Bool
is_letter_or_digit c = is_digit c || (between capital_a capital_z c || between small_a small_z c)

-- a `\` at a place, with t behind it: a character that is no letter or digit stands for itself
abbrev pub escaped : ℕ → List ℕ → Token
escaped at [] = bad (Undefined at)
escaped at (c ∷ t) = if is_letter_or_digit c then bad (Undefined at) else atom (byte c) 2

-- what stands behind a `{`, of which so many bytes are left
abbrev pub counted : ℕ → Counted → Token
counted left None = brace
counted left (Some (least, most, rest)) = times least most (1 + (left - length rest))

-- what a byte is by itself
abbrev pub single : ℕ → Token
single c =
    if nat_eq c asterisk then times 0 None 1 else
    if nat_eq c plus_sign then times 1 None 1 else
    if nat_eq c question_mark then times 0 (Some 1) 1 else
    if nat_eq c left_parenthesis then opening else
    if nat_eq c right_parenthesis then closing else
    if nat_eq c vertical_line then bar else
    if nat_eq c circumflex then anchor at_begin else
    if nat_eq c dollar_sign then anchor at_end else
    if nat_eq c period then atom any 1 else atom (byte c) 1

-- the token at a place that begins with c, with t behind it
abbrev pub token_at : (at c : ℕ) → List ℕ → Token
token_at at c t =
    if nat_eq c backslash then escaped at t else
    if nat_eq c left_square_bracket then set_at at t else
    if nat_eq c left_brace then counted (length t) (counts_at t) else single c

abbrev pub bytes_of : Token → ℕ
bytes_of (atom e bytes) = bytes
bytes_of (times least most bytes) = bytes
bytes_of other = 1

pub record Placed : Type 0 where
  pub at : ℕ
  pub token : Token

-- the tokens from a place on, behind the bytes that are still of the one before
abbrev pub tokens_from : (skip : ℕ) → (at : ℕ) → List ℕ → List Placed
tokens_from skip at [] = []
tokens_from (suc skip) at (c ∷ t) = tokens_from skip (at + 1) t
tokens_from zero at (c ∷ t) =
    record { at = at; token = token_at at c t } ∷ tokens_from (bytes_of (token_at at c t) - 1) (at + 1) t

abbrev pub tokens_of : List ℕ → List Placed
tokens_of text = tokens_from 0 0 text
