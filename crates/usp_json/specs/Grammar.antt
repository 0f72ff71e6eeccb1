-- The letters of JSON, and the spellings of its numbers and texts (RFC 8259, sections 2, 6 and 7).
use Rattle.std.specs.Prelude.{◌≡◌, ◌≢◌, ◌⊎◌, ℕ, ◌+◌, ◌*◌, ◌-◌, ◌<◌, ◌≤◌, ◌==◌, ◌||◌, ◌&&◌, nat_le, Bool, true, List, [], ◌∷◌, ◌++◌, length, slice_index, not, Option, Some, None, if◌then◌else◌, encode_utf8}
use Rattle.std.specs.Char.{IsScalar}
use Rattle.usp_base.specs.Numbers.{digit_0, is_digit}
use Rattle.usp_json.specs.Signs.{quotation_mark, plus_sign, minus_sign, decimal_point, backslash, slash, space, tab, line_feed, carriage_return, backspace, form_feed, letter_a, letter_b, letter_e, letter_f, letter_n, letter_r, letter_t, letter_u, capital_a, capital_e, capital_f}

-- each byte passes the test
abbrev pub Each : (ℕ → Bool) → List ℕ → Type 0
Each test [] = Unit {0}
Each test (b ∷ bs) = (test b ≡ true) × Each test bs

-- each is a byte
abbrev pub IsBytes : List ℕ → Type 0
IsBytes text = (i : ℕ) → slice_index text i < 256

-- white space: space, tab, line feed, carriage return
abbrev pub is_space : ℕ → Bool
is_space b = b == space || b == tab || b == line_feed || b == carriage_return

abbrev pub IsSpace : List ℕ → Type 0
IsSpace text = Each is_space text

-- one digit or more
abbrev pub AreDigits : List ℕ → Type 0
AreDigits text = (0 < length text) × Each is_digit text

-- nothing, or a minus
abbrev pub IsMinus : List ℕ → Type 0
IsMinus text = (text ≡ []) ⊎ (text ≡ minus_sign ∷ [])

-- `0`, or digits of which the first is not 0
abbrev pub IsWhole : List ℕ → Type 0
IsWhole text = (text ≡ digit_0 ∷ []) ⊎ ((first : ℕ) × (rest : List ℕ) × (text ≡ first ∷ rest)
    × (is_digit first ≡ true) × (first ≢ digit_0) × Each is_digit rest)

-- nothing, or a point and digits
abbrev pub IsFraction : List ℕ → Type 0
IsFraction text = (text ≡ []) ⊎ ((digits : List ℕ) × (text ≡ decimal_point ∷ digits) × AreDigits digits)

-- `e` or `E`; a plus or a minus
abbrev pub is_mark : ℕ → Bool
is_mark b = b == letter_e || b == capital_e

abbrev pub is_sign : ℕ → Bool
is_sign b = b == plus_sign || b == minus_sign

-- nothing, or one sign
abbrev pub IsSigned : List ℕ → Type 0
IsSigned text = (text ≡ []) ⊎ ((b : ℕ) × (text ≡ b ∷ []) × (is_sign b ≡ true))

-- nothing, or a mark, maybe a sign, and digits
abbrev pub IsExponent : List ℕ → Type 0
IsExponent text = (text ≡ []) ⊎ ((mark : ℕ) × (sign digits : List ℕ) × (is_mark mark ≡ true) × IsSigned sign
    × (text ≡ mark ∷ (sign ++ digits)) × AreDigits digits)

-- a number: maybe a minus, a whole number, maybe a fraction, maybe an exponent
pub record IsInteger (text : List ℕ) : Type 0 where
  pub minus : List ℕ
  pub whole : List ℕ
  pub is_minus : IsMinus minus
  pub is_whole : IsWhole whole
  pub spelled : text ≡ minus ++ whole

pub record IsDecimal (text : List ℕ) : Type 0 where
  pub integer : List ℕ
  pub fraction : List ℕ
  pub is_integer : IsInteger integer
  pub is_fraction : IsFraction fraction
  pub spelled : text ≡ integer ++ fraction

pub record IsNumber (text : List ℕ) : Type 0 where
  pub decimal : List ℕ
  pub exponent : List ℕ
  pub is_decimal : IsDecimal decimal
  pub is_exponent : IsExponent exponent
  pub spelled : text ≡ decimal ++ exponent

-- the value of a hexadecimal digit
abbrev pub hex_value : ℕ → Option ℕ
hex_value b =
    if is_digit b then Some (b - digit_0)
    else (if nat_le letter_a b && nat_le b letter_f then Some (b - 87)
    else (if nat_le capital_a b && nat_le b capital_f then Some (b - 55) else None))

-- a `\u` with four hexadecimal digits of that value
pub record IsUnit (unit : ℕ) (text : List ℕ) : Type 0 where
  pub a : ℕ
  pub b : ℕ
  pub c : ℕ
  pub d : ℕ
  pub w : ℕ
  pub x : ℕ
  pub y : ℕ
  pub z : ℕ
  pub first : hex_value a ≡ Some w
  pub second : hex_value b ≡ Some x
  pub third : hex_value c ≡ Some y
  pub fourth : hex_value d ≡ Some z
  pub value : unit ≡ ((w * 16 + x) * 16 + y) * 16 + z
  pub spelled : text ≡ backslash ∷ letter_u ∷ a ∷ b ∷ c ∷ d ∷ []

-- the character of a short escape, by its letter
abbrev pub escaped : ℕ → Option ℕ
escaped b =
    if b == quotation_mark then Some quotation_mark
    else (if b == backslash then Some backslash
    else (if b == slash then Some slash
    else (if b == letter_b then Some backspace
    else (if b == letter_f then Some form_feed
    else (if b == letter_n then Some line_feed
    else (if b == letter_r then Some carriage_return
    else (if b == letter_t then Some tab else None)))))))

-- a byte that may stand for itself (`unescaped`): no control character, quote or backslash
abbrev pub is_unescaped : ℕ → Bool
is_unescaped b = nat_le space b && not (b == quotation_mark || b == backslash)

-- a spelling of the character c: its own UTF-8, a short escape, its number, or a surrogate pair
pub data SpellsChar (c : ℕ) (text : List ℕ) : Type 0 where
  plain : IsScalar c → space ≤ c → c ≢ quotation_mark → c ≢ backslash → text ≡ encode_utf8 c → SpellsChar c text
  short : (letter : ℕ) → escaped letter ≡ Some c → text ≡ backslash ∷ letter ∷ [] → SpellsChar c text
  unit : IsScalar c → IsUnit c text → SpellsChar c text
  pair : (high low : ℕ) (front back : List ℕ) → 55296 ≤ high → high < 56320 → 56320 ≤ low → low < 57344
      → c ≡ 65536 + (high - 55296) * 1024 + (low - 56320) → IsUnit high front → IsUnit low back → text ≡ front ++ back
      → SpellsChar c text

-- spellings of characters, one after the other, whose UTF-8 is those bytes
pub data SpellsChars : List ℕ → List ℕ → Type 0 where
  none : SpellsChars [] []
  more : (c : ℕ) (bytes front back all text : List ℕ) → SpellsChar c front → SpellsChars bytes back
      → all ≡ encode_utf8 c ++ bytes → text ≡ front ++ back → SpellsChars all text

-- a spelling of the text of those bytes, in its quotes
abbrev pub SpellsText : List ℕ → List ℕ → Type 0
SpellsText bytes text =
    (inner : List ℕ) × (text ≡ quotation_mark ∷ (inner ++ quotation_mark ∷ [])) × SpellsChars bytes inner
