-- The bytes of a text, one after the other (RFC 8259 sections 7 and 8.1, RFC 3629 section 4).
use Rattle.std.specs.Prelude.{ℕ, ◌+◌, ◌*◌, ◌-◌, ◌==◌, ◌&&◌, nat_le, Bool, true, false, List, [], ◌∷◌, ◌++◌, Option, Some, None, if◌then◌else◌, option_and_then, encode_utf8}
use Rattle.usp_json.specs.Grammar.{hex_value, escaped}
use Rattle.usp_json.specs.declared.states.Piece.{Piece}
use Rattle.usp_json.specs.declared.states.Piece.TheVariants.{Start, Last, LastButOne, LastButTwo, Letter, First, Second, Third, Fourth, Backslash, U}
use Rattle.usp_json.specs.Signs.{quotation_mark, backslash, space, letter_u}

-- what comes next, and the bytes of the text so far
abbrev pub Read : Type 0
Read = Piece × List ℕ

abbrev pub between : ℕ → ℕ → ℕ → Bool
between least most b = nat_le least b && nat_le b most

-- the first byte of a character, and between which bytes the next one is (RFC 3629 section 4); a quote is none
abbrev pub start_step : List ℕ → ℕ → Option Read
start_step got b =
    if b == quotation_mark then None
    else (if b == backslash then Some (Letter, got)
    else (if between space 127 b then Some (Start, got ++ b ∷ [])
    else (if between 194 223 b then Some (Last, got ++ b ∷ [])
    else (if b == 224 then Some (LastButOne 160 191, got ++ b ∷ [])
    else (if b == 237 then Some (LastButOne 128 159, got ++ b ∷ [])
    else (if between 225 239 b then Some (LastButOne 128 191, got ++ b ∷ [])
    else (if b == 240 then Some (LastButTwo 144 191, got ++ b ∷ [])
    else (if between 241 243 b then Some (LastButTwo 128 191, got ++ b ∷ [])
    else (if b == 244 then Some (LastButTwo 128 143, got ++ b ∷ []) else None)))))))))

abbrev pub letter_step : List ℕ → ℕ → Option Read
letter_step got b =
    if b == letter_u then Some (First 0, got) else option_and_then (λ c. Some (Start, got ++ encode_utf8 c)) (escaped b)

-- the first two digits may begin a number that may stand here: behind a high surrogate only a low one, and else no low
-- one
abbrev pub first_fits : ℕ → ℕ → Bool
first_fits high value = if high == 0 then true else value == 13

abbrev pub second_fits : ℕ → ℕ → Bool
second_fits high value = if high == 0 then (if between 220 223 value then false else true) else between 220 223 value

-- the four digits are there
abbrev pub unit_step : ℕ → List ℕ → ℕ → Read
unit_step high got value =
    if high == 0 then (if between 55296 56319 value then (Backslash value, got) else (Start, got ++ encode_utf8 value))
    else (Start, got ++ encode_utf8 (65536 + (high - 55296) * 1024 + (value - 56320)))

abbrev pub piece_step : Piece → List ℕ → ℕ → Option Read
piece_step Start got b = start_step got b
piece_step Last got b = if between 128 191 b then Some (Start, got ++ b ∷ []) else None
piece_step (LastButOne least most) got b = if between least most b then Some (Last, got ++ b ∷ []) else None
piece_step (LastButTwo least most) got b =
    if between least most b then Some (LastButOne 128 191, got ++ b ∷ []) else None
piece_step Letter got b = letter_step got b
piece_step (First high) got b =
    option_and_then (λ d. if first_fits high d then Some (Second high d, got) else None) (hex_value b)
piece_step (Second high value) got b =
    option_and_then (λ d. if second_fits high (value * 16 + d) then Some (Third high (value * 16 + d), got) else None)
    (hex_value b)
piece_step (Third high value) got b = option_and_then (λ d. Some (Fourth high (value * 16 + d), got)) (hex_value b)
piece_step (Fourth high value) got b = option_and_then (λ d. Some (unit_step high got (value * 16 + d))) (hex_value b)
piece_step (Backslash high) got b = if b == backslash then Some (U high, got) else None
piece_step (U high) got b = if b == letter_u then Some (First high, got) else None

abbrev pub pieces_run : Piece → List ℕ → List ℕ → Option Read
pieces_run piece got [] = Some (piece, got)
pieces_run piece got (b ∷ bs) = option_and_then (λ r. pieces_run r.0 r.1 bs) (piece_step piece got b)

-- one more digit, by its value
abbrev pub digit_step : Piece → List ℕ → ℕ → Option Read
digit_step (First high) got d = if first_fits high d then Some (Second high d, got) else None
digit_step (Second high value) got d =
    if second_fits high (value * 16 + d) then Some (Third high (value * 16 + d), got) else None
digit_step (Third high value) got d = Some (Fourth high (value * 16 + d), got)
digit_step (Fourth high value) got d = Some (unit_step high got (value * 16 + d))
digit_step _ got d = None
