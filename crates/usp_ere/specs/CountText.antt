-- How the counts of a repeat are read, behind its `{`: `m}`, `m,}` or `m,n}`.
use Rattle.std.specs.Prelude.{ℕ, ◌+◌, ◌-◌, ◌*◌, List, Bool, nat_lt, ◌&&◌, not, if◌then◌else◌, Option, Some, None, codes, length, drop, take, fold, min}
use Rattle.std.specs.List.{prefix_len}
use Rattle.usp_base.specs.Numbers.{digit_0, is_digit}
use Rattle.usp_ere.specs.SetText.{begins}

-- the number that decimal digits spell, where 256 stands for each above 255
abbrev pub value_of : List ℕ → ℕ
value_of digits = fold (λ v d. min 256 (10 * v + (d - digit_0))) 0 digits

-- a number has a digit, and no leading zero
abbrev pub is_number : List ℕ → Bool
is_number digits = nat_lt 0 (length digits) && not (begins digits (codes "0") && nat_lt 1 (length digits))

-- a number, and the text behind it
abbrev pub Numbered : Type 0
Numbered = Option (ℕ × List ℕ)

-- the number at the front of a text
abbrev pub number_at : List ℕ → Numbered
number_at t =
    let n = prefix_len is_digit t in
    if is_number (take n t) then Some (value_of (take n t), drop n t) else None

-- the counts, and the text behind their `}`
abbrev pub Counted : Type 0
Counted = Option (ℕ × Option ℕ × List ℕ)

-- the second count with its `}`, behind the first count and its comma
abbrev pub most_at : ℕ → Numbered → Counted
most_at least None = None
most_at least (Some (most, t)) = if begins t (codes "}") then Some (least, Some most, drop 1 t) else None

-- what stands behind the first count
abbrev pub least_at : Numbered → Counted
least_at None = None
least_at (Some (least, t)) =
    if begins t (codes "}") then Some (least, Some least, drop 1 t) else
    if begins t (codes ",}") then Some (least, None, drop 2 t) else
    if begins t (codes ",") then most_at least (number_at (drop 1 t)) else None

-- the counts at the front of a text
abbrev pub counts_at : List ℕ → Counted
counts_at t = least_at (number_at t)
