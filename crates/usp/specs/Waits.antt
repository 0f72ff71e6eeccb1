-- How long a read of a connection waits for its client.
use Rattle.std.specs.Prelude.{ℕ, ◌*◌, ◌-◌, Bool, List, length, drop, min, if◌then◌else◌, ◌||◌, codes}
use Rattle.std.specs.Str.{bytes_eq}

-- seconds as nanoseconds
abbrev pub nanos : ℕ → ℕ
nanos seconds = seconds * 1000000000

-- what is left of the time for a head, and no more than the time to be idle where no request is under way
abbrev pub time_left : (head idle passed : ℕ) → Bool → ℕ
time_left head idle passed between = if between then min (head - passed) idle else head - passed

-- the last three bytes of a text
abbrev pub last_three : List ℕ → List ℕ
last_three text = drop (length text - 3) text

-- The text ends with an empty line, as each head does (RFC 9112, section 2.1). A line ends with LF, or CR LF.
abbrev pub ends_a_head : List ℕ → Bool
ends_a_head last = bytes_eq last (codes "\n\r\n") || bytes_eq (drop 1 last) (codes "\n\n")
