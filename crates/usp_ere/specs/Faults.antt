-- The fault of a text that is no expression: the one of the first place.
use Rattle.std.specs.Prelude.{ℕ, zero, suc, List, [], ◌∷◌, Bool, true, false, nat_le, ◌&&◌, not, if◌then◌else◌, Option, Some, None, Result, Ok, Err, length, position}
use Rattle.usp_ere.specs.Letters.{space, tilde}
use Rattle.usp_ere.specs.declared.fault.EreFault.{EreFault}
use Rattle.usp_ere.specs.declared.fault.EreFault.TheVariants.{Syntax, Undefined, Repeat}
use Rattle.usp_ere.specs.declared.limits.TheConstants.{MAX_COUNT}
use Rattle.usp_ere.specs.Sets.{between}
use Rattle.usp_ere.specs.Tokens.{Token, atom, anchor, times, brace, opening, closing, bar, bad, Placed, tokens_of}

-- what stands before a place in its branch: nothing, what may be repeated, or what may not be (an anchor or a repeat)
pub data Before : Type 0 where
  nothing : Before
  repeatable : Before
  settled : Before

-- the counts of a repeat are in order, and at most the limit
abbrev pub are_counts : ℕ → Option ℕ → Bool
are_counts least None = nat_le least MAX_COUNT
are_counts least (Some most) = nat_le least most && nat_le most MAX_COUNT

-- what stands before the next place, and how many groups are open there
abbrev pub Standing : Type 0
Standing = Before × ℕ

abbrev pub behind_counts : (at : ℕ) → Bool → ℕ → Result Standing EreFault
behind_counts at true groups = Ok (settled, groups)
behind_counts at false groups = Err (Repeat at)

-- a token at a place where this stands before it, among so many open groups: what stands behind it, or its
-- fault
abbrev pub behind_token : (at : ℕ) → Before → ℕ → Token → Result Standing EreFault
behind_token at before groups (atom e bytes) = Ok (repeatable, groups)
behind_token at before groups (anchor e) = Ok (settled, groups)
behind_token at before groups opening = Ok (nothing, suc groups)
behind_token at before groups (bad f) = Err f
-- a repeat is one of an atom or of a group
behind_token at repeatable groups (times least most bytes) = behind_counts at (are_counts least most) groups
behind_token at before groups (times least most bytes) = Err (Undefined at)
behind_token at repeatable groups brace = Err (Syntax at)
behind_token at before groups brace = Err (Undefined at)
-- no branch is empty
behind_token at nothing groups bar = Err (Undefined at)
behind_token at before groups bar = Ok (nothing, groups)
-- a `)` that closes nothing is a character
behind_token at before zero closing = Ok (repeatable, 0)
behind_token at nothing (suc groups) closing = Err (Undefined at)
behind_token at before (suc groups) closing = Ok (repeatable, groups)

-- at the end each group is closed, and the last branch is not empty
abbrev pub fault_at_end : Before → ℕ → ℕ → Option EreFault
fault_at_end before (suc groups) end = Some (Syntax end)
fault_at_end nothing zero end = Some (Undefined end)
fault_at_end before zero end = None

-- the fault of a token, or the first one behind it
abbrev pub or_behind : Result Standing EreFault → (Before → ℕ → Option EreFault) → Option EreFault
or_behind (Ok (before, groups)) more = more before groups
or_behind (Err f) more = Some f

-- the first fault of these tokens, where the text ends at a place
abbrev pub fault_in : Before → ℕ → ℕ → List Placed → Option EreFault
fault_in before groups end [] = fault_at_end before groups end
fault_in before groups end (p ∷ ps) =
    or_behind (behind_token p.at before groups p.token) (λ b g. fault_in b g end ps)

-- the place of the first byte from outside 0x20 to 0x7e
abbrev pub first_odd : List ℕ → Option ℕ
first_odd text = position (λ c. not (between space tilde c)) text

abbrev pub place_of : EreFault → ℕ
place_of (Syntax at) = at
place_of (Undefined at) = at
place_of (Repeat at) = at
place_of other = 0

-- the fault of the first place, where a byte is also one: at one place the other goes first
abbrev pub first_of_both : Option EreFault → Option ℕ → Option EreFault
first_of_both fault None = fault
first_of_both None (Some odd) = Some (Undefined odd)
first_of_both (Some f) (Some odd) = if nat_le (place_of f) odd then Some f else Some (Undefined odd)

-- the fault of a text, or none
abbrev pub fault_of : List ℕ → Option EreFault
fault_of text = first_of_both (fault_in nothing 0 (length text) (tokens_of text)) (first_odd text)
