-- Sets of bytes as bits.
use Rattle.std.specs.Prelude.{◌≡◌, ℕ, ◌-◌, ◌<◌, nat_lt, List, Bool, if◌then◌else◌}
use Rattle.usp_ere.specs.Bits.{has_bit}
use Rattle.usp_ere.specs.declared.bytes.ByteSet.{ByteSet}
use Rattle.usp_ere.specs.declared.class.Element.{Element}
use Rattle.usp_ere.specs.Sets.{set_holds}

-- whether the byte is one of the set
abbrev pub holds : ByteSet → ℕ → Bool
holds s b =
    if nat_lt b 64 then has_bit s.first b else
    if nat_lt b 128 then has_bit s.second (b - 64) else
    if nat_lt b 192 then has_bit s.third (b - 128) else has_bit s.fourth (b - 192)

-- the set holds the bytes that its elements say
pub record Holds (s : ByteSet) (negated : Bool) (elements : List Element) : Type 0 where
  pub by : (b : ℕ) → b < 256 → holds s b ≡ set_holds negated elements b
