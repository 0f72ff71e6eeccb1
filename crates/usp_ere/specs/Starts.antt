-- The places of a text at which a walk starts.
use Rattle.std.specs.Prelude.{◌≡◌, ℕ, ◌<◌, ◌≤◌, List, Bool, true, false, nat_eq, Option, Some, None, slice_get, length}
use Rattle.usp_ere.specs.Bytes.{holds}
use Rattle.usp_ere.specs.declared.course.Places.{Places}
use Rattle.usp_ere.specs.declared.course.Places.TheVariants.{At, Before, Anywhere}

-- whether a walk starts at a place, before a byte or at the end
abbrev pub starts_at : Places → ℕ → Option ℕ → Bool
starts_at (At place) at byte = nat_eq at place
starts_at (Before s) at None = false
starts_at (Before s) at (Some c) = holds s c
starts_at Anywhere at byte = true

-- a walk starts at none of the places from one up to another
pub record IsPassedOver (places : Places) (u : List ℕ) (from to : ℕ) : Type 0 where
  pub by : (at : ℕ) → from ≤ at → at < to → at ≤ length u → starts_at places at (slice_get u at) ≡ false
