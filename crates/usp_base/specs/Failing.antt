-- Which calls of an object in memory fail.
use Rattle.std.specs.Prelude.{ℕ, ◌+◌, min, Bool, ◌==◌, List, if◌then◌else◌}
use Rattle.std.specs.List.{list_any}
use Rattle.usp_base.specs.Counts.{last_count}

-- the places, from 0, of the calls that fail, how many calls were made, and how many of them failed
pub record FailingCalls : Type 0 where
  pub places : List ℕ
  pub calls : ℕ
  pub faults : ℕ

-- a count after one more
abbrev pub next_count : ℕ → ℕ
next_count count = min (count + 1) last_count

-- the next call is one that fails
abbrev pub fails_next : FailingCalls → Bool
fails_next failing = list_any (λ place. place == failing.calls) failing.places

-- the same after one more call
abbrev pub after_call : FailingCalls → FailingCalls
after_call failing = record {
  places = failing.places;
  calls = next_count failing.calls;
  faults = if fails_next failing then next_count failing.faults else failing.faults;
}

-- no call was made
abbrev pub none_yet : List ℕ → FailingCalls
none_yet places = record { places = places; calls = 0; faults = 0 }
