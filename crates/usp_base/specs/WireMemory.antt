-- What the connections in memory tell.
use Rattle.std.specs.Prelude.{ℕ, List, Option, Some}
use Rattle.usp_base.specs.Doors.{Gone, IsFresh}
use Rattle.usp_base.specs.Memory.{listed_faults, listed_left, listed_put_faults, listed_told, steady_left, steady_told}
use Rattle.usp_base.specs.declared.wire.ListedWire.{ListedWire}
use Rattle.usp_base.specs.declared.wire.SteadyWire.{SteadyWire}

abbrev pub left_on : ListedWire → Option (List ℕ)
left_on w = Some (listed_left w.source)

abbrev pub gone_of : ListedWire → Gone
gone_of w = record {
  told = Some (listed_told w.sink);
  read_faults = listed_faults w.source;
  put_faults = listed_put_faults w.sink;
}

-- nothing was put on it, and nothing has failed
abbrev pub IsFreshWire : ListedWire → Type 0
IsFreshWire w = IsFresh (listed_faults w.source) (listed_put_faults w.sink) (Some (listed_told w.sink))

abbrev pub left_on_steady : SteadyWire → Option (List ℕ)
left_on_steady w = Some (steady_left w.source)

abbrev pub steady_gone_of : SteadyWire → Gone
steady_gone_of w = record { told = Some (steady_told w.sink); read_faults = 0; put_faults = 0 }

-- nothing was put on it
abbrev pub IsFreshSteadyWire : SteadyWire → Type 0
IsFreshSteadyWire w = IsFresh 0 0 (Some (steady_told w.sink))
