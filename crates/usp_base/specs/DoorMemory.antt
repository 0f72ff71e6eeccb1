-- What the doors in memory tell.
use Rattle.std.specs.Prelude.{ℕ, ◌-◌, List, length, map}
use Rattle.usp_base.specs.Failing.{FailingCalls}
use Rattle.usp_base.specs.declared.door.ListedDoor.{ListedDoor}
use Rattle.usp_base.specs.declared.door.SteadyDoor.{SteadyDoor}
use Rattle.usp_base.specs.declared.wire.ListedWire.{ListedWire}
use Rattle.usp_base.specs.declared.wire.SteadyWire.{SteadyWire}

-- the lines to come
abbrev pub listed_to_come : ListedDoor → List ListedWire
listed_to_come d = d.coming.items

-- the lines given back
abbrev pub listed_back : ListedDoor → List ListedWire
listed_back d = d.back.items

abbrev pub listed_out : ListedDoor → ℕ
listed_out d = d.out

-- which asks for the next line fail
abbrev pub listed_nexts : ListedDoor → FailingCalls
listed_nexts d = d.failures

abbrev pub listed_door_faults : ListedDoor → ℕ
listed_door_faults d = d.failures.faults

abbrev pub steady_to_come : SteadyDoor → List SteadyWire
steady_to_come d = d.coming.items

abbrev pub steady_back : SteadyDoor → List SteadyWire
steady_back d = map (λ pair. pair.0) d.back.items

-- how many were let in and not given back
abbrev pub steady_out : SteadyDoor → ℕ
steady_out d = length d.let_in.items - length d.back.items
