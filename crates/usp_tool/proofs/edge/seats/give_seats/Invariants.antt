use Rattle.std.proofs.Common.{◌≡◌, ◌+◌, ◌*◌, ◌++◌, [], Some, map, take, drop}
use Rattle.usp_tool.specs.Edge.Desks.{with_seat}
use Rattle.usp_tool.proofs.edge.seats.give_seats.Given as goal

-- so many workers have their seats
abbrev pub invariant-workers : goal.invariant-workers
invariant-workers g l = record {
  given : l.workers ≡ map (with_seat (Some (record l.fn.seat { places = []; left = l.part }))) (take l.worker-index l.fn.workers) ++ drop l.worker-index l.fn.workers;
  kept : l.seat ≡ record l.fn.seat { left = l.seat.left };
  left : l.seat.left + l.worker-index * l.part ≡ l.fn.seat.left;
}
