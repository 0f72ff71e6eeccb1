use Rattle.std.proofs.Common.{◌≡◌, ◌++◌, None, map, take, drop}
use Rattle.usp_tool.specs.Edge.Joins.{TakenIn}
use Rattle.usp_tool.specs.Edge.Desks.{seat_at, with_seat}
use Rattle.usp_tool.proofs.edge.seats.take_seats.Given as goal

-- the seats of so many workers are taken, and the others are as they were
abbrev pub invariant-workers : goal.invariant-workers
invariant-workers g l = record {
  taken : TakenIn l.fn.seat (take l.worker-index (map seat_at l.fn.workers)) l.seat;
  rest : l.workers ≡ map (with_seat None) (take l.worker-index l.fn.workers) ++ drop l.worker-index l.fn.workers;
  table : l.seat.table ≡ l.table.table;
}
