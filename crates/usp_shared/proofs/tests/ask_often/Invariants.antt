use Rattle.std.proofs.Common.{◌≡◌}
use Rattle.usp_shared.proofs.tests.ask_often.Given as goal

abbrev pub invariant-calls : goal.invariant-calls
invariant-calls g l = l.seat.table ≡ l.fn.seat.table
