use Rattle.std.proofs.Common.{◌≡◌}
use Rattle.usp.proofs.outside.line.TcpLine.receive.Given as goal

abbrev pub invariant-loop : goal.invariant-loop
invariant-loop g l = (l.self.ended ≡ l.fn.self.ended) × (l.self.read_faults ≡ l.fn.self.read_faults) × (l.self.put_faults ≡ l.fn.self.put_faults)
