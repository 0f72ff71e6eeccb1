use Rattle.std.proofs.Common.{◌≡◌, All, length}
use Rattle.usp_tool.specs.Edge.Desks.{IsEmpty}
use Rattle.usp.proofs.workers_of.Given as goal

-- so many workers were made, and their shifts are empty
abbrev pub invariant-workers : goal.invariant-workers
invariant-workers g l = (length l.workers.items ≡ l.counter) × All (λ w. IsEmpty w.shift) l.workers.items
