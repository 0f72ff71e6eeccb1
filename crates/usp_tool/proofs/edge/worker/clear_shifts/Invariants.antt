use Rattle.std.proofs.Common.{◌≡◌, ◌<◌, ℕ, map, slice_index_or}
use Rattle.usp_tool.specs.Edge.Desks.{IsEmpty, outside_of}
use Rattle.usp_tool.proofs.edge.worker.clear_shifts.Given as goal

-- so many shifts are clear
abbrev pub invariant-workers : goal.invariant-workers
invariant-workers g l = record {
  empty : (k : ℕ) (d : _) → k < l.worker-index → IsEmpty (slice_index_or l.workers k d).shift;
  kept : map outside_of l.workers ≡ map outside_of l.fn.workers;
}
