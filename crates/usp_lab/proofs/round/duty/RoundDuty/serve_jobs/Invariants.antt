use Rattle.std.proofs.Common.{◌≡◌, ◌*◌, ◌≤◌, ℕ, All, List, Option, length, map}
use Rattle.std.specs.List.{AllByRecursion}
use Rattle.usp_edge.specs.declared.limits.TheConstants.{MAX_HEADS}
use Rattle.usp_lab.specs.Jobs.{IsOwn, IsReady}
use Rattle.usp_lab.specs.Shares.{part_by, table_of}
use Rattle.usp_lab.proofs.Rounds.Behind.{Behind}
use Rattle.usp_lab.proofs.round.duty.RoundDuty.serve_jobs.Given as goal

-- the first tasks were done, and there are calls enough for the others
abbrev pub invariant-loop-job : goal.invariant-loop-job
invariant-loop-job g l =
    let p = part_by g.L.Source.left g.L.Sink.told in
    let script = l.self.script.now in
    let asks = l.self.asks.now in
    record {
      tables : map table_of l.share.seats.items ≡ map table_of l.fn.share.seats.items;
      ready : AllByRecursion (IsReady script asks) (p l.share).tasks;
      enough : All (λ seat. MAX_HEADS * length (p l.share).tasks ≤ seat.left) l.share.seats.items;
      done : (issued : List (Option (List ℕ))) (known : ℕ) → AllByRecursion (IsOwn script issued asks) (p l.fn.share).tasks
          → Behind script issued known asks (p l.fn.share) (p l.share);
    }

abbrev pub decreases-loop-job : goal.decreases-loop-job
decreases-loop-job g l = length l.share.jobs.items
