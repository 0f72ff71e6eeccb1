use Rattle.std.proofs.Common.{refl, ◌∙◌, arith}
use Rattle.usp_tool.specs.Edge.Desks.{IsEmpty, outside_of}
use Rattle.usp_tool.proofs.Serving.Clearing.{cleared_all}
use Rattle.usp_tool.proofs.Serving.Giving.{cleared_next, shown_next}
use Rattle.usp_tool.proofs.edge.worker.clear_shifts.Goals as goal

pub workers-preserved : goal.workers-preserved
workers-preserved g c =
    let now = c.workers.workers in
    let i = c.workers.worker-index in
    let d = c.worker-item.result in
    record {
      empty = cleared_next (λ w. IsEmpty w.shift) now i _ (omega (arith, c.workers-test.true, c.workers.auto.workers)) c.workers.invariant.empty c.clear.ensures;
      kept = shown_next (outside_of {D = g.row.D.Denot} {C = g.row.C.Denot} {O = g.row.O.Denot}) now i _ d refl ∙ c.workers.invariant.kept;
    }

pub returns-clause-told : goal.returns-clause-told
returns-clause-told g c =
    cleared_all g.D.Door.coming g.D.Door.given_back g.D.Door.lines_out g.D.Door.door_count g.C.Clock.given g.O.Objects.objects g.O.Objects.object_count
    c.workers.workers c.args.workers.now c.workers.invariant.kept
    (λ k d lt. c.workers.invariant.empty k d (omega (arith, lt, c.workers-test.false, c.workers.auto.workers, c.workers.auto.worker-index-end)))
