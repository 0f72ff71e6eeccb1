use Rattle.std.proofs.Common.{ap, Some, [], slice_index_or}
use Rattle.usp_tool.specs.Edge.Desks.{with_seat}
use Rattle.usp_tool.proofs.Serving.Giving.{given_next, kept_next, rest_next}
use Rattle.usp_tool.proofs.Serving.Parting.{left_next}
use Rattle.usp_tool.proofs.edge.seats.give_seats.Goals as goal

pub workers-preserved : goal.workers-preserved
workers-preserved g c =
    let xs = c.args.workers.now in
    let now = c.workers.workers in
    let i = c.workers.worker-index in
    let d = c.worker-item.result in
    let a = c.args.seat.now in
    let s = c.workers.seat in
    record {
      given = rest_next (with_seat (Some (record a { places = []; left = c.args.part }))) xs now i d _ c.workers-test.true c.workers.invariant.given
          (ap (λ t. with_seat t (slice_index_or now i d)) (given_next a s c.args.part c.give_seat.new.to c.workers.invariant.kept c.give_seat.ensures.given));
      kept = kept_next a s c.give_seat.new.seat _ c.workers.invariant.kept c.give_seat.ensures.kept;
      left = left_next a.left s.left c.give_seat.new.seat.left i _ c.args.part c.workers-test.true c.requires.share c.workers.invariant.left (ap (λ t. t.left) c.give_seat.ensures.kept);
    }
