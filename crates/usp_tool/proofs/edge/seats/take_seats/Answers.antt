use Rattle.std.proofs.Common.{ap, refl, None, slice_index_or}
use Rattle.usp_tool.specs.Edge.Desks.{seat_at, with_seat}
use Rattle.usp_tool.proofs.Serving.Giving.{rest_next, same_at}
use Rattle.usp_tool.proofs.Serving.Joining.{none_taken, taken_next}
use Rattle.usp_tool.proofs.edge.seats.take_seats.Goals as goal

pub workers-init : goal.workers-init
workers-init g c = record { taken = none_taken c.args.seat.now; rest = refl; table = c.requires.table }

pub workers-preserved : goal.workers-preserved
workers-preserved g c =
    let xs = c.args.workers.now in
    let now = c.workers.workers in
    let i = c.workers.worker-index in
    let d = c.worker-item.result in
    record {
      taken = taken_next (seat_at {D = g.row.D.Denot} {C = g.row.C.Denot} {O = g.row.O.Denot}) _ _ _ xs now i d c.workers-test.true
          (same_at (with_seat None) xs now i d c.workers-test.true c.workers.invariant.rest) c.workers.invariant.taken c.take_seat.ensures.took;
      rest = rest_next (with_seat None) xs now i d _ c.workers-test.true c.workers.invariant.rest (ap (λ s. with_seat s (slice_index_or now i d)) c.take_seat.ensures.none);
      table = c.take_seat.ensures.table;
    }
