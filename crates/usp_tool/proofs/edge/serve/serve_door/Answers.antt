use Rattle.std.proofs.Common.{◌≤◌, ◌<◌, ◌*◌, ◌-◌, ◌∙◌, refl, sym, ap, arith, length, ◌++◌, ◌∷◌, []}
use Rattle.usp_base.specs.Doors.{known_first, known_more}
use Rattle.usp_tool.specs.Edge.AtDoor.{further, nobody}
use Rattle.usp_tool.proofs.Serving.AtDoors.{counted_on, if_some, journal_grows, left_on, less}
use Rattle.usp_tool.proofs.edge.serve.serve_door.Goals as goal

pub visits-init : goal.visits-init
visits-init g c = record {
  visits = nobody _ _ refl;
  most = omega arith;
  left = let is : 100 * c.args.service.now.most ≤ g.N.Nonces.calls_left c.args.nonces.now = c.requires.left in
      (let goes : 100 * (c.args.service.now.most - 0) ≤ g.N.Nonces.calls_left c.args.nonces.now =
      omega (arith, is) in goes);
  out = refl;
  later = omega arith;
}

pub visits-preserved : goal.visits-preserved
visits-preserved g c =
    let served = c.serve_connection-end.ensures in
    let came = if_some _ c.in-Ok-Some.field-0 c.in-Ok-Some.line c.in-Ok-Some.field-0-is c.in-Ok-Some.ensures.came in
    let lt : c.visits.served < c.args.service.now.most =
    less c.visits.served c.args.service.now.most c.if-served-service.false c.visits.invariant.most in
    record {
      visits = further c.visits.served _ _ _ c.visits.invariant.visits (record {
        line = _;
        ends = c.serve_connection-end.result;
        notes = c.count.result - c.count-before.result;
        fresh = if_some _ c.in-Ok-Some.field-0 c.in-Ok-Some.line c.in-Ok-Some.field-0-is c.in-Ok-Some.ensures.fresh;
        came = came.0 ∙ ap (known_first (g.D.Line.Source.left c.in-Ok-Some.line)) (sym c.give_back.ensures.coming);
        served = served;
        back = c.give_back.ensures.back ∙ ap (λ l. known_more l (record {
          told = g.D.Line.Sink.told c.serve_connection-end.new.wire;
          read_faults = g.D.Line.Source.read_count c.serve_connection-end.new.wire;
          put_faults = g.D.Line.Sink.put_count c.serve_connection-end.new.wire;
        })) c.in-Ok-Some.ensures.back;
        counted = counted_on (length c.visits.log.notes.items) (length c.serve_connection-end.new.journal.items)
            c.count-before.result c.count.result c.count-before.ensures c.count.ensures
            (journal_grows g.N.Nonces.gains c.args.service.now.edge.conf.now _ _ _ _ served);
        visited = c.push_visit.ensures ∙ ap (λ v. v ++ record {
          notes = c.count.result - c.count-before.result;
          «end» = c.serve_connection-end.result;
        } ∷ []) c.make_room.ensures.same;
      });
      most = omega (arith, lt);
      left = left_on g.N.Nonces.gains c.args.service.now.edge.conf.now g.N.Nonces.calls_left g.met.N.Nonces.gains_left
          _ _ _ _ served c.args.service.now.most c.visits.served lt c.visits.invariant.left;
      out = omega (arith, came.1, c.give_back.ensures.out, c.visits.invariant.out);
      later = omega (arith, c.visits.invariant.later, c.in-Ok-Some.ensures.cause.later, c.give_back.ensures.later);
    }
