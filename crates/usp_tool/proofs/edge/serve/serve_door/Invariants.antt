use Rattle.std.proofs.Common.{◌≡◌, ◌≤◌, ◌-◌, ◌*◌}
use Rattle.usp_tool.specs.Edge.AtDoor.{AtDoor}
use Rattle.usp_tool.proofs.edge.serve.serve_door.Given as goal

-- so many connections were served
abbrev pub invariant-visits : goal.invariant-visits
invariant-visits g l = record {
  visits : AtDoor g.N.Nonces.gains l.service.edge.conf.now l.served
      (record {
        coming = g.D.Door.coming l.fn.door;
        back = g.D.Door.given_back l.fn.door;
        visits = l.fn.log.visits.items;
        met = record {
          given = g.C.Clock.given l.fn.clock;
          supplies = record {
            nonces = l.fn.nonces;
            objects = g.O.Objects.objects l.fn.objects;
            faults = g.O.Objects.object_count l.fn.objects;
          };
          journal = l.fn.log.notes.items;
        };
      })
      (record {
        coming = g.D.Door.coming l.door;
        back = g.D.Door.given_back l.door;
        visits = l.log.visits.items;
        met = record {
          given = g.C.Clock.given l.clock;
          supplies = record {
            nonces = l.nonces;
            objects = g.O.Objects.objects l.objects;
            faults = g.O.Objects.object_count l.objects;
          };
          journal = l.log.notes.items;
        };
      });
  most : l.served ≤ l.service.most;
  left : 100 * (l.service.most - l.served) ≤ g.N.Nonces.calls_left l.nonces;
  out : g.D.Door.lines_out l.door ≡ g.D.Door.lines_out l.fn.door;
  later : g.D.Door.door_count l.fn.door ≤ g.D.Door.door_count l.door;
}

abbrev pub decreases-visits : goal.decreases-visits
decreases-visits g l = l.service.most - l.served
