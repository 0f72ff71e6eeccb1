use Rattle.std.proofs.Common.{◌≡◌, ◌≤◌, ◌<◌, ◌-◌, None}
use Rattle.usp_edge.proofs.Going.{Going}
use Rattle.usp_edge.proofs.connection.serve_connection.Given as goal

-- so many heads were worked, and the bytes behind them are held
abbrev pub invariant-heads : goal.invariant-heads
invariant-heads g l = record {
  going : Going g.N.Nonces.gains l.edge.conf.now
      (record {
        given = g.C.Clock.given l.fn.clock;
        supplies = record {
          nonces = l.fn.nonces;
          objects = g.O.Objects.objects l.fn.objects;
          faults = g.O.Objects.object_count l.fn.objects;
        };
        journal = l.fn.journal.items;
      })
      (record {
        given = g.C.Clock.given l.clock;
        supplies = record {
          nonces = l.nonces;
          objects = g.O.Objects.objects l.objects;
          faults = g.O.Objects.object_count l.objects;
        };
        journal = l.journal.items;
      })
      (g.W.Source.left l.fn.wire) (g.W.Source.left l.wire) (g.W.Sink.told l.fn.wire) (g.W.Sink.told l.wire) l.heads l.reader.held;
  fault : l.reader.fault ≡ None;
  few : l.heads < 100;
  reads : g.W.Source.read_count l.fn.wire ≤ g.W.Source.read_count l.wire;
  puts : g.W.Sink.put_count l.fn.wire ≤ g.W.Sink.put_count l.wire;
}

abbrev pub decreases-heads : goal.decreases-heads
decreases-heads g l = 100 - l.heads
