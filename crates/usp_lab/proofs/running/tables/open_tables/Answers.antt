use Rattle.usp_lab.proofs.Heading.{fresh_next}
use Rattle.usp_lab.proofs.running.tables.open_tables.Goals as goal

pub edges-preserved : goal.edges-preserved
edges-preserved c =
    fresh_next c.args.edges.now c.edges.edge-index c.edge-item.result c.edges.tables.items c.push.new.self.items
    c.in_ok-open.field-0 c.edges-test.true c.edge-item.is c.edges.invariant c.in_ok-open.ensures.fresh
    c.in_ok-push.ensures.items
