use Rattle.usp_lab.specs.Named.{HasNamedKeys}
use Rattle.usp_lab.proofs.Heading.{all_next, all_whole}
use Rattle.usp_lab.proofs.running.are_named.Goals as goal

pub edges-preserved : goal.edges-preserved
edges-preserved c =
    all_next HasNamedKeys c.args.edges.now c.edges.edge-index c.edge-item.result c.edges-test.true c.edge-item.is
    c.edges.invariant c.has_named_keys.ensures

pub returns : goal.returns
returns c = all_whole HasNamedKeys c.args.edges.now c.edges.edge-index c.edges-test.false c.edges.invariant
