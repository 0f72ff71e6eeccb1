use Rattle.std.proofs.Common.{take}
use Rattle.usp_lab.specs.UnderWay.{AreFresh}
use Rattle.usp_lab.proofs.running.tables.open_tables.Given as goal

abbrev pub invariant-edges : goal.invariant-edges
invariant-edges l = AreFresh (take l.edge-index l.edges) l.tables.items
