use Rattle.std.proofs.Common.{take}
use Rattle.std.specs.Prelude.{All}
use Rattle.usp_lab.specs.Named.{HasNamedKeys}
use Rattle.usp_lab.proofs.running.are_named.Given as goal

abbrev pub invariant-edges : goal.invariant-edges
invariant-edges l = All HasNamedKeys (take l.edge-index l.edges)
