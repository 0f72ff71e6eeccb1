use Rattle.std.proofs.Common.{take}
use Rattle.usp_lab.specs.Named.{AreNamed}
use Rattle.usp_lab.proofs.named.are_named.Given as goal

abbrev pub invariant-loop-key : goal.invariant-loop-key
invariant-loop-key l = AreNamed (take l.key-index l.keys)
