use Rattle.std.proofs.Common.{length}
use Rattle.usp_tool.proofs.Signing.Lines.{Signed}
use Rattle.usp_tool.proofs.sign.sign.Given as goal

-- the lines so far
abbrev pub invariant-loop-rest : goal.invariant-loop-rest
invariant-loop-rest l = Signed l.attribute l.key l.input l.number l.text.items l.rest

abbrev pub decreases-loop-rest : goal.decreases-loop-rest
decreases-loop-rest l = length l.rest
