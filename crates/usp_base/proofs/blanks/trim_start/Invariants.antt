use Rattle.std.proofs.Common.{◌≡◌, length}
use Rattle.usp_base.specs.Blanks.{trim_start}
use Rattle.usp_base.proofs.blanks.trim_start.Given as goal

-- what is left has lost blanks alone
abbrev pub invariant-loop-first : goal.invariant-loop-first
invariant-loop-first l = trim_start l.rest ≡ trim_start l.text

abbrev pub decreases-loop-first : goal.decreases-loop-first
decreases-loop-first l = length l.rest
