use Rattle.std.proofs.Common.{◌≡◌, length}
use Rattle.usp_base.specs.Blanks.{trim_end}
use Rattle.usp_base.proofs.blanks.trim_end.Given as goal

-- what is left has lost blanks alone
abbrev pub invariant-loop-last : goal.invariant-loop-last
invariant-loop-last l = trim_end l.rest ≡ trim_end l.text

abbrev pub decreases-loop-last : goal.decreases-loop-last
decreases-loop-last l = length l.rest
