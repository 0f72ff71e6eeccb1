use Rattle.usp_ere.specs.Shape.{expr_of}
use Rattle.usp_ere.proofs.RepeatLemmas.{height_of}
use Rattle.usp_ere.proofs.plan.+begins.Given as goal

abbrev pub decreases-begins : goal.decreases-begins
decreases-begins l = height_of (expr_of l.tree.now)
