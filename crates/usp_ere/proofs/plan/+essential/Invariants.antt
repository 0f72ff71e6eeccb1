use Rattle.usp_ere.specs.Shape.{expr_of}
use Rattle.usp_ere.proofs.RepeatLemmas.{height_of}
use Rattle.usp_ere.proofs.plan.+essential.Given as goal

abbrev pub decreases-essential : goal.decreases-essential
decreases-essential l = height_of (expr_of l.tree.now)
