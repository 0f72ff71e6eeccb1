use Rattle.usp_ere.specs.Shape.{expr_of}
use Rattle.usp_ere.proofs.RepeatLemmas.{height_of}
use Rattle.usp_ere.proofs.front.+front.Given as goal

abbrev pub decreases-front_of : goal.decreases-front_of
decreases-front_of l = height_of (expr_of l.tree.now)
