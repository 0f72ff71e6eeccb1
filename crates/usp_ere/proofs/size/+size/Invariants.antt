use Rattle.usp_ere.specs.Shape.{expr_of}
use Rattle.usp_ere.proofs.RepeatLemmas.{height_of}
use Rattle.usp_ere.proofs.size.+size.Given as goal

abbrev pub decreases-nodes_up_to : goal.decreases-nodes_up_to
decreases-nodes_up_to l = height_of (expr_of l.tree.now)
