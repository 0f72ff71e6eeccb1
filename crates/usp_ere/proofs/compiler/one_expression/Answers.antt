use Rattle.usp_ere.proofs.Reading.{one_tree}
use Rattle.usp_ere.proofs.compiler.one_expression.Goals as goal

pub returns : goal.returns
returns c = λ x y text p q. one_tree x y _ p.1 q.1
