use Rattle.usp_lab.proofs.EachLine.{has_line}
use Rattle.usp_lab.proofs.laws.has_a_line_for_each_ask.Goals as goal

pub returns : goal.returns
returns c = has_line
