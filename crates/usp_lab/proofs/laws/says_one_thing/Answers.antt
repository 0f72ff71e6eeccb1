use Rattle.usp_lab.proofs.OneLine.{one_line}
use Rattle.usp_lab.proofs.laws.says_one_thing.Goals as goal

pub returns : goal.returns
returns c = one_line
