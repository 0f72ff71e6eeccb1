use Rattle.usp_tool.proofs.LawsOnce.{one_answer, one_checked, one_signed}
use Rattle.usp_tool.proofs.laws.one_outcome.Goals as goal

pub returns-clause-checked : goal.returns-clause-checked
returns-clause-checked c = one_checked

pub returns-clause-signed : goal.returns-clause-signed
returns-clause-signed c = one_signed

pub returns-clause-answered : goal.returns-clause-answered
returns-clause-answered c = one_answer
