use Rattle.usp_issue.proofs.Passing as passing
use Rattle.usp_issue.proofs.laws.issued_tokens_pass.Goals as goal

pub returns-clause-renewed : goal.returns-clause-renewed
returns-clause-renewed c = passing.renewed_passes

pub returns-clause-resigned : goal.returns-clause-resigned
returns-clause-resigned c = passing.resigned_passes
