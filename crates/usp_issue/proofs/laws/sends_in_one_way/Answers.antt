use Rattle.usp_issue.proofs.Single as single
use Rattle.usp_issue.proofs.laws.sends_in_one_way.Goals as goal

pub returns-clause-signed : goal.returns-clause-signed
returns-clause-signed c = single.one_signed

pub returns-clause-too_long : goal.returns-clause-too_long
returns-clause-too_long c = single.signed_or_too_long

pub returns-clause-present : goal.returns-clause-present
returns-clause-present c = single.signed_or_present

pub returns-clause-reason : goal.returns-clause-reason
returns-clause-reason c = single.too_long_or_present

pub returns-clause-sent : goal.returns-clause-sent
returns-clause-sent c = single.one_way
