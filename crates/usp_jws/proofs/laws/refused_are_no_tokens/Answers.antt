use Rattle.usp_jws.proofs.Tokens.{no_token, one_reason}
use Rattle.usp_jws.proofs.laws.refused_are_no_tokens.Goals as goal

pub returns-clause-none : goal.returns-clause-none
returns-clause-none c = no_token

pub returns-clause-one : goal.returns-clause-one
returns-clause-one c = one_reason
