use Rattle.usp_jws.proofs.Naming.{sealed_place}
use Rattle.usp_jws.proofs.Tokens.{sealed_agrees}
use Rattle.usp_jws.proofs.laws.sealed_verifies.Goals as goal

pub returns-clause-agrees : goal.returns-clause-agrees
returns-clause-agrees c = sealed_agrees

pub returns-clause-place : goal.returns-clause-place
returns-clause-place c = sealed_place
