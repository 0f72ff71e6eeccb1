use Rattle.usp_jws.proofs.Parameters.{no_header, one_kid}
use Rattle.usp_jws.proofs.laws.refused_are_no_headers.Goals as goal

pub returns-clause-none : goal.returns-clause-none
returns-clause-none c = no_header

pub returns-clause-one : goal.returns-clause-one
returns-clause-one c = one_kid
