use Rattle.usp_jws.proofs.Sealing.{sealed_has_parts, sealed_header, sealed_payload, length-sealed, sealed_token}
use Rattle.usp_jws.proofs.laws.sealed_is_read.Goals as goal

pub returns-clause-parts : goal.returns-clause-parts
returns-clause-parts c = sealed_has_parts

pub returns-clause-header : goal.returns-clause-header
returns-clause-header c = sealed_header

pub returns-clause-payload : goal.returns-clause-payload
returns-clause-payload c = sealed_payload

pub returns-clause-length : goal.returns-clause-length
returns-clause-length c = length-sealed

pub returns-clause-token : goal.returns-clause-token
returns-clause-token c = sealed_token
