use Rattle.usp_jws.proofs.Agreeing.{reads, reads_back}
use Rattle.usp_jws.proofs.Once.{b64u_once}
use Rattle.usp_jws.proofs.laws.base64url_is_read_back.Goals as goal

pub returns-clause-read : goal.returns-clause-read
returns-clause-read c = reads

pub returns-clause-back : goal.returns-clause-back
returns-clause-back c = reads_back

pub returns-clause-one : goal.returns-clause-one
returns-clause-one c = b64u_once
