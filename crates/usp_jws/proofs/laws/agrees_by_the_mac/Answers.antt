use Rattle.usp_jws.proofs.Agreeing.{agrees_decoded, agrees_text}
use Rattle.usp_jws.proofs.laws.agrees_by_the_mac.Goals as goal

pub returns-clause-decoded : goal.returns-clause-decoded
returns-clause-decoded c = agrees_decoded

pub returns-clause-text : goal.returns-clause-text
returns-clause-text c = agrees_text
