use Rattle.usp_jws.proofs.Naming.{named_at}
use Rattle.usp_jws.proofs.laws.named_at_its_place.Goals as goal

pub returns : goal.returns
returns c = named_at
