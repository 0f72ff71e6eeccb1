use Rattle.usp_nonce.proofs.Legal.{no_nonce_twice}
use Rattle.usp_nonce.proofs.laws.takes_no_nonce_twice.Goals as goal

pub returns : goal.returns
returns c = no_nonce_twice
