use Rattle.usp_cookie.proofs.Headers.{no_longer}
use Rattle.usp_cookie.proofs.laws.sends_each_that_covers.Goals as goal

pub returns : goal.returns
returns c = no_longer
