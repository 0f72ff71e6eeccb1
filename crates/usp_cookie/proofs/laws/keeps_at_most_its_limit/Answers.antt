use Rattle.usp_cookie.proofs.Places.{few_stored}
use Rattle.usp_cookie.proofs.laws.keeps_at_most_its_limit.Goals as goal

pub returns : goal.returns
returns c = few_stored
