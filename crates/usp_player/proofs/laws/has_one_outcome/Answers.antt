use Rattle.usp_player.proofs.Outcomes.{no_further, one_outcome}
use Rattle.usp_player.proofs.laws.has_one_outcome.Goals as goal

pub returns-clause-one : goal.returns-clause-one
returns-clause-one c = one_outcome

pub returns-clause-last : goal.returns-clause-last
returns-clause-last c = no_further
