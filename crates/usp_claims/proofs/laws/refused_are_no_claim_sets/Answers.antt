use Rattle.usp_claims.proofs.Refused.{no_claim_set}
use Rattle.usp_claims.proofs.laws.refused_are_no_claim_sets.Goals as goal

pub returns : goal.returns
returns c = no_claim_set
