use Rattle.usp_lab.proofs.Chains.{keeps_claims}
use Rattle.usp_lab.proofs.laws.has_claims_along_the_chain.Goals as goal

pub returns : goal.returns
returns c = keeps_claims
