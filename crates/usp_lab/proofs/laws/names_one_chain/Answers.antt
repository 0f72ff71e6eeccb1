use Rattle.usp_lab.proofs.OneChain.{names_one}
use Rattle.usp_lab.proofs.laws.names_one_chain.Goals as goal

pub returns : goal.returns
returns c = names_one
