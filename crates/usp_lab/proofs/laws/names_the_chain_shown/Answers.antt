use Rattle.usp_lab.proofs.Labels.{labels_once}
use Rattle.usp_lab.proofs.Shows.{names_chain, says_untraced}
use Rattle.usp_lab.proofs.laws.names_the_chain_shown.Goals as goal

pub returns-clause-chain : goal.returns-clause-chain
returns-clause-chain c = names_chain

pub returns-clause-untraced : goal.returns-clause-untraced
returns-clause-untraced c = says_untraced

pub returns-clause-labels : goal.returns-clause-labels
returns-clause-labels c = labels_once
