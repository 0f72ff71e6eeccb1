use Rattle.usp_trace.proofs.Linked as linked
use Rattle.usp_trace.proofs.laws.names_each_link.Goals as goal

pub returns-clause-long : goal.returns-clause-long
returns-clause-long c = linked.chain_long

pub returns-clause-last : goal.returns-clause-last
returns-clause-last c = linked.chain_last

pub returns-clause-link : goal.returns-clause-link
returns-clause-link c = linked.chain_link

pub returns-clause-parent : goal.returns-clause-parent
returns-clause-parent c = linked.chain_parent
