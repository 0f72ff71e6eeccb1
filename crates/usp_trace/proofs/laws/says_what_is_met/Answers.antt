use Rattle.usp_trace.proofs.Said as said
use Rattle.usp_trace.proofs.laws.says_what_is_met.Goals as goal

pub returns-clause-container : goal.returns-clause-container
returns-clause-container c = said.met_container

pub returns-clause-direct : goal.returns-clause-direct
returns-clause-direct c = said.met_direct

pub returns-clause-sent : goal.returns-clause-sent
returns-clause-sent c = said.met_sent

pub returns-clause-begun : goal.returns-clause-begun
returns-clause-begun c = said.met_begun

pub returns-clause-unexpired : goal.returns-clause-unexpired
returns-clause-unexpired c = said.met_unexpired

pub returns-clause-renewed : goal.returns-clause-renewed
returns-clause-renewed c = said.met_renewed

pub returns-clause-there : goal.returns-clause-there
returns-clause-there c = said.met_there
