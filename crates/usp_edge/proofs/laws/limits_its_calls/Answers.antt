use Rattle.usp_edge.proofs.MostCalls.{broken_few, session_few, starved_few}
use Rattle.usp_edge.proofs.laws.limits_its_calls.Goals as goal

pub returns-clause-session : goal.returns-clause-session
returns-clause-session c = session_few

pub returns-clause-writes : goal.returns-clause-writes
returns-clause-writes c = broken_few

pub returns-clause-wants : goal.returns-clause-wants
returns-clause-wants c = starved_few
