use Rattle.usp_tool.proofs.Serving.Settling.{visited_put, visited_read}
use Rattle.usp_tool.proofs.edge.laws.counts_faults_of_ends.Goals as goal

pub returns-clause-read : goal.returns-clause-read
returns-clause-read g c = visited_read g.N.Nonces.gains

pub returns-clause-put : goal.returns-clause-put
returns-clause-put g c = visited_put g.N.Nonces.gains
