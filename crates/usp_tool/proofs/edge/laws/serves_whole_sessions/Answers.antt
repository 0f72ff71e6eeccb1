use Rattle.usp_tool.proofs.Serving.Settling.{visited_session}
use Rattle.usp_tool.proofs.edge.laws.serves_whole_sessions.Goals as goal

pub returns : goal.returns
returns g c = visited_session g.N.Nonces.gains
