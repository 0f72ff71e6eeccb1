use Rattle.usp_edge.proofs.OneSession.{session_one}
use Rattle.usp_edge.proofs.laws.has_one_outcome.Goals as goal

pub returns : goal.returns
returns c = session_one
