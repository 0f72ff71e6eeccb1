use Rattle.usp_edge.proofs.Honesty.{session_honest, wants_honest, writes_honest}
use Rattle.usp_edge.proofs.laws.notes_honestly.Goals as goal

pub returns-clause-session : goal.returns-clause-session
returns-clause-session c = session_honest

pub returns-clause-writes : goal.returns-clause-writes
returns-clause-writes c = writes_honest

pub returns-clause-wants : goal.returns-clause-wants
returns-clause-wants c = wants_honest
