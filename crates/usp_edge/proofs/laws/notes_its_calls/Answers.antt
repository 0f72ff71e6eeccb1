use Rattle.usp_edge.proofs.Showing.{session_told, wants_shown, writes_told}
use Rattle.usp_edge.proofs.laws.notes_its_calls.Goals as goal

pub returns-clause-session : goal.returns-clause-session
returns-clause-session c = session_told

pub returns-clause-writes : goal.returns-clause-writes
returns-clause-writes c = writes_told

pub returns-clause-wants : goal.returns-clause-wants
returns-clause-wants c = wants_shown
