use Rattle.usp_lab.proofs.NotesOfAsks.{notes_ask, notes_plain}
use Rattle.usp_lab.proofs.WholeHead.{whole_head}
use Rattle.usp_lab.proofs.laws.notes_what_was_asked.Goals as goal
use Rattle.usp_lab.specs.Tokens.{carried_token}

pub returns-clause-plain : goal.returns-clause-plain
returns-clause-plain c = notes_plain

pub returns-clause-any : goal.returns-clause-any
returns-clause-any c script issued known ask served is attribute normal borne =
    notes_ask script issued known ask served is (whole_head served.edge ask (carried_token script issued ask.carried) attribute normal borne)
