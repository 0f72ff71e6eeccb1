use Rattle.usp_shared.proofs.Entered.{entered_at, entered_more, stays_at, taken_at, joined_at}
use Rattle.usp_shared.proofs.laws.keeps_each_call_at_its_place.Goals as goal

pub returns-clause-at : goal.returns-clause-at
returns-clause-at c = entered_at

pub returns-clause-more : goal.returns-clause-more
returns-clause-more c = entered_more

pub returns-clause-later : goal.returns-clause-later
returns-clause-later c = stays_at

pub returns-clause-taken : goal.returns-clause-taken
returns-clause-taken c = taken_at

pub returns-clause-joined : goal.returns-clause-joined
returns-clause-joined c = joined_at
