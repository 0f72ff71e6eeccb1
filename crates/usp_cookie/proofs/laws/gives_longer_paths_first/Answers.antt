use Rattle.usp_cookie.proofs.Descending.{longer_first, same_order}
use Rattle.usp_cookie.proofs.laws.gives_longer_paths_first.Goals as goal

pub returns-clause-falling : goal.returns-clause-falling
returns-clause-falling c = longer_first

pub returns-clause-in_order : goal.returns-clause-in_order
returns-clause-in_order c = same_order
