use Rattle.usp_lab.proofs.InTurn.{goes_in_order, legal_in_order}
use Rattle.usp_lab.proofs.laws.goes_in_order_with_one_worker.Goals as goal

pub returns-clause-places : goal.returns-clause-places
returns-clause-places c = goes_in_order

pub returns-clause-legal : goal.returns-clause-legal
returns-clause-legal c = legal_in_order
