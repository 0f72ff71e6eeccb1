use Rattle.usp_claims.proofs.ChangeLaws.{this_claim, other_claim, still_set}
use Rattle.usp_claims.proofs.Decimals.{text_set, number_set, number_there}
use Rattle.usp_claims.proofs.Lengths.{grows}
use Rattle.usp_claims.proofs.Named.{still_kept}
use Rattle.usp_claims.proofs.laws.changes_one_claim.Goals as goal

pub returns-clause-this : goal.returns-clause-this
returns-clause-this c name value m = this_claim name value m

pub returns-clause-others : goal.returns-clause-others
returns-clause-others c name other value m n = other_claim name other value m n

pub returns-clause-set : goal.returns-clause-set
returns-clause-set c place row value m there kind range set = still_set place row value m there kind range set

pub returns-clause-text : goal.returns-clause-text
returns-clause-text c place name bytes m there set = text_set place name bytes m there set

pub returns-clause-number : goal.returns-clause-number
returns-clause-number c place name n m there le set = (number_set place name n m there le set, number_there name n m le)

pub returns-clause-limits : goal.returns-clause-limits
returns-clause-limits c name value m k v few = still_kept name value m k v few

pub returns-clause-growth : goal.returns-clause-growth
returns-clause-growth c name value m = grows name value m
