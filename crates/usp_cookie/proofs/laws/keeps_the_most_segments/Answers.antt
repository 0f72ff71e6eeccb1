use Rattle.usp_cookie.proofs.Keeping.{keeps_most, may_keep}
use Rattle.usp_cookie.proofs.laws.keeps_the_most_segments.Goals as goal

pub returns-clause-may : goal.returns-clause-may
returns-clause-may c = may_keep

pub returns-clause-most : goal.returns-clause-most
returns-clause-most c = keeps_most
