use Rattle.usp_uri.proofs.QueryLaws.{begun_normal, grown_normal}
use Rattle.usp_uri.proofs.laws.a_longer_query_stays_normal.Goals as goal

pub returns-clause-begins : goal.returns-clause-begins
returns-clause-begins c = begun_normal

pub returns-clause-grows : goal.returns-clause-grows
returns-clause-grows c = grown_normal
