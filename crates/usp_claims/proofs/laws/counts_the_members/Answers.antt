use Rattle.usp_claims.proofs.Counts.{few_entries, same_count, there_kept, wider_kept}
use Rattle.usp_claims.proofs.Named.{fresh}
use Rattle.usp_claims.proofs.laws.counts_the_members.Goals as goal

pub returns-clause-few : goal.returns-clause-few
returns-clause-few c m k = few_entries m k

pub returns-clause-same : goal.returns-clause-same
returns-clause-same c name value m there = same_count name value m there

pub returns-clause-there : goal.returns-clause-there
returns-clause-there c name value m there k v = there_kept name value m there k v

pub returns-clause-wider : goal.returns-clause-wider
returns-clause-wider c name value m k v = wider_kept name value m k v

pub returns-clause-fresh : goal.returns-clause-fresh
returns-clause-fresh c name m none = fresh name m none
