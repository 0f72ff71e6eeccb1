use Rattle.usp_rules.proofs.Verdicts as verdicts
use Rattle.usp_rules.specs.Rules.{Holds, rules_of_ask}
use Rattle.usp_rules.proofs.laws.one_verdict.Goals as goal

pub returns-clause-first : goal.returns-clause-first
returns-clause-first c profile ask a b h k = verdicts.first_once (λ r. Holds r profile ask) rules_of_ask a b h k

pub returns-clause-verdict : goal.returns-clause-verdict
returns-clause-verdict c profile ask a b h k = verdicts.one_verdict profile ask a b h k
