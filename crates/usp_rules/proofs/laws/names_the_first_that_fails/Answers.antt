use Rattle.usp_rules.proofs.Verdicts.{breaks, broken_first}
use Rattle.usp_rules.specs.Rules.{Holds, rules_of_ask}
use Rattle.usp_rules.proofs.laws.names_the_first_that_fails.Goals as goal

pub returns-clause-first : goal.returns-clause-first
returns-clause-first c profile ask broken = (breaks (λ r. Holds r profile ask) rules_of_ask broken, broken_first (λ r. Holds r profile ask) rules_of_ask broken)
