use Rattle.usp_rules.proofs.Verdicts.{none_of_all, passes, presents_valid, valid_first}
use Rattle.usp_rules.specs.Rules.{Holds, rules_of_ask}
use Rattle.usp_rules.proofs.laws.passes_what_is_valid.Goals as goal

pub returns-clause-all : goal.returns-clause-all
returns-clause-all c profile ask = (passes profile ask, none_of_all (λ r. Holds r profile ask) rules_of_ask)

pub returns-clause-normal : goal.returns-clause-normal
returns-clause-normal c profile ask h = let all = passes profile ask h in all.0

pub returns-clause-valid : goal.returns-clause-valid
returns-clause-valid c profile ask h = presents_valid profile ask (passes profile ask h)

pub returns-clause-passes : goal.returns-clause-passes
returns-clause-passes c profile ask normal shown uri presents valid = valid_first profile ask normal shown uri presents valid
