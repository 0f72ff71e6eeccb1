use Rattle.usp_tool.proofs.LawsAnswers.{content_is, each, rules_kept}
use Rattle.usp_tool.proofs.laws.signed_passes.Goals as goal

pub returns-clause-each : goal.returns-clause-each
returns-clause-each c = each

pub returns-clause-rules : goal.returns-clause-rules
returns-clause-rules c = rules_kept

pub returns-clause-content : goal.returns-clause-content
returns-clause-content c = content_is
