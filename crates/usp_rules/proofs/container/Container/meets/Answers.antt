use Rattle.usp_rules.proofs.Meeting.{regex_as, regex_found}
use Rattle.usp_rules.proofs.container.Container.meets.Goals as goal

pub returns-in-Regex-clause-text : goal.returns-in-Regex-clause-text
returns-in-Regex-clause-text c = λ text reads. regex_found text c.args.uri.now c.args.self.now _ c.finds.result c.in-Regex.is reads (rw (← c.text-in-Regex.ensures.value) c.finds.ensures)

pub returns-in-Regex-clause-kind : goal.returns-in-Regex-clause-kind
returns-in-Regex-clause-kind c = regex_as c.args.uri.now c.args.self.now _ c.finds.result c.in-Regex.is (rw (← c.text-in-Regex.ensures.value) c.finds.ensures)
