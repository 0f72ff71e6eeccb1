use Rattle.usp_rules.proofs.Meeting.{not_compiled}
use Rattle.usp_rules.proofs.container.of_expression.Goals as goal

pub returns : goal.returns
returns c = not_compiled c.args.text.now c.in-Err.fault c.in-Err.ensures.refused (λ e. let t = c.if-is_memory.ensures.1 e in cc)
