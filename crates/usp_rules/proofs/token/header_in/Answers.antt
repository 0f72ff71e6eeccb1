use Rattle.usp_rules.proofs.Readings.{no_header}
use Rattle.usp_rules.proofs.token.header_in.Goals as goal

pub returns : goal.returns
returns c = no_header c.in-Err.fault c.args.token.now.parts.header c.in-Err.ensures.refused (λ e. let t = c.if-is_memory.ensures.1 e in cc)
