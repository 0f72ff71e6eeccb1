use Rattle.usp_rules.proofs.Readings.{no_claims}
use Rattle.usp_rules.proofs.token.claims_of.Goals as goal

pub returns : goal.returns
returns c = no_claims c.in-Err.fault c.args.payload.now c.in-Err.ensures.refused (λ e. let t = c.if-is_memory.ensures.1 e in cc)
