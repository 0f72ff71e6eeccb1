use Rattle.std.proofs.Common.{◌∙◌, sym}
use Rattle.usp_claims.proofs.Rows.{no_fault}
use Rattle.usp_claims.proofs.claims.check.Goals as goal

pub returns-in-None-clause-set : goal.returns-in-None-clause-set
returns-in-None-clause-set c = no_fault c.args.members.now (sym c.fault_in.ensures ∙ c.in-None.is)
