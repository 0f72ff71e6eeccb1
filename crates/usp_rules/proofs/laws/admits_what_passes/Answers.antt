use Rattle.usp_rules.proofs.Admitting.{admits}
use Rattle.usp_rules.proofs.laws.admits_what_passes.Goals as goal

pub returns : goal.returns
returns c = admits
