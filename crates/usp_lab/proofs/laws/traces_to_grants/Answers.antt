use Rattle.usp_lab.proofs.Tracing.{has_provenance}
use Rattle.usp_lab.proofs.laws.traces_to_grants.Goals as goal

pub returns : goal.returns
returns c = has_provenance
