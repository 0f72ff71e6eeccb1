use Rattle.usp_lab.proofs.Told.{decided_alone}
use Rattle.usp_lab.proofs.Tracing.{each_told}
use Rattle.usp_lab.proofs.laws.decides_each_ask.Goals as goal

pub returns-clause-edge : goal.returns-clause-edge
returns-clause-edge c script run is_script is number served at = (each_told script run is_script is number served at).at

pub returns-clause-moment : goal.returns-clause-moment
returns-clause-moment c script run is_script is number served at = (each_told script run is_script is number served at).moment

pub returns-clause-honest : goal.returns-clause-honest
returns-clause-honest c script run is_script is number served at = (each_told script run is_script is number served at).honest

pub returns-clause-decided : goal.returns-clause-decided
returns-clause-decided c script run is_script is number served at = decided_alone script served (each_told script run is_script is number served at)
