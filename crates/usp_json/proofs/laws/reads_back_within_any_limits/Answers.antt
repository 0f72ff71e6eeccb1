use Rattle.usp_json.proofs.CanonLaws.{reads_back_within}
use Rattle.usp_json.proofs.FaultLaws.{reads_once}
use Rattle.usp_json.proofs.KeepLaws.{reading_keeps_within}
use Rattle.usp_json.proofs.laws.reads_back_within_any_limits.Goals as goal

pub returns-clause-once : goal.returns-clause-once
returns-clause-once c limits text m k r s = reads_once limits text m k r s

pub returns-clause-canonical : goal.returns-clause-canonical
returns-clause-canonical c limits m k = reads_back_within limits m k

pub returns-clause-keeps : goal.returns-clause-keeps
returns-clause-keeps c limits text m r = reading_keeps_within limits text m r
