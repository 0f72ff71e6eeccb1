use Rattle.usp_json.proofs.CanonLaws.{reads_back}
use Rattle.usp_json.proofs.FaultLaws.{reads_once}
use Rattle.usp_json.specs.Spells.{given}
use Rattle.usp_json.proofs.laws.reads_once.Goals as goal

pub returns-clause-once : goal.returns-clause-once
returns-clause-once c text m k r s = reads_once given text m k r s

pub returns-clause-canonical : goal.returns-clause-canonical
returns-clause-canonical c m k = reads_back m k
