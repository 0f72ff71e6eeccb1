use Rattle.usp_json.proofs.CanonLaws.{reads_back}
use Rattle.usp_json.proofs.KeepLaws.{reading_keeps}
use Rattle.usp_json.proofs.laws.reads_keep_the_limits.Goals as goal

pub returns-clause-keeps : goal.returns-clause-keeps
returns-clause-keeps c text m r = reading_keeps text m r

pub returns-clause-again : goal.returns-clause-again
returns-clause-again c text m r = reads_back m (reading_keeps text m r)
