use Rattle.usp_json.proofs.ByteLaws.{reading_bytes}
use Rattle.usp_json.proofs.laws.reads_bytes.Goals as goal

pub returns : goal.returns
returns c limits text m r = reading_bytes limits text m r
