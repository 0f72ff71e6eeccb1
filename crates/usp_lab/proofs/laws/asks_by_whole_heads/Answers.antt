use Rattle.usp_lab.proofs.WholeHead.{whole_head}
use Rattle.usp_lab.proofs.laws.asks_by_whole_heads.Goals as goal

pub returns : goal.returns
returns c = whole_head
