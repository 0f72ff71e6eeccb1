use Rattle.std.proofs.Common.{arith}
use Rattle.usp_json.proofs.Sizes.{all_counted}
use Rattle.usp_json.proofs.count.+count.Goals as goal

pub pairs_len-returns : goal.pairs_len-returns
pairs_len-returns t c = all_counted c.pairs.len _ _ _ c.pairs.i (omega arith) c.pairs.invariant
