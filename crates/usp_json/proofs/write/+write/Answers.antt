use Rattle.std.proofs.Common.{arith}
use Rattle.usp_json.proofs.Written.{pairs_end}
use Rattle.usp_json.proofs.write.+write.Goals as goal

pub write_pairs-returns : goal.write_pairs-returns
write_pairs-returns t c = pairs_end c.pairs.out.items _ _ _ c.pairs.i (omega arith) c.pairs.invariant
