use Rattle.std.proofs.Common.{length, ◌-◌}
use Rattle.usp_ere.proofs.ReaderLemmas.{Stands}
use Rattle.usp_ere.proofs.reader.read.Given as goal

abbrev pub invariant-loop-at : goal.invariant-loop-at
invariant-loop-at l = Stands l.text l.state l.at

abbrev pub decreases-loop-at : goal.decreases-loop-at
decreases-loop-at l = length l.text - l.at
