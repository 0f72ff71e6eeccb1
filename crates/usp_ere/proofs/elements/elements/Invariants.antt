use Rattle.std.proofs.Common.{length, ◌-◌}
use Rattle.usp_ere.proofs.ElementLemmas.{IsRead}
use Rattle.usp_ere.proofs.elements.elements.Given as goal

abbrev pub invariant-loop-at : goal.invariant-loop-at
invariant-loop-at l = IsRead l.text l.from l.at l.ranged l.found.items

abbrev pub decreases-loop-at : goal.decreases-loop-at
decreases-loop-at l = length l.text - l.at
