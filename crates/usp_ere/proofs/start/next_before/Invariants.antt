use Rattle.std.proofs.Common.{length, ◌-◌, ◌+◌, ◌≤◌, ℕ}
use Rattle.usp_ere.specs.Starts.{IsPassedOver}
use Rattle.usp_ere.specs.declared.course.Places.TheVariants.{Before}
use Rattle.usp_ere.proofs.start.next_before.Given as goal

abbrev pub invariant-loop-at : goal.invariant-loop-at
invariant-loop-at l = record {
  over : IsPassedOver (Before l.set) l.text l.from l.at;
  later : l.from ≤ l.at;
  within : l.at ≤ length l.text + 1;
}

abbrev pub decreases-loop-at : goal.decreases-loop-at
decreases-loop-at l = length l.text - l.at
