use Rattle.std.proofs.Common.{◌≡◌, ℕ, ◌+◌, ◌-◌, ◌<◌, ◌≤◌, [], ◌∷◌, length}
use Rattle.usp_ere.specs.Walk.{IsBegun, IsOn, Spends}
use Rattle.usp_ere.proofs.alone.follow.Given as goal

abbrev pub invariant-loop-at : goal.invariant-loop-at
invariant-loop-at g l = record {
  on : IsOn l.course.text.now l.course.nodes.now l.course.start l.at (l.node ∷ []);
  begun : IsBegun l.course.text.now l.course.start l.at (l.node ∷ []);
  later : l.from ≤ l.at;
  within : l.at ≤ length l.course.text.now;
  inside : l.node < length l.course.nodes.now;
  rises : l.fn.steps ≤ l.steps;
  spends : Spends (length l.course.nodes.now) l.fn.steps l.from 1 l.steps l.at 1;
}

abbrev pub decreases-loop-at : goal.decreases-loop-at
decreases-loop-at g l = length l.course.text.now - l.at
