use Rattle.std.proofs.Common.{◌≡◌, ℕ, ◌+◌, ◌-◌, ◌*◌, ◌≤◌, length}
use Rattle.usp_ere.specs.Walk.{IsOn}
use Rattle.usp_ere.proofs.walk.walk.Given as goal

abbrev pub invariant-loop-at : goal.invariant-loop-at
invariant-loop-at g l = record {
  on : IsOn l.course.text.now l.course.nodes.now l.course.start l.at l.now.list;
  within : l.at ≤ length l.course.text.now + 1;
  rises : l.fn.steps ≤ l.steps;
  bound : l.steps ≤ l.fn.steps + l.at * length l.course.nodes.now + length l.now.list;
  now_room : l.now.room ≡ length l.course.nodes.now;
  next_room : l.next.room ≡ length l.course.nodes.now;
  now_most : l.now.most ≡ l.fn.now.most;
  next_most : l.next.most ≡ l.fn.now.most;
}

abbrev pub decreases-loop-at : goal.decreases-loop-at
decreases-loop-at g l = length l.course.text.now + 1 - l.at
