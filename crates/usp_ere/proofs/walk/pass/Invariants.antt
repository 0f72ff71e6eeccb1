use Rattle.std.proofs.Common.{◌≡◌, ℕ, ◌+◌, ◌-◌, ◌≤◌, length}
use Rattle.std.specs.Prelude.{slice_get, nat_eq}
use Rattle.usp_ere.specs.Walk.{IsWalked, Grows}
use Rattle.usp_ere.proofs.walk.pass.Given as goal

abbrev pub invariant-loop-k : goal.invariant-loop-k
invariant-loop-k g l = record {
  walked : IsWalked l.course.text.now l.course.nodes.now l.course.start l.at l.k l.now.list l.next.list;
  grows : Grows l.fn.now.list l.now.list;
  rises : l.fn.steps ≤ l.steps;
  counted : l.steps + length l.fn.now.list ≡ l.fn.steps + length l.now.list + length l.next.list;
  now_room : l.now.room ≡ length l.course.nodes.now;
  next_room : l.next.room ≡ length l.course.nodes.now;
  now_most : l.now.most ≡ l.fn.now.most;
  next_most : l.next.most ≡ l.fn.next.most;
}

abbrev pub decreases-loop-k : goal.decreases-loop-k
decreases-loop-k g l = l.now.room - l.k
