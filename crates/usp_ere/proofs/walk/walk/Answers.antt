use Rattle.std.proofs.Common.{◌≡◌, ◌+◌, ◌*◌, ◌<◌, ◌≤◌, ◌∙◌, length, arith}
use Rattle.usp_ere.proofs.WalkLemmas.{none_behind, on_never, spent_all}
use Rattle.usp_ere.proofs.walk.walk.Goals as goal

pub returns-in_default-clause-bound : goal.returns-in_default-clause-bound
returns-in_default-clause-bound g c = omega (arith, c.in_default.ensures.last.by c.args.steps.now c.loop-at.invariant.bound)

pub returns-then-end-middle-clause-refuses : goal.returns-then-end-middle-clause-refuses
returns-then-end-middle-clause-refuses g c = λ never all.
    let course = c.args.course.now in
    on_never course.text.now course.nodes.now course.start c.in-Some.middle c.advance.new.next.list (omega (arith, c.if-end-middle.true)) c.in-Some.ensures.on all

pub returns-then-end-middle-clause-bound : goal.returns-then-end-middle-clause-bound
returns-then-end-middle-clause-bound g c =
    let course = c.args.course.now in
    spent_all (length course.nodes.now) c.args.steps.now c.advance.new.steps c.in-Some.middle (length course.text.now) (length c.advance.new.next.list)
    (c.in-Some.ensures.counted.by c.args.steps.now c.loop-at.invariant.bound)
    (none_behind course.text.now course.nodes.now course.start c.in-Some.middle c.advance.new.next.list (omega (arith, c.if-end-middle.true)) c.in-Some.ensures.on.reached)
    c.in-Some.ensures.order.1

pub returns-in_default-advance-clause-bound : goal.returns-in_default-advance-clause-bound
returns-in_default-advance-clause-bound g c =
    omega (arith, c.in_default-advance.ensures.last.by c.args.steps.now (c.in-Some.ensures.counted.by c.args.steps.now c.loop-at.invariant.bound))

pub loop-at-preserved : goal.loop-at-preserved
loop-at-preserved g c =
    let first = c.in-Some.ensures in
    let second = c.in-Some-advance.ensures in
    record {
      on = second.on;
      within = second.order.1;
      rises = omega (arith, c.loop-at.invariant.rises, first.rises, second.rises);
      bound = second.counted.by c.args.steps.now (first.counted.by c.args.steps.now c.loop-at.invariant.bound);
      now_room = second.rooms.1;
      next_room = second.rooms.0;
      now_most = second.most.1 ∙ first.most.0 ∙ c.loop-at.invariant.now_most;
      next_most = second.most.0 ∙ first.most.1 ∙ c.loop-at.invariant.next_most;
    }

pub returns-clause-refuses : goal.returns-clause-refuses
returns-clause-refuses g c = λ never all.
    let course = c.args.course.now in
    on_never course.text.now course.nodes.now course.start c.loop-at.at c.loop-at.now.list (omega (arith, c.loop-at-test.false)) c.loop-at.invariant.on all

pub returns-clause-bound : goal.returns-clause-bound
returns-clause-bound g c =
    let course = c.args.course.now in
    spent_all (length course.nodes.now) c.args.steps.now c.loop-at.steps c.loop-at.at (length course.text.now) (length c.loop-at.now.list) c.loop-at.invariant.bound
    (none_behind course.text.now course.nodes.now course.start c.loop-at.at c.loop-at.now.list (omega (arith, c.loop-at-test.false)) c.loop-at.invariant.on.reached)
    c.loop-at.invariant.within
