use Rattle.std.proofs.Common.{◌≡◌, ◌+◌, length, sym, ap, subst, arith}
use Rattle.usp_ere.specs.Alone.{listed}
use Rattle.usp_ere.specs.Walk.{Spends}
use Rattle.usp_ere.proofs.AloneLemmas.{begun_none, still, still_none, still_some}
use Rattle.usp_ere.proofs.WalkLemmas.{spends_begun, spends_over}
use Rattle.usp_ere.proofs.walk.advance.Goals as goal

pub returns-in_default-clause-last : goal.returns-in_default-clause-last
returns-in_default-clause-last g c =
    let course = c.args.course.now in
    begun_none (length course.nodes.now) c.args.steps.now c.args.at (length c.args.now.now.list) c.begin.new.steps (length c.begin.new.now.list) c.sweep.new.steps (length course.text.now + 1) 0
    c.sweep.result c.begin.ensures.counted c.sweep.ensures.last

pub returns-then-stop-at-clause-counted : goal.returns-then-stop-at-clause-counted
returns-then-stop-at-clause-counted g c =
    let size = length c.args.course.now.nodes.now in
    let stop = c.follow-stop in
    let one : length c.begin.new.now.list ≡ 1 = ap length c.in-Some.ensures.value in
    let before = still size c.args.steps.now c.args.at (length c.args.now.now.list) c.begin.new.steps stop.new.steps stop.result.at stop.result.node
    (omega (arith, c.begin.ensures.counted, one)) stop.ensures.farther c.if-stop-at.true stop.ensures.spends in
    still_some size c.args.steps.now c.args.at (length c.args.now.now.list) stop.new.steps (length c.begin.new.now.list) c.sweep-then-stop-at.new.steps (length c.sweep-then-stop-at.new.next.list)
    c.sweep-then-stop-at.result one before c.sweep-then-stop-at.ensures.counted

pub returns-then-stop-at-clause-last : goal.returns-then-stop-at-clause-last
returns-then-stop-at-clause-last g c =
    let course = c.args.course.now in
    let size = length course.nodes.now in
    let stop = c.follow-stop in
    let one : length c.begin.new.now.list ≡ 1 = ap length c.in-Some.ensures.value in
    let before = still size c.args.steps.now c.args.at (length c.args.now.now.list) c.begin.new.steps stop.new.steps stop.result.at stop.result.node
    (omega (arith, c.begin.ensures.counted, one)) stop.ensures.farther c.if-stop-at.true stop.ensures.spends in
    still_none size c.args.steps.now c.args.at (length c.args.now.now.list) stop.new.steps (length c.begin.new.now.list) c.sweep-then-stop-at.new.steps (length course.text.now + 1) 0
    c.sweep-then-stop-at.result one before c.sweep-then-stop-at.ensures.last

pub returns-clause-counted : goal.returns-clause-counted
returns-clause-counted g c =
    let size = length c.args.course.now.nodes.now in
    let stop = c.follow-stop in
    let one : length c.begin.new.now.list ≡ 1 = ap length c.in-Some.ensures.value in
    let before = spends_begun size c.args.steps.now c.args.at (length c.args.now.now.list) c.begin.new.steps 1 stop.new.steps stop.result.at (length (listed stop.result.node))
    (omega (arith, c.begin.ensures.counted, one)) stop.ensures.spends in
    let after = subst (λ k. Spends size c.args.steps.now c.args.at (length c.args.now.now.list) stop.new.steps stop.result.at k) (sym c.land.ensures.long) before in
    spends_over size c.args.steps.now c.args.at (length c.args.now.now.list) stop.new.steps stop.result.at c.land.result (length c.land.new.next.list) c.land.ensures.order.0 after
