use Rattle.std.proofs.Common.{◌≡◌, ◌+◌, ◌≤◌, length, arith}
use Rattle.usp_ere.proofs.WalkLemmas.{grows_same, none_behind, on_next, on_over, spends_last}
use Rattle.usp_ere.proofs.walk.sweep.Goals as goal

pub returns-then-pass-clause-last : goal.returns-then-pass-clause-last
returns-then-pass-clause-last g c =
    let course = c.args.course.now in
    spends_last (length course.nodes.now) c.args.steps.now c.args.at (length c.args.now.now.list) c.pass.new.steps (length c.pass.new.now.list) (length c.pass.new.next.list) (length course.text.now)
    c.pass.ensures.counted
    (omega (arith, c.len-worked.ensures.value, c.len-worked.ensures.within, c.pass.ensures.rooms.0))
    (omega (arith, c.len-coming.ensures.value, c.len-coming.ensures.within, c.pass.ensures.rooms.1))
    c.requires.within
    (λ same. none_behind course.text.now course.nodes.now course.start (c.args.at + 1) c.pass.new.next.list (omega (arith, same)) c.pass.ensures.ahead)

pub returns-then-len-eq0-clause-on : goal.returns-then-len-eq0-clause-on
returns-then-len-eq0-clause-on g c =
    let course = c.args.course.now in
    on_over course.text.now course.nodes.now course.start (c.args.at + 1) c.next_start.result c.pass.new.next.list
    (omega (arith, c.if-len-eq0.true, c.len.ensures.value))
    c.next_start.ensures.over
    (on_next course.text.now course.nodes.now course.start c.args.at c.args.now.now.list c.args.now.now.list c.pass.new.now.list c.pass.new.next.list
    (grows_same c.args.now.now.list) c.pass.ensures.grows c.requires.begun (c.pass.ensures.walked c.if-pass.false) c.requires.on)

pub returns-else-len-eq0-clause-on : goal.returns-else-len-eq0-clause-on
returns-else-len-eq0-clause-on g c =
    let course = c.args.course.now in
    on_next course.text.now course.nodes.now course.start c.args.at c.args.now.now.list c.args.now.now.list c.pass.new.now.list c.pass.new.next.list
    (grows_same c.args.now.now.list) c.pass.ensures.grows c.requires.begun (c.pass.ensures.walked c.if-pass.false) c.requires.on
