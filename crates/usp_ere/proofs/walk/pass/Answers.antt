use Rattle.std.proofs.Common.{◌≡◌, ◌+◌, ◌<◌, ◌≤◌, ◌∙◌, ℕ, List, Option, true, length, get_or, subst, sym, ap, arith, rules}
use Rattle.std.specs.Prelude.{slice_get, nat_eq}
use Rattle.std.proofs.lemmas.Option.{slice_get-get_or}
use Rattle.usp_ere.specs.declared.nodes.Node.TheVariants.{Accept}
use Rattle.usp_ere.specs.NodeSets.{Members, has, with_all}
use Rattle.usp_ere.specs.Walk.{Grows, stays}
use Rattle.usp_ere.proofs.NodeSetLemmas.{has_at}
use Rattle.usp_ere.proofs.WalkLemmas.{below_at, walked_on, grows_on, grows_all}
use Rattle.usp_ere.proofs.walk.pass.Goals as goal

pub returns-then-number-eq0-clause-found : goal.returns-then-number-eq0-clause-found
returns-then-number-eq0-clause-found g c = λ yes.
    let member = has_at c.loop-k.now.list c.loop-k.k c.at-number.result c.at-number.ensures.value in
    c.loop-k.invariant.walked.reached.by 0 (subst (λ q. has q c.loop-k.now.list ≡ true) c.if-number-eq0.true member)

pub work-requires-clause-now : goal.work-requires-clause-now
work-requires-clause-now g c = below_at c.args.course.now.nodes.now c.at-number.result Accept _ c.requires.below (omega (arith, c.at-number.ensures.within, c.loop-k.invariant.now_room)) c.loop-k.invariant.now_room

pub work-requires-clause-next : goal.work-requires-clause-next
work-requires-clause-next g c = below_at c.args.course.now.nodes.now c.at-number.result Accept _ c.requires.below (omega (arith, c.at-number.ensures.within, c.loop-k.invariant.now_room)) c.loop-k.invariant.next_room

pub loop-k-preserved : goal.loop-k-preserved
loop-k-preserved g c =
    let text = c.args.course.now.text.now in
    let nodes = c.args.course.now.nodes.now in
    let lt : c.at-number.result < length nodes = omega (arith, c.at-number.ensures.within, c.loop-k.invariant.now_room) in
    let node = get_or nodes c.at-number.result Accept in
    let nows = ap (λ (m : Members). m.list) c.work.ensures.now in
    let nexts = ap (λ (m : Members). m.list) c.work.ensures.next in
    record {
      walked = walked_on text nodes c.args.course.now.start c.args.at c.loop-k.k c.loop-k.now.list c.loop-k.next.list c.at-number.result node c.byte_at.result _ _
          c.requires.within c.at-number.ensures.value (slice_get-get_or nodes c.at-number.result Accept lt) c.if-number-eq0.false c.byte_at.ensures nows nexts c.loop-k.invariant.walked;
      grows = grows_on _ _ _ c.loop-k.invariant.grows (subst (Grows c.loop-k.now.list) (sym nows) (grows_all c.loop-k.now.list (stays node (nat_eq c.args.at 0) c.byte_at.result)));
      rises = omega (arith, c.work.ensures.rises, c.loop-k.invariant.rises);
      counted = omega (arith, c.work.ensures.counted, c.loop-k.invariant.counted);
      now_room = ap (λ (m : Members). m.room) c.work.ensures.now ∙ c.loop-k.invariant.now_room;
      next_room = ap (λ (m : Members). m.room) c.work.ensures.next ∙ c.loop-k.invariant.next_room;
      now_most = ap (λ (m : Members). m.most) c.work.ensures.now ∙ c.loop-k.invariant.now_most;
      next_most = ap (λ (m : Members). m.most) c.work.ensures.next ∙ c.loop-k.invariant.next_most;
    }
