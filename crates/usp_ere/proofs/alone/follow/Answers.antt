use Rattle.std.proofs.Common.{◌≡◌, ◌+◌, ◌≤◌, ◌<◌, ◌∙◌, length, inr, sym, ap, arith}
use Rattle.usp_ere.specs.Starts.{starts_at}
use Rattle.usp_ere.proofs.AloneLemmas.{spends_one}
use Rattle.usp_ere.proofs.alone.follow.Goals as goal

pub returns-in-Nothing-clause-spends : goal.returns-in-Nothing-clause-spends
returns-in-Nothing-clause-spends g c =
    spends_one (length c.args.course.now.nodes.now) c.args.steps.now c.args.from c.loop-at.steps c.loop-at.at c.next_of.new.steps 0 c.loop-at.invariant.spends
    (omega (arith, c.in-Nothing.ensures.paid.1))

pub loop-at-preserved : goal.loop-at-preserved
loop-at-preserved g c =
    let start = c.args.course.now.start in
    record {
      on = c.in-One.ensures.next.by c.loop-at.invariant.begun c.loop-at.invariant.on;
      begun = inr (ap (starts_at start.places (c.loop-at.at + 1)) (sym c.byte_at.ensures) ∙ sym c.starts_at.ensures ∙ c.if-starts_at.false);
      later = omega (arith, c.loop-at.invariant.later);
      within = omega (arith, c.loop-at-test.true);
      inside = c.in-One.ensures.inside;
      rises = omega (arith, c.loop-at.invariant.rises, c.in-One.ensures.paid.0);
      spends = spends_one (length c.args.course.now.nodes.now) c.args.steps.now c.args.from c.loop-at.steps c.loop-at.at c.next_of.new.steps 1 c.loop-at.invariant.spends
          (omega (arith, c.in-One.ensures.paid.1));
    }

pub returns-then-starts_at-clause-spends : goal.returns-then-starts_at-clause-spends
returns-then-starts_at-clause-spends g c =
    spends_one (length c.args.course.now.nodes.now) c.args.steps.now c.args.from c.loop-at.steps c.loop-at.at c.next_of.new.steps 1 c.loop-at.invariant.spends
    (omega (arith, c.in-One.ensures.paid.1))
