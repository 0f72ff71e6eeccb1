use Rattle.std.proofs.Common.{Some, sym, subst, ap, ◌∙◌}
use Rattle.std.proofs.lemmas.Option.{slice_get-get_or}
use Rattle.usp_ere.specs.declared.nodes.Node.{Node}
use Rattle.usp_ere.specs.declared.nodes.Node.TheVariants.{Accept}
use Rattle.usp_ere.specs.Plans.{IsLed}
use Rattle.usp_ere.proofs.PlanLemmas.{led_more}
use Rattle.usp_ere.proofs.plan.literal_from.Goals as goal

pub loop-preserved : goal.loop-preserved
loop-preserved c =
    let nodes = c.args.nodes.now in
    subst (λ l. IsLed nodes c.args.node l c.in-Byte.next) (sym c.in_ok-push.ensures.items)
    (led_more nodes c.args.node c.loop.behind c.in-Byte.byte c.in-Byte.next c.loop.literal.items c.requires.below c.loop.invariant
    (slice_get-get_or nodes c.loop.behind Accept c.loop.invariant.within ∙ ap (λ (n : Node). Some n) c.in-Byte.is))
