use Rattle.std.proofs.Common.{◌≡◌, ◌<◌, Some, sym, subst, ap, arith, length, ◌∙◌}
use Rattle.std.proofs.lemmas.Option.{slice_get-get_or}
use Rattle.std.specs.Prelude.{slice_get}
use Rattle.usp_ere.specs.declared.nodes.Node.{Node}
use Rattle.usp_ere.specs.declared.nodes.Node.TheVariants.{Accept, Begin}
use Rattle.usp_ere.specs.declared.course.Places.TheVariants.{At}
use Rattle.usp_ere.specs.Shape.{expr_of}
use Rattle.usp_ere.proofs.BelowLemmas.{below_of}
use Rattle.usp_ere.proofs.PlanLemmas.{part_below, planned_first, planned_all}
use Rattle.usp_ere.proofs.plan.Plan.of.Goals as goal

pub bounds : goal.bounds
bounds c = part_below _ _ _ c.essential-node.ensures.part

pub literal_from-requires-clause-below : goal.literal_from-requires-clause-below
literal_from-requires-clause-below c = below_of c.args.nodes.now (expr_of c.args.tree.now) c.args.node c.requires.implements

pub literal_from-requires-clause-node : goal.literal_from-requires-clause-node
literal_from-requires-clause-node c =
    let nodes = c.args.nodes.now in
    let node = c.essential-node.result.1 in
    let lt : node < length nodes = part_below _ _ _ c.essential-node.ensures.part in
    (below_of nodes (expr_of c.args.tree.now) c.args.node c.requires.implements).by node (Begin c.in-Begin.first)
    (slice_get-get_or nodes node Accept lt ∙ ap (λ (n : Node). Some n) c.in-Begin.is)

pub returns-in-Begin : goal.returns-in-Begin
returns-in-Begin c =
    let nodes = c.args.nodes.now in
    let node = c.essential-node.result.1 in
    let lt : node < length nodes = part_below _ _ _ c.essential-node.ensures.part in
    let is : slice_get nodes node ≡ Some (Begin c.in-Begin.first) = slice_get-get_or nodes node Accept lt ∙ ap (λ (n : Node). Some n) c.in-Begin.is in
    let same : c.len.result ≡ length c.in_ok-literal.literal.items = omega (arith, c.len.ensures, c.in_ok-literal.literal.ok.0) in
    planned_first nodes (expr_of c.args.tree.now) (expr_of c.essential-node.result.0.now) c.args.node node c.in-Begin.first c.in_ok-literal.literal.items _ c.requires
    c.essential-node.ensures.part c.essential-node.ensures.alike is c.in_ok-literal.ensures (ap (λ n. At n) same)

pub returns : goal.returns
returns c =
    planned_all c.args.nodes.now (expr_of c.args.tree.now) (expr_of c.essential-node.result.0.now) c.args.node c.new-literal.result.items _ c.requires
    c.essential-node.ensures.part c.essential-node.ensures.alike c.new-literal.ensures.items c.places_of-places.ensures
