use Rattle.std.proofs.Common.{◌≡◌, ◌+◌, ◌<◌, Some, true, sym, subst, ap, arith, length, ◌∙◌}
use Rattle.std.proofs.lemmas.Option.{slice_get-get_or}
use Rattle.std.specs.Prelude.{slice_get}
use Rattle.usp_ere.specs.declared.nodes.Node.{Node}
use Rattle.usp_ere.specs.declared.nodes.Node.TheVariants.{Accept, Split}
use Rattle.usp_ere.specs.declared.tree.Tree.{Tree}
use Rattle.usp_ere.specs.Expression.{both}
use Rattle.usp_ere.specs.Plans.{is_optional, IsPart, FindAlike}
use Rattle.usp_ere.specs.Shape.{expr_of}
use Rattle.usp_ere.proofs.PlanLemmas.{alike_on, alike_optional, part_below, part_optional}
use Rattle.usp_ere.proofs.RepeatLemmas.{height_of}
use Rattle.usp_ere.proofs.plan.+essential.Goals as goal

pub bounds : goal.bounds
bounds t c = part_below c.args.nodes.now (expr_of c.args.tree.now) c.args.node c.requires

pub essential-requires : goal.essential-requires
essential-requires t c =
    let nodes = c.args.nodes.now in
    let x = expr_of c.in-Both.first.value in
    let y = expr_of c.in-Both.rest.value in
    let tall : height_of (expr_of c.args.tree.now) ≡ height_of x + height_of y + 1 = ap (λ (r : Tree). height_of (expr_of r)) c.in-Both.is in
    let low : height_of (expr_of c.deref-2.result.now) ≡ height_of y = ap (λ (r : Tree). height_of (expr_of r)) c.deref-2.ensures in
    let h : is_optional x ≡ true = ap (λ (r : Tree). is_optional (expr_of r)) (sym c.deref.ensures) ∙ sym c.is_optional.ensures ∙ c.if-not-is_optional.false in
    let lt : c.args.node < length nodes = part_below nodes (expr_of c.args.tree.now) c.args.node c.requires in
    let is : slice_get nodes c.args.node ≡ Some (Split c.in-Split.field-0 c.in-Split.behind) = slice_get-get_or nodes c.args.node Accept lt ∙ ap (λ (n : Node). Some n) c.in-Split.is in
    let whole : IsPart nodes (both x y) c.args.node = subst (λ (r : Tree). IsPart nodes (expr_of r) c.args.node) c.in-Both.is c.requires in
    let part : IsPart nodes y c.in-Split.behind = part_optional nodes x y c.args.node c.in-Split.field-0 c.in-Split.behind h whole is in
    (omega (arith, c.decreases, tall, low), subst (λ (r : Tree). IsPart nodes (expr_of r) c.in-Split.behind) (sym c.deref-2.ensures) part)

pub returns-clause-alike : goal.returns-clause-alike
returns-clause-alike t c =
    let x = expr_of c.in-Both.first.value in
    let y = expr_of c.in-Both.rest.value in
    let z = expr_of c.essential.result.0.now in
    let h : is_optional x ≡ true = ap (λ (r : Tree). is_optional (expr_of r)) (sym c.deref.ensures) ∙ sym c.is_optional.ensures ∙ c.if-not-is_optional.false in
    let on : FindAlike y z = subst (λ (r : Tree). FindAlike (expr_of r) z) c.deref-2.ensures c.essential.ensures.alike in
    subst (λ (r : Tree). FindAlike (expr_of r) z) (sym c.in-Both.is) (alike_on (both x y) y z (alike_optional x y h) on)
