use Rattle.std.proofs.Common.{◌≡◌, ◌≤◌, ◌<◌, ◌+◌, ◌*◌, ◌∙◌, ℕ, List, length, ap, sym, subst, arith}
use Rattle.usp_ere.specs.declared.tree.Tree.{Tree}
use Rattle.usp_ere.specs.declared.nodes.Node.{Node}
use Rattle.usp_ere.specs.Expression.{Finds, size_of}
use Rattle.usp_ere.specs.Nodes.{IsText}
use Rattle.usp_ere.specs.Plans.{IsPlanned}
use Rattle.usp_ere.specs.Shape.{expr_of}
use Rattle.usp_ere.specs.Walk.{IsCourse}
use Rattle.usp_ere.proofs.PlanLemmas.{told_by, told_not}
use Rattle.usp_ere.proofs.program.Program.finds.Goals as goal

pub returns-then-not-allows-clause-found : goal.returns-then-not-allows-clause-found
returns-then-not-allows-clause-found g c =
    let u = c.args.text.now in
    let text : IsText u = record { by = λ i lt. let f = c.type_inv.text i in omega arith } in
    let inside = c.self.inside in
    let told = told_not inside.nodes.items (expr_of inside.tree) inside.plan.literal.items inside.plan.start u text c.self.invariant (sym c.allows.ensures ∙ c.if-not-allows.true) in (
      λ yes. subst (λ (t : Tree). Finds (expr_of t) u) c.self.view_is (told.found yes),
      λ finds. told.told (subst (λ (t : Tree). Finds (expr_of t) u) (sym c.self.view_is) finds),
    )

pub walk-requires-clause-course : goal.walk-requires-clause-course
walk-requires-clause-course g c = subst (λ (l : List Node). IsCourse l c.self.inside.plan.start) (sym c.deref.ensures.value) c.self.invariant.course

pub walk-requires-clause-room : goal.walk-requires-clause-room
walk-requires-clause-room g c =
    let same = c.self.invariant.size in
    let seen : size_of (expr_of c.self.inside.tree) ≡ size_of (expr_of c.args.self.now) = ap (λ (t : Tree). size_of (expr_of t)) c.self.view_is in
    subst (λ (l : List Node). length l ≤ c.args.now.now.most) (sym c.deref.ensures.value) (omega (arith, same, seen, c.requires.room))

pub returns-clause-found : goal.returns-clause-found
returns-clause-found g c =
    let u = c.args.text.now in
    let text : IsText u = record { by = λ i lt. let f = c.type_inv.text i in omega arith } in
    let inside = c.self.inside in
    let planned = subst (λ (l : List Node). IsPlanned l (expr_of inside.tree) inside.plan.literal.items inside.plan.start) (sym c.deref.ensures.value) c.self.invariant in
    let told = told_by c.deref.result.now (expr_of inside.tree) inside.plan.literal.items inside.plan.start u c.walk.result text planned (sym c.allows.ensures ∙ c.if-not-allows.false) c.walk.ensures.accepts c.walk.ensures.refuses in (
      λ yes. subst (λ (t : Tree). Finds (expr_of t) u) c.self.view_is (told.found yes),
      λ finds. told.told (subst (λ (t : Tree). Finds (expr_of t) u) (sym c.self.view_is) finds),
    )

pub returns-clause-bound : goal.returns-clause-bound
returns-clause-bound g c =
    let size = ap (λ (l : List Node). length l) c.deref.ensures.value ∙ c.self.invariant.size ∙ ap (λ (t : Tree). size_of (expr_of t)) c.self.view_is in
    subst (λ n. c.walk.new.steps ≤ c.args.steps.now + (length c.args.text.now + 1) * n) size c.walk.ensures.bound
