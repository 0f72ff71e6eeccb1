use Rattle.std.proofs.Common.{◌++◌, ℕ, List, ap, sym, ◌∙◌}
use Rattle.usp.specs.Names.{decoded}
use Rattle.usp.proofs.Naming.{stops}
use Rattle.usp.proofs.outside.names.name_below.Goals as goal

pub returns-then-not-is_name : goal.returns-then-not-is_name
returns-then-not-is_name c =
    stops c.loop-after.name.items c.deref.result.now c.loop-after.rest.now c.in-Some.after.now
    c.cut_at_slash.result.0.now c.cut_at_slash.result.1.now _ _
    c.in-Some.ensures.cases.0 c.cut_at_slash.ensures.front c.cut_at_slash.ensures.back
    (c.deref.ensures.value ∙ (c.in_ok-push_decoded.ensures
    ∙ ap (λ (xs : List ℕ). xs ++ decoded c.cut_at_slash.result.0.now) c.new-one.ensures.items))
    (sym c.if-not-is_name.ensures) c.loop-after.invariant
