use Rattle.std.proofs.Common.{◌≡◌, ◌∙◌, length, ap, arith}
use Rattle.usp_ere.specs.declared.tree.Tree.{Tree}
use Rattle.usp_ere.specs.Expression.{size_of}
use Rattle.usp_ere.specs.Shape.{expr_of}
use Rattle.usp_ere.proofs.program.Program.len.Goals as goal

pub returns : goal.returns
returns c =
    let counted : c.len.result ≡ length c.self.inside.nodes.items = omega (arith, c.len.ensures, c.self.inside.nodes.ok.0) in
    counted ∙ c.self.invariant.size ∙ ap (λ (t : Tree). size_of (expr_of t)) c.self.view_is
