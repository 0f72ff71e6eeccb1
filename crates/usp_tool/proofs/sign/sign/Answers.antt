use Rattle.std.proofs.Common.{◌∙◌, sym, ap, subst, List, ℕ, ◌++◌, ◌∷◌, []}
use Rattle.usp_base.specs.Lines.{lines_of}
use Rattle.usp_tool.specs.Sign.{SignsAll}
use Rattle.usp_tool.specs.Sign.Line.{SignsLine}
use Rattle.usp_tool.proofs.Signing.Lines.{signed_done, signed_first, signed_more, signed_refused}
use Rattle.usp_tool.proofs.Checking.Lines.{empty_is}
use Rattle.usp_tool.proofs.sign.sign.Goals as goal

pub loop-rest-init : goal.loop-rest-init
loop-rest-init c = signed_first c.args.attribute.now c.args.key.now c.args.input.now c.new-text.result.items c.new-text.ensures.items

pub loop-rest-preserved : goal.loop-rest-preserved
loop-rest-preserved c =
    let signed : SignsLine c.args.attribute.now c.args.key.now c.first_line.result.0.now c.in-Some.signed.items = rw c.in-Some.is at c.in_ok-signed.ensures in
    signed_more c.args.attribute.now c.args.key.now c.args.input.now c.loop-rest.number c.loop-rest.text.items c.loop-rest.rest.now c.first_line.result.0.now
    c.first_line.result.1.now c.in-Some.signed.items c.push.new.self.items c.loop-rest.invariant c.first_line.ensures.lines c.first_line.ensures.shorter signed
    (c.in_ok-push.ensures.items ∙ ap (λ t. t ++ 10 ∷ []) (c.in_ok-extend_from_slice.ensures.items ∙ ap (λ t. c.loop-rest.text.items ++ t) c.deref.ensures.value))

pub returns-in_default-clause-signed : goal.returns-in_default-clause-signed
returns-in_default-clause-signed c =
    let none : (signed : List ℕ) → SignsLine c.args.attribute.now c.args.key.now c.first_line.result.0.now signed → ⊥ = rw c.in_default.is at c.in_ok-signed.ensures in
    subst (SignsAll c.args.attribute.now c.args.key.now 1 (lines_of c.args.input.now)) (sym c.new.ensures)
    (signed_refused c.args.attribute.now c.args.key.now c.args.input.now c.loop-rest.number c.loop-rest.text.items c.loop-rest.rest.now c.first_line.result.0.now
    c.first_line.result.1.now c.push_line_refusal.new.text.items c.loop-rest.invariant c.first_line.ensures.lines none c.in_ok-push_line_refusal.ensures)

pub returns-clause-signed : goal.returns-clause-signed
returns-clause-signed c =
    subst (SignsAll c.args.attribute.now c.args.key.now 1 (lines_of c.args.input.now)) (sym c.new-2.ensures)
    (signed_done c.args.attribute.now c.args.key.now c.args.input.now c.loop-rest.number c.loop-rest.text.items c.loop-rest.rest.now c.loop-rest.invariant
    (empty_is _ (sym c.is_empty.ensures ∙ c.loop-rest-test.false)))
