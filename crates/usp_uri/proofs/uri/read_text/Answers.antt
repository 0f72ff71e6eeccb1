use Rattle.std.proofs.Common.{arith, ◌∙◌, ap}
use Rattle.usp_uri.specs.Components.{text_of}
use Rattle.usp_uri.specs.Normal.{normal_components}
use Rattle.usp_uri.specs.Faults.{normal_of}
use Rattle.usp_uri.proofs.NormalLemmas.{handed_on_refused, refused, too_long, reads}
use Rattle.usp_uri.proofs.uri.read_text.Goals as goal

pub returns-in_err-slices-clause-refused : goal.returns-in_err-slices-clause-refused
returns-in_err-slices-clause-refused c =
    handed_on_refused c.from_residual.result c.in_err-slices.field-0.0 (normal_of c.args.text.now) c.from_residual.ensures.1 (refused c.args.text.now c.in_err-slices.field-0.0 c.in_err-slices.ensures)

pub returns-then-len-gt-MAX_LEN-clause-refused : goal.returns-then-len-gt-MAX_LEN-clause-refused
returns-then-len-gt-MAX_LEN-clause-refused c =
    let same = c.in_ok-normal_form.ensures ∙ ap (λ p. text_of (normal_components p)) c.in_ok-slices.ensures.1 in
    too_long c.args.text.now c.in_ok-normal_form.normal_form.items c.in_ok-slices.ensures.0 same (omega arith)

pub returns-clause-ok : goal.returns-clause-ok
returns-clause-ok c =
    let same = c.in_ok-normal_form.ensures ∙ ap (λ p. text_of (normal_components p)) c.in_ok-slices.ensures.1 in
    reads c.args.text.now c.in_ok-normal_form.normal_form.items c.in_ok-slices.ensures.0 same (omega arith)
