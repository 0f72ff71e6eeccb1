use Rattle.std.proofs.Common.{◌≡◌, List, ℕ, length, sym, ap, subst, ◌∙◌, arith, true}
use Rattle.usp_uri.specs.ComponentSlices.{components}
use Rattle.usp_uri.specs.Components.{text_of}
use Rattle.usp_uri.specs.DotSegments.{is_at_slash}
use Rattle.usp_uri.specs.Faults.{normal_of}
use Rattle.usp_uri.specs.Normal.{normal_components}
use Rattle.usp_uri.proofs.LengthLaws.{accepted_slash, accepted_short}
use Rattle.usp_uri.proofs.NormalLemmas.{faulty, handed_on_fault, reads_short, reads_long}
use Rattle.usp_uri.proofs.uri.check_uri.Goals as goal

pub returns-in_err-slices-clause-refused : goal.returns-in_err-slices-clause-refused
returns-in_err-slices-clause-refused c =
    let found = c.in_err-slices.field-0.0 in
    handed_on_fault c.from_residual.result found (normal_of c.args.text.now) c.from_residual.ensures.1 (faulty c.args.text.now found c.in_err-slices.ensures)

pub outgrows-requires-clause-path : goal.outgrows-requires-clause-path
outgrows-requires-clause-path c =
    subst (λ (path : List ℕ). is_at_slash path ≡ true) (sym (ap (λ p. p.path) c.in_ok-slices.ensures.1)) (accepted_slash c.args.text.now c.in_ok-slices.ensures.0)

pub outgrows-requires-clause-short : goal.outgrows-requires-clause-short
outgrows-requires-clause-short c =
    omega (arith, ap (λ p. length (text_of p)) c.in_ok-slices.ensures.1, accepted_short c.args.text.now c.in_ok-slices.ensures.0)

pub returns-then-outgrows-clause-refused : goal.returns-then-outgrows-clause-refused
returns-then-outgrows-clause-refused c =
    let same = ap (λ p. text_of (normal_components p)) c.in_ok-slices.ensures.1 in
    reads_long c.args.text.now (text_of (normal_components (components c.in_ok-slices.slices))) c.in_ok-slices.ensures.0 same (sym c.outgrows.ensures ∙ c.if-outgrows.true)

pub returns-clause-ok : goal.returns-clause-ok
returns-clause-ok c =
    let normal = text_of (normal_components (components c.in_ok-slices.slices)) in
    let same = ap (λ p. text_of (normal_components p)) c.in_ok-slices.ensures.1 in
    (normal, reads_short c.args.text.now normal c.in_ok-slices.ensures.0 same (sym c.outgrows.ensures ∙ c.if-outgrows.false))
