use Rattle.std.proofs.Common.{Ok, sym, subst, ◌∙◌}
use Rattle.usp_uri.specs.Components.{text_of}
use Rattle.usp_uri.specs.Normal.{normal_components}
use Rattle.usp_uri.specs.Answers.{Refuses}
use Rattle.usp_uri.proofs.NormalLemmas.{handed_on}
use Rattle.usp_uri.proofs.SpelledLaws.{spelled_normal}
use Rattle.usp_uri.proofs.AcceptedLaws.{read_spelled}
use Rattle.usp_uri.proofs.NormalLaws.{normal_again}
use Rattle.usp_uri.proofs.uri.read_uri.Goals as goal

pub returns-in_err-text-clause-only : goal.returns-in_err-text-clause-only
returns-in_err-text-clause-only c = λ p spelled short short_normal.
    handed_on c.from_residual.result c.in_err-text.field-0.0 (Ok (text_of (normal_components p))) c.from_residual.ensures.1
    (subst (λ defined. Refuses c.in_err-text.field-0.0 defined) (spelled_normal p c.args.text.now spelled.uri spelled.whole short short_normal) c.in_err-text.ensures.refused)

pub invariant_of-result : goal.invariant_of-result
invariant_of-result c = normal_again c.args.text.now c.in_ok-text.text.items c.in_ok-text.ensures.ok

pub returns-clause-found : goal.returns-clause-found
returns-clause-found c = read_spelled c.args.text.now c.in_ok-text.text.items c.in_ok-text.ensures.ok

pub returns-clause-only : goal.returns-clause-only
returns-clause-only c = λ p spelled short short_normal. sym (spelled_normal p c.args.text.now spelled.uri spelled.whole short short_normal) ∙ c.in_ok-text.ensures.ok
