use Rattle.std.proofs.Common.{sym, ap, ◌∙◌, codes}
use Rattle.usp_ere.specs.Marks.{mark_of}
use Rattle.usp_ere.specs.SetText.{begins}
use Rattle.usp_ere.proofs.TokenLemmas.{negated_set, ok_on}
use Rattle.usp_ere.proofs.tokens.set.Goals as goal

pub returns-then-starts_with : goal.returns-then-starts_with
returns-then-starts_with c =
    ok_on c.set_from.result mark_of _ _
    (negated_set c.args.at c.args.text.now (ap (λ t. begins t (codes "^")) (sym c.skip.ensures) ∙ sym c.starts_with.ensures.value ∙ c.if-starts_with.true))
    c.set_from.ensures
