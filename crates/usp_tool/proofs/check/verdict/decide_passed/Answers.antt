use Rattle.std.proofs.Common.{◌∙◌, sym, ap, subst}
use Rattle.std.specs.Option.{option_copied}
use Rattle.usp_tool.specs.Check.Verdicts.{IsDecided}
use Rattle.usp_tool.proofs.Checking.Verdicts.{called_decided, free_decided}
use Rattle.usp_tool.proofs.check.verdict.decide_passed.Goals as goal

pub returns-in_default-clause-decided : goal.returns-in_default-clause-decided
returns-in_default-clause-decided c = λ profile token key before judges stands legal.
    free_decided profile c.args.table.now.room c.args.ask.now before c.args.content token c.args.claims.now key c.args.table.now judges
    (sym c.jti.ensures.value ∙ ap option_copied c.in_default.is) stands legal

pub returns-clause-decided : goal.returns-clause-decided
returns-clause-decided c = λ profile token key before judges stands legal.
    subst (λ v. IsDecided profile c.args.table.now.room c.args.ask.now before v c.take-turned.new.self) (sym c.verdict_by.ensures)
    (called_decided profile c.args.table.now.room c.args.ask.now before c.args.content token c.in-Some.jti.now c.args.claims.now key c.in_ok-key.key c.moment.result
    c.until_of.result c.take-turned.result c.take-turned.new.self judges (sym c.jti.ensures.value ∙ ap option_copied c.in-Some.is)
    (c.in_ok-key.ensures ∙ ap (λ u. record { jti = c.in-Some.jti.now; uri = u }) c.text.ensures.value) c.moment.ensures.value c.until_of.ensures.value
    (c.take-turned.ensures.next before stands) (c.take-turned.ensures.stands before stands) (c.take-turned.ensures.legal before stands legal))
