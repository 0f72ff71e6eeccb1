use Rattle.std.proofs.Common.{◌∙◌, sym, ap, refl}
use Rattle.std.specs.Result.{result_ok}
use Rattle.usp_uri.specs.Faults.{normal_of}
use Rattle.usp_rules.proofs.Firsts.{of_carried}
use Rattle.usp_rules.proofs.chain.judge_carried.Goals as goal

pub returns : goal.returns
returns g c =
    let normal = c.if-not-is_uri.ensures.0 refl in
    of_carried c.args.terms.now.profile.now c.args.ask.now c.args.token.now c.args.before.now c.args.after.now normal.0 c.in_ok-content.content c.judge_token.result
    c.args.terms.now.moment (ap normal_of (sym c.uri.ensures) ∙ normal.1)
    (c.in_ok-content.ensures ∙ ap (λ text. result_ok (normal_of text)) (c.deref.ensures.value ∙ c.in_ok-text.ensures)) c.requires.moment c.judge_token.ensures
