use Rattle.std.proofs.Common.{◌∙◌, sym, ap}
use Rattle.std.specs.Option.{option_copied}
use Rattle.std.specs.Result.{result_ok}
use Rattle.usp_package.specs.Package.{nothing}
use Rattle.usp_uri.specs.Faults.{normal_of}
use Rattle.usp_rules.proofs.Firsts.{no_normal_form, of_cookie}
use Rattle.usp_rules.proofs.Readings.{ok_of}
use Rattle.usp_rules.proofs.chain.judge_cookie.Goals as goal

pub returns-in_default-2 : goal.returns-in_default-2
returns-in_default-2 g c =
    no_normal_form c.args.terms.now.profile.now c.args.ask.now nothing
    (ap (λ u. result_ok (normal_of u)) (sym c.uri.ensures) ∙ (sym c.in_ok-uri.ensures ∙ c.in_default-2.is))

pub returns : goal.returns
returns g c =
    of_cookie c.args.terms.now.profile.now c.args.ask.now c.in-Some.token.now c.in-Some-2.uri c.judge_token.result c.args.terms.now.moment
    (sym c.cookie.ensures ∙ ap option_copied c.in-Some.is)
    (ok_of (normal_of c.args.ask.now.uri) c.in-Some-2.uri (ap (λ u. result_ok (normal_of u)) (sym c.uri.ensures) ∙ (sym c.in_ok-uri.ensures ∙ c.in-Some-2.is)))
    c.requires.moment c.judge_token.ensures

pub returns-in_default : goal.returns-in_default
returns-in_default g c = c.judge_missing.ensures c.args.terms.now.profile.now
