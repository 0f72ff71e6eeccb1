use Rattle.std.proofs.Common.{Ok, ◌∙◌, ap}
use Rattle.usp_package.specs.Package.{bad, carried, nothing, package_of}
use Rattle.usp_rules.specs.declared.judged.Judged.TheVariants.{Denied}
use Rattle.usp_rules.proofs.Firsts.{of_package}
use Rattle.usp_rules.proofs.chain.judge.Goals as goal

pub returns-in-None : goal.returns-in-None
returns-in-None g c =
    of_package c.args.profile.now c.args.ask.now nothing c.judge_cookie.result
    (c.in-None.ensures.exact ∙ ap (package_of c.args.profile.now.attribute) c.uri.ensures) c.judge_cookie.ensures

pub returns-in-Bad : goal.returns-in-Bad
returns-in-Bad g c =
    of_package c.args.profile.now c.args.ask.now (bad c.in-Bad.at) (Ok (Denied c.judge_bad.result))
    (c.in-Bad.ensures.exact ∙ ap (package_of c.args.profile.now.attribute) c.uri.ensures) (c.judge_bad.ensures c.args.profile.now c.in-Bad.at)

pub returns-in-At : goal.returns-in-At
returns-in-At g c =
    of_package c.args.profile.now c.args.ask.now (carried c.in-At.token.now c.in-At.before.now c.in-At.after.now) c.judge_carried.result
    (c.in-At.ensures.exact ∙ ap (package_of c.args.profile.now.attribute) c.uri.ensures) c.judge_carried.ensures
