use Rattle.std.proofs.Common.{◌≡◌}
use Rattle.usp_jws.specs.Compact.{IsToken}
use Rattle.usp_jws.specs.Parts.{text_of}
use Rattle.usp_rules.proofs.Firsts.{denied_by_package, judged_by_parts}
use Rattle.usp_rules.proofs.chain.judge_token.Goals as goal

pub returns-in_default : goal.returns-in_default
returns-in_default g c =
    let none : IsToken c.args.text.now → ⊥ = rw c.in_default.is at c.in_ok-token.ensures in
    denied_by_package c.args.terms.now.profile.now c.args.text.now c.args.content c.args.terms.now.moment none

pub returns : goal.returns
returns g c =
    let split : IsToken c.args.text.now × (c.args.text.now ≡ text_of c.in-Some.token.parts) = rw c.in-Some.is at c.in_ok-token.ensures in
    judged_by_parts c.args.terms.now.profile.now c.args.text.now c.in-Some.token.parts c.args.content c.args.terms.now.moment c.judge_parts.result split.0 split.1 c.judge_parts.ensures
