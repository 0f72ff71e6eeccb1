use Rattle.std.proofs.Common.{subst}
use Rattle.usp_rules.specs.Judging.{Judges}
use Rattle.usp_tool.proofs.Checking.Verdicts.{denied_decided}
use Rattle.usp_tool.proofs.check.verdict.decide.Goals as goal

pub returns-in-Denied-clause-decided : goal.returns-in-Denied-clause-decided
returns-in-Denied-clause-decided g c = λ before stands legal.
    denied_decided c.args.profile.now c.args.table.now.room c.args.ask.now before c.in-Denied.rule c.args.table.now
    (subst (Judges c.args.profile.now c.args.ask.now) c.in-Denied.is c.in_ok-rule.ensures) stands legal

pub returns-in-Passed-clause-decided : goal.returns-in-Passed-clause-decided
returns-in-Passed-clause-decided g c = λ before stands legal.
    c.decide_passed.ensures.decided c.args.profile.now _ _ before
    (subst (Judges c.args.profile.now c.args.ask.now) c.in-Passed.is c.in_ok-rule.ensures) stands legal
