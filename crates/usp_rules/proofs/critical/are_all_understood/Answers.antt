use Rattle.std.proofs.Common.{◌∙◌, sym, map}
use Rattle.usp_base.specs.Blanks.{trim_blanks}
use Rattle.usp_rules.specs.Critical.{is_understood}
use Rattle.usp_rules.proofs.Wanted.{ended, stopped}
use Rattle.usp_rules.proofs.critical.are_all_understood.Goals as goal

pub returns-then-not-is_understood : goal.returns-then-not-is_understood
returns-then-not-is_understood g c =
    stopped (is_understood c.args.critical.now.extensions.now c.args.critical.now.facts.path.now c.args.critical.now.claims.now (map (λ part. trim_blanks part.now) c.args.parts.now))
    (λ part. trim_blanks part.now) c.args.parts.now c.loop-i.i _ c.trim_blanks.result.now c.loop-i-test.true c.loop-i.invariant c.trim_blanks.ensures
    (sym c.is_understood.ensures ∙ c.if-not-is_understood.true)

pub returns : goal.returns
returns g c =
    ended (is_understood c.args.critical.now.extensions.now c.args.critical.now.facts.path.now c.args.critical.now.claims.now (map (λ part. trim_blanks part.now) c.args.parts.now))
    (λ part. trim_blanks part.now) c.args.parts.now c.loop-i.i c.loop-i-test.false c.loop-i.invariant
