use Rattle.std.proofs.Common.{subst, sym}
use Rattle.usp_tool.proofs.Labs.{own_of, sums_run}
use Rattle.usp_tool.specs.Lab.Run.{IsSummed}
use Rattle.usp_tool.specs.Outcome.{IsOwn, Outcome}
use Rattle.usp_tool.proofs.lab.summary.outcome_of.Goals as goal

pub returns-clause-summed : goal.returns-clause-summed
returns-clause-summed g c =
    subst (λ (o : Outcome). IsSummed c.args.groups (g.B.Bench.given_back c.args.bench.now) (g.B.Bench.given_back c.ran.new.bench) o) (sym c.new.ensures)
    (sums_run c.args.groups c.in_ok-script.script c.args.lab.now.workers (g.B.Bench.given_back c.args.bench.now) (g.B.Bench.given_back c.ran.new.bench)
    c.in_ok-report.report c.in_ok-text.text.items c.status_of.result c.requires.workers c.in_ok-script.ensures c.in_ok-report.ensures
    c.in_ok-text.ensures c.status_of.ensures)

pub returns-clause-own : goal.returns-clause-own
returns-clause-own g c =
    subst (λ (o : Outcome). IsOwn o.status) (sym c.new.ensures)
    (own_of _ c.in_ok-report.report _ c.status_of.result c.in_ok-report.ensures.1 c.status_of.ensures)
