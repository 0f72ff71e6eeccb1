use Rattle.std.proofs.Common.{subst, sym}
use Rattle.usp_tool.proofs.Labs.{own_of, tells_run}
use Rattle.usp_tool.specs.Lab.Run.{TellsRun}
use Rattle.usp_tool.specs.Outcome.{IsOwn, Outcome}
use Rattle.usp_tool.proofs.lab.command.outcome_of.Goals as goal

pub returns-clause-tells : goal.returns-clause-tells
returns-clause-tells g c =
    subst (λ (o : Outcome). TellsRun c.args.script.now c.args.lab.now.workers (g.B.Bench.given_back c.args.bench.now) (g.B.Bench.given_back c.ran.new.bench) o)
    (sym c.new.ensures)
    (tells_run c.args.script.now c.args.lab.now.workers (g.B.Bench.given_back c.args.bench.now) (g.B.Bench.given_back c.ran.new.bench)
    c.in_ok-report.report c.in_ok-text.text.items c.status_of.result c.in_ok-report.ensures c.in_ok-text.ensures c.status_of.ensures)

pub returns-clause-own : goal.returns-clause-own
returns-clause-own g c =
    subst (λ (o : Outcome). IsOwn o.status) (sym c.new.ensures)
    (own_of _ c.in_ok-report.report _ c.status_of.result c.in_ok-report.ensures.1 c.status_of.ensures)
