use Rattle.usp_tool.proofs.Labs.{has_ran}
use Rattle.usp_tool.proofs.lab.run.ran.Goals as goal

pub returns : goal.returns
returns g c =
    has_ran c.args.script.now c.args.lab.now.workers (g.B.Bench.given_back c.args.bench.now) (g.B.Bench.given_back c.run_script.new.bench)
    c.in_ok-run_script.field-0 c.edges.ensures.script c.in_ok-run_script.ensures.run
