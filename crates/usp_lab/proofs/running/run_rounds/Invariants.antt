use Rattle.std.proofs.Common.{◌≡◌, drop}
use Rattle.usp_lab.proofs.Stepping.{IsSoFar}
use Rattle.usp_lab.proofs.running.run_rounds.Given as goal

-- the rounds behind the ones that were run are left
abbrev pub invariant-rounds : goal.invariant-rounds
invariant-rounds g l = record {
  far : IsSoFar l.course.crew.script.now l.course.crew.workers (drop l.round-index l.rounds) l.books
      l.tables (g.B.Bench.given_back l.fn.bench) (g.B.Bench.given_back l.bench);
  out : g.B.Bench.lines_out l.bench ≡ g.B.Bench.lines_out l.fn.bench;
}
