use Rattle.std.proofs.Common.{refl, sym, ◌∙◌, subst, List}
use Rattle.std.specs.Prelude.{All}
use Rattle.usp_script.specs.declared.ask.Round.{Round}
use Rattle.usp_lab.specs.Named.{HasNamedKeys}
use Rattle.usp_lab.proofs.Stepping.{IsSoFar, round_at, so_far_first, so_far_last, so_far_step}
use Rattle.usp_lab.proofs.running.run_rounds.Goals as goal

pub rounds-init : goal.rounds-init
rounds-init g c =
    let script = c.args.course.now.crew.script.now in
    let workers = c.args.course.now.crew.workers in
    let lines = g.B.Bench.given_back c.args.bench.now in
    record {
      far = subst (λ (rounds : List Round). IsSoFar script workers rounds c.args.books.now c.args.tables.now lines lines)
          (sym c.rounds-rounds.ensures)
          (so_far_first script workers c.args.books.now c.args.tables.now lines c.edges-edges.ensures.script
          c.requires.books c.requires.tables);
      out = refl;
    }

pub run_round-requires-clause-named : goal.run_round-requires-clause-named
run_round-requires-clause-named g c = λ κs lives. subst (All HasNamedKeys) c.edges-edges.ensures.edges c.are_named.ensures

pub run_round-requires-clause-round : goal.run_round-requires-clause-round
run_round-requires-clause-round g c = λ κs lives.
    round_at c.args.course.now.crew.script.now c.rounds-rounds.result.now c.rounds.round-index c.round-item.result
    c.edges-edges.ensures.script c.rounds-rounds.ensures c.rounds-test.true c.round-item.is

pub rounds-preserved : goal.rounds-preserved
rounds-preserved g c = record {
  far = so_far_step c.args.course.now.crew.script.now c.args.course.now.crew.workers c.rounds-rounds.result.now
      c.rounds.round-index c.round-item.result c.rounds.books c.run_round.new.books c.rounds.tables
      c.run_round.new.tables (g.B.Bench.given_back c.args.bench.now) (g.B.Bench.given_back c.rounds.bench)
      (g.B.Bench.given_back c.run_round.new.bench) c.rounds-test.true c.round-item.is c.rounds.invariant.far
      c.in_ok-run_round.ensures.goes_on c.in_ok-run_round.ensures.room;
  out = c.in_ok-run_round.ensures.out ∙ c.rounds.invariant.out;
}

pub returns-clause-run : goal.returns-clause-run
returns-clause-run g c =
    so_far_last c.args.course.now.crew.script.now c.args.course.now.crew.workers c.rounds-rounds.result.now
    c.rounds.round-index c.rounds.books c.rounds.tables (g.B.Bench.given_back c.args.bench.now)
    (g.B.Bench.given_back c.rounds.bench) c.rounds-test.false c.rounds.invariant.far
