use Rattle.std.proofs.Common.{◌≡◌, sym, ap, ◌∙◌, subst, List, ◌++◌, length, map, take, drop}
use Rattle.std.specs.Prelude.{All}
use Rattle.usp_lab.specs.Tables.{IsWhole, TableValue}
use Rattle.usp_lab.specs.UnderWay.{IsOneHistory, calls_made}
use Rattle.usp_lab.proofs.Heading.{restored}
use Rattle.usp_lab.proofs.Stepping.{has_run}
use Rattle.usp_lab.proofs.running.run_script.Goals as goal

pub close_tables-requires : goal.close_tables-requires
close_tables-requires g c =
    subst (All IsWhole)
    (sym
    (restored c.in_ok-tables.tables.len c.run_rounds.new.tables
    (drop (length c.run_rounds.new.tables) c.in_ok-tables.tables.items)
    (sym (c.run_rounds.auto.tables ∙ c.deref_mut.ensures.len))))
    c.in_ok-run_rounds.ensures.run.way.made.whole

pub returns-clause-run : goal.returns-clause-run
returns-clause-run g c =
    let same : take c.in_ok-tables.tables.len (c.run_rounds.new.tables ++ drop (length c.run_rounds.new.tables) c.in_ok-tables.tables.items)
    ≡ c.run_rounds.new.tables =
    restored c.in_ok-tables.tables.len c.run_rounds.new.tables
    (drop (length c.run_rounds.new.tables) c.in_ok-tables.tables.items)
    (sym (c.run_rounds.auto.tables ∙ c.deref_mut.ensures.len)) in
    has_run c.args.script.now c.args.lab.now.workers c.run_rounds.new.books c.run_rounds.new.tables
    (g.B.Bench.given_back c.args.bench.now) (g.B.Bench.given_back c.run_rounds.new.bench) c.into_report.result
    c.in_ok-run_rounds.ensures.run (subst (All IsOneHistory) same c.in_ok-calls.ensures.one)
    (record {
      asks = c.into_report.ensures.asks;
      ledger = c.into_report.ensures.ledger;
      labels = c.into_report.ensures.labels;
      calls = c.into_report.ensures.calls
          ∙ (c.in_ok-calls.ensures.calls ∙ ap (λ (tables : List TableValue). map calls_made tables) same);
    })
