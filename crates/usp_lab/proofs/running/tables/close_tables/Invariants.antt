use Rattle.std.proofs.Common.{◌≡◌, map}
use Rattle.std.specs.Prelude.{All}
use Rattle.usp_lab.specs.UnderWay.{IsOneHistory, calls_made}
use Rattle.usp_lab.proofs.running.tables.close_tables.Given as goal

abbrev pub invariant-tables : goal.invariant-tables
invariant-tables l = record {
  calls : l.calls.items ≡ map calls_made l.yielded;
  one : All IsOneHistory l.yielded;
}
