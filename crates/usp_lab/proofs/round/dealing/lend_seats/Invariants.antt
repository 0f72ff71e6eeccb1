use Rattle.std.proofs.Common.{◌≡◌, ◌++◌, map, take, drop}
use Rattle.usp_lab.specs.Shares.{table_of}
use Rattle.usp_lab.specs.Tables.{lent, part_at, tables_of}
use Rattle.usp_lab.proofs.round.dealing.lend_seats.Given as goal

-- so many tables lent their seats
abbrev pub invariant-tables : goal.invariant-tables
invariant-tables l = record {
  kept : l.tables ≡ map (lent l.part) (take l.table-index l.fn.tables) ++ drop l.table-index l.fn.tables;
  seats : l.seats.items ≡ map (part_at l.part) (take l.table-index l.fn.tables);
  tables : map table_of l.seats.items ≡ tables_of (take l.table-index l.fn.tables);
}
