use Rattle.std.proofs.Common.{◌≡◌, map, take}
use Rattle.usp_lab.specs.Tables.{tables_of}
use Rattle.usp_lab.proofs.round.workers.nonces_of.Given as goal

-- the nonces of so many tables
abbrev pub invariant-tables : goal.invariant-tables
invariant-tables l = map (λ nonces. nonces.now.table) l.all.items ≡ tables_of (take l.table-index l.tables)
