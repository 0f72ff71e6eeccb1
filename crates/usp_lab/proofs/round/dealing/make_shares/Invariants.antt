use Rattle.std.proofs.Common.{◌≡◌, ◌*◌, All, length, map}
use Rattle.usp_lab.specs.Shares.{IsFreshPart, part_by, table_of}
use Rattle.usp_lab.specs.Tables.{lent, part_at, tables_of}
use Rattle.usp_lab.proofs.round.dealing.make_shares.Given as goal

-- so many shares have their seats
abbrev pub invariant-shares : goal.invariant-shares
invariant-shares g l = record {
  count : length l.shares.items ≡ l.counter;
  fresh : All (λ share. IsFreshPart (map (part_at l.part) l.fn.tables) (part_by g.L.Source.left g.L.Sink.told share)) l.shares.items;
  tables : All (λ share. map table_of share.seats.items ≡ tables_of l.fn.tables) l.shares.items;
  kept : l.tables ≡ map (lent (l.counter * l.part)) l.fn.tables;
}
