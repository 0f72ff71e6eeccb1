use Rattle.std.proofs.Common.{◌≡◌, ◌+◌, ◌≤◌, ◌++◌, length, drop, map, take}
use Rattle.usp_lab.specs.Books.{noted_entries, noted_reports}
use Rattle.usp_lab.specs.Entries.{ledger_of}
use Rattle.usp_lab.proofs.running.books.Books.note.Given as goal

-- what is left to note goes behind what was noted, and the ledger begins with what it had
abbrev pub invariant-asks : goal.invariant-asks
invariant-asks l = record {
  entries : l.self.entries
      ++ noted_entries (length l.self.issued.items + 1) (ledger_of l.fn.self.entries) l.edges (drop l.i l.asks)
      (drop l.i l.notes)
      ≡ l.fn.self.entries
      ++ noted_entries (length l.fn.self.issued.items + 1) (ledger_of l.fn.self.entries) l.edges l.asks l.notes;
  asks : l.self.asks.items ++ noted_reports (ledger_of l.fn.self.entries) (drop l.i l.asks) (drop l.i l.notes)
      ≡ l.fn.self.asks.items ++ noted_reports (ledger_of l.fn.self.entries) l.asks l.notes;
  issued : l.self.issued.items ++ map (λ note. note.issued) (drop l.i l.notes)
      ≡ l.fn.self.issued.items ++ map (λ note. note.issued) l.notes;
  many : length l.self.issued.items ≡ length l.fn.self.issued.items + l.i;
  grants : l.self.grants ≡ l.fn.self.grants;
  known : l.known ≤ length l.self.entries;
  front : take l.known (ledger_of l.self.entries) ≡ ledger_of l.fn.self.entries;
}
