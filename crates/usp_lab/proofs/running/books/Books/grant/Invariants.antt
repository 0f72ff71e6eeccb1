use Rattle.std.proofs.Common.{◌≡◌, ◌+◌, ◌≤◌, ◌++◌, length, drop}
use Rattle.usp_lab.specs.Entries.{grant_entries}
use Rattle.usp_lab.proofs.running.books.Books.grant.Given as goal

-- what is left to enter goes behind what was entered
abbrev pub invariant-tokens : goal.invariant-tokens
invariant-tokens l = record {
  entries : l.self.entries ++ grant_entries (l.self.grants + 1) (drop l.token-index l.tokens)
      ≡ l.fn.self.entries ++ grant_entries (l.fn.self.grants + 1) l.tokens;
  grants : l.self.grants ≡ l.fn.self.grants + l.token-index;
  few : l.self.grants ≤ length l.self.entries;
  asks : l.self.asks ≡ l.fn.self.asks;
  issued : l.self.issued ≡ l.fn.self.issued;
}
