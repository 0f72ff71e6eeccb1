use Rattle.std.proofs.Common.{◌≡◌, ◌≤◌, ℕ, length}
use Rattle.usp_nonce.specs.Heap.{above}
use Rattle.usp_nonce.proofs.untils.Untils.let_go.Given as goal

abbrev pub invariant-loop-self : goal.invariant-loop-self
invariant-loop-self l = record {
  room : l.self.room ≡ l.fn.self.room;
  same : (m : ℕ) → l.now ≤ m → above m l.self.list ≡ above m l.fn.self.list;
}

abbrev pub decreases-loop-self : goal.decreases-loop-self
decreases-loop-self l = length l.self.list
