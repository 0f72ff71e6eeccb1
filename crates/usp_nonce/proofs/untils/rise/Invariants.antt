use Rattle.std.proofs.Common.{◌≡◌, ℕ, ◌-◌, ◌<◌, length}
use Rattle.usp_nonce.specs.Heap.{above, Rises}
use Rattle.usp_nonce.proofs.untils.rise.Given as goal

abbrev pub invariant-loop-k : goal.invariant-loop-k
invariant-loop-k l = record {
  len : length l.heap ≡ length l.fn.heap;
  within : l.k < length l.heap;
  moves : Rises l.heap l.k;
  same : (m : ℕ) → above m l.heap ≡ above m l.fn.heap;
}

abbrev pub decreases-loop-k : goal.decreases-loop-k
decreases-loop-k l = l.k
