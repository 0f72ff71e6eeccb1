use Rattle.std.proofs.Common.{◌≡◌, ℕ, ◌-◌, ◌<◌, length}
use Rattle.usp_nonce.specs.Heap.{above, Falls}
use Rattle.usp_nonce.proofs.untils.fall.Given as goal

abbrev pub invariant-loop-c : goal.invariant-loop-c
invariant-loop-c l = record {
  len : length l.heap ≡ length l.fn.heap;
  within : l.k < length l.heap;
  moves : Falls l.heap l.k;
  same : (m : ℕ) → above m l.heap ≡ above m l.fn.heap;
}

abbrev pub decreases-loop-c : goal.decreases-loop-c
decreases-loop-c l = length l.heap - l.k
