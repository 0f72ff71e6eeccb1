-- A hashed index: for each hash the numbers of the rows that have it, the newest first. Number 0 is none, and
-- number r + 1 is row r.
use Rattle.std.specs.Prelude.{◌≡◌, ℕ, zero, suc, ◌+◌, ◌-◌, ◌%◌, ◌<◌, ◌≤◌, List, Some, slice_get, slice_index, length}

-- n steps lead from a number to that of row r
abbrev pub Chained : List ℕ → ℕ → ℕ → ℕ → Type 0
Chained next zero number r = number ≡ r + 1
Chained next (suc n) number r = (0 < number) × Chained next n (slice_index next (number - 1)) r

pub record OnChain (next : List ℕ) (number r : ℕ) : Type 0 where
  pub steps : ℕ
  pub chained : Chained next steps number r

-- which head is that of a hash
abbrev pub bucket : ℕ → ℕ → ℕ
bucket hash heads = hash % heads

-- each row is on the chain of its hash, and each step leads to an older row
pub record IsIndexed (hashes heads next : List ℕ) : Type 0 where
  pub same : length next ≡ length hashes
  pub listed : (r hash : ℕ) → slice_get hashes r ≡ Some hash
      → OnChain next (slice_index heads (bucket hash (length heads))) r
  pub begins : (k : ℕ) → k < length heads → slice_index heads k ≤ length next
  pub falls : (k : ℕ) → k < length next → slice_index next k ≤ k

-- what contracts see of an index
pub record Indexed : Type 0 where
  pub room : ℕ
  pub hashes : List ℕ
  pub heads : List ℕ
  pub next : List ℕ
