use Rattle.std.proofs.Common.{◌≡◌, ◌≤◌, ◌&&◌, ℕ, true, Some, length}
use Rattle.std.specs.Prelude.{slice_get}
use Rattle.usp_nonce.specs.Index.{OnChain}
use Rattle.usp_nonce.specs.Nonces.{is_same_nonce}
use Rattle.usp_nonce.specs.Table.{Holding, is_above}
use Rattle.usp_nonce.proofs.table.NonceTable.holds.Given as goal

-- each row of the nonce is ahead
abbrev pub invariant-loop-number : goal.invariant-loop-number
invariant-loop-number l = record {
  within : l.number ≤ length l.self-inside.rows.items;
  ahead : (r : ℕ) (row : Holding) → slice_get l.self-inside.rows.items r ≡ Some row → is_same_nonce l.key row.nonce && is_above l.self-inside.moment row ≡ true → OnChain l.self-inside.index.next l.number r;
}

abbrev pub decreases-loop-number : goal.decreases-loop-number
decreases-loop-number l = l.number
