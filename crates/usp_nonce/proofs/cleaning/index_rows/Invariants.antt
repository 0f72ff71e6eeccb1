use Rattle.std.proofs.Common.{◌≡◌, take}
use Rattle.usp_nonce.specs.Hash.{hashes_of}
use Rattle.usp_nonce.proofs.cleaning.index_rows.Given as goal

abbrev pub invariant-loop-row : goal.invariant-loop-row
invariant-loop-row l = (l.index.hashes ≡ hashes_of (take l.row-index l.rows)) × (l.index.room ≡ l.fn.index.room)
