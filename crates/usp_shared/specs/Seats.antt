-- What contracts see of a shared table and of its seats.
use Rattle.std.specs.Prelude.{ℕ, List}
use Rattle.atomic_table.specs.Seated.{TableId}
use Rattle.usp_nonce.specs.History.{Call}

-- which table it is, how many nonces it holds at once, and how many calls may be made in all
pub record Shared : Type 0 where
  pub table : TableId
  pub room : ℕ
  pub share : ℕ

-- the table of a seat, the history as far as the seat has seen it, where the calls made through it and through the
-- seats joined into it stand there, and how many it may still make
pub record Seated : Type 0 where
  pub table : TableId
  pub seen : List Call
  pub places : List ℕ
  pub left : ℕ
