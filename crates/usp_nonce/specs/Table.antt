-- What contracts see of a nonce table.
use Rattle.std.specs.Prelude.{ℕ, nat_lt, Bool, List}
use Rattle.usp_nonce.specs.Nonces.{Nonce}

-- a nonce that is taken, and the moment from which it may be taken again
pub record Holding : Type 0 where
  pub nonce : Nonce
  pub until : ℕ

-- the nonce is held beyond the moment
abbrev pub is_above : ℕ → Holding → Bool
is_above moment row = nat_lt moment row.until

-- how many nonces may be held at once, how many calls were made, the greatest `now` of them, and the
-- nonces held at that moment
pub record Table : Type 0 where
  pub room : ℕ
  pub calls : ℕ
  pub moment : ℕ
  pub rows : List Holding
