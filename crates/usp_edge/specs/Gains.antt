-- What a nonce table gains by calls.
use Rattle.std.specs.Prelude.{◌≡◌, ℕ, ◌+◌, ◌-◌, List, ◌++◌, length}
use Rattle.usp_nonce.specs.History.{Call, IsLegal}
use Rattle.usp_nonce.specs.Stands.{StandsFor}
use Rattle.usp_nonce.specs.Table.{Table}
use Rattle.usp_nonce.specs.declared.limits.TheConstants.{MAX_CALLS}
use Rattle.usp_edge.specs.Calls.{ArePlaces, Placed, calls_of}

-- how many more calls a table answers
abbrev pub table_left : Table → ℕ
table_left table = MAX_CALLS - table.calls

-- Each legal history that the old table stands for goes on with these calls, at the next places, and the new table
-- stands for that.
pub record TableGains (old new : Table) (calls : List Placed) : Type 0 where
  pub legal : (history : List Call) → StandsFor old history → IsLegal old.room history
      → IsLegal old.room (history ++ calls_of calls)
  pub stands : (history : List Call) → StandsFor old history → IsLegal old.room history
      → StandsFor new (history ++ calls_of calls)
  pub places : ArePlaces old.calls calls
  pub count : new.calls ≡ old.calls + length calls
  pub room : new.room ≡ old.room
  pub fallen : table_left new + length calls ≡ table_left old
