-- Which histories a nonce table stands for.
use Rattle.std.specs.Prelude.{◌≡◌, ℕ, List, length, map}
use Rattle.usp_nonce.specs.Nonces.{Nonce}
use Rattle.usp_nonce.specs.Table.{Holding, Table}
use Rattle.usp_nonce.specs.History.{Call, moment_of, calls_in_force}
use Rattle.usp_nonce.specs.declared.answer.Turned.{Turned}

-- the call that asked this and was answered so
abbrev pub call_of : Nonce → ℕ → ℕ → Turned → Call
call_of nonce now until turned =
    record {
      nonce = nonce;
      now = now;
      until = until;
      moment = turned.moment;
      answer = turned.answer;
    }

abbrev pub holding_of : Call → Holding
holding_of call = record { nonce = call.nonce; until = call.until }

-- The table keeps the history's length, its greatest `now`, and the Taken calls whose `until` is above it.
pub record StandsFor (table : Table) (history : List Call) : Type 0 where
  pub calls : table.calls ≡ length history
  pub moment : table.moment ≡ moment_of history
  pub rows : table.rows ≡ map holding_of (calls_in_force table.moment history)
