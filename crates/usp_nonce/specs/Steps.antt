-- The parts of one call of a nonce table, on what contracts see of it.
use Rattle.std.specs.Prelude.{◌≡◌, ℕ, ◌+◌, List, max, nat_le, [], ◌∷◌, ◌++◌, length, filter, if◌then◌else◌}
use Rattle.std.specs.List.{list_any}
use Rattle.usp_nonce.specs.Nonces.{Nonce, is_same_nonce}
use Rattle.usp_nonce.specs.History.{Call, IsLegal, IsNext}
use Rattle.usp_nonce.specs.Stands.{StandsFor, call_of}
use Rattle.usp_nonce.specs.Table.{Table, is_above}
use Rattle.usp_nonce.specs.declared.answer.Answer.{Answer}
use Rattle.usp_nonce.specs.declared.answer.Answer.TheVariants.{Late, Seen, Full, Taken}
use Rattle.usp_nonce.specs.declared.answer.Turned.{Turned}

-- the table with one more call, at the call's moment, with what is held beyond it
abbrev pub table_at : Table → ℕ → Table
table_at table now =
    let moment = max table.moment now in
    record table {
      calls = table.calls + 1;
      moment = moment;
      rows = filter (is_above moment) table.rows;
    }

-- the answer of a table that has come to the moment of the call
abbrev pub table_answer : Table → Nonce → ℕ → Answer
table_answer table nonce until =
    if nat_le until table.moment then Late
    else if list_any (λ row. is_same_nonce nonce row.nonce) table.rows then Seen
    else if nat_le table.room (length table.rows) then Full
    else Taken

-- the table with one more nonce held
abbrev pub table_with : Table → Nonce → ℕ → Table
table_with table nonce until =
    record table { rows = table.rows ++ record { nonce = nonce; until = until } ∷ [] }

-- the table after that answer
abbrev pub table_after : Table → Nonce → ℕ → Answer → Table
table_after table nonce until Taken = table_with table nonce until
table_after table nonce until Late = table
table_after table nonce until Seen = table
table_after table nonce until Full = table

-- The table answered a call: the answer goes on with each history that the table stood for, and the table stands
-- for what that makes.
pub record IsAnswered (before : Table) (nonce : Nonce) (now until : ℕ) (turned : Turned)
    (after : Table) : Type 0 where
  pub next : (history : List Call) → StandsFor before history
      → IsNext before.room history (call_of nonce now until turned)
  pub legal : (history : List Call) → StandsFor before history → IsLegal before.room history
      → IsLegal before.room (history ++ call_of nonce now until turned ∷ [])
  pub stands : (history : List Call) → StandsFor before history
      → StandsFor after (history ++ call_of nonce now until turned ∷ [])
  pub place : turned.place ≡ before.calls
  pub calls : after.calls ≡ before.calls + 1
  pub room : after.room ≡ before.room
