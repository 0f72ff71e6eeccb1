-- What contracts see of the table of an edge.
use Rattle.std.specs.Prelude.{◌≡◌, ℕ, ◌+◌, ◌-◌, ◌*◌, ◌≤◌, List, [], ◌++◌, length, map}
use Rattle.atomic_table.specs.Seated.{TableId}
use mathlib.Core.List.{IsPrefix}
use Rattle.usp_shared.specs.Seats.{Seated, Shared}
use Rattle.usp_lab.specs.declared.limits.TheConstants.{CALLS_PER_ASK}

-- the table, and the seat beside it
pub record TableValue : Type 0 where
  pub shared : Shared
  pub seat : Seated

abbrev pub shared_of : TableValue → Shared
shared_of table = table.shared

abbrev pub seat_of : TableValue → Seated
seat_of table = table.seat

abbrev pub tables_of : List TableValue → List TableId
tables_of tables = map (λ table. table.shared.table) tables

-- The table has this room, and no call was made at it. Its seat has the whole share.
pub record IsFresh (size most : ℕ) (table : TableValue) : Type 0 where
  pub room : table.shared.room ≡ size
  pub share : table.shared.share ≡ most
  pub seat : table.seat ≡ record { table = table.shared.table; seen = []; places = []; left = most }

-- The seat has the whole share of its table: what is left, and the calls that were made.
pub record IsWhole (table : TableValue) : Type 0 where
  pub whole : table.seat.left + length table.seat.places ≡ table.shared.share

-- the seat has calls left for so many asks
abbrev pub HasRoom : (asks : ℕ) → TableValue → Type 0
HasRoom asks table = CALLS_PER_ASK * asks ≤ table.seat.left

-- what a seat gives of the calls that it has left, and what it keeps
abbrev pub part_of : (part : ℕ) → Seated → Seated
part_of part seat = record seat { places = []; left = part }

abbrev pub kept_of : (part : ℕ) → Seated → Seated
kept_of part seat = record seat { left = seat.left - part }

abbrev pub part_at : (part : ℕ) → TableValue → Seated
part_at part table = part_of part table.seat

abbrev pub lent : (part : ℕ) → TableValue → TableValue
lent part table = record table { seat = kept_of part table.seat }

-- Another seat was taken in.
pub record Gets (old other new : Seated) : Type 0 where
  pub table : new.table ≡ old.table
  pub places : new.places ≡ old.places ++ other.places
  pub left : new.left ≡ old.left + other.left
  pub more : IsPrefix old.seen new.seen
  pub seen : IsPrefix other.seen new.seen
