-- How far a run is.
use Rattle.std.specs.Prelude.{◌≡◌, ℕ, ◌+◌, ◌*◌, ◌≤◌, All, List, [], length, map, Option, IfSome, Some, slice_get}
use Rattle.std.specs.List.{AllZip}
use Rattle.usp_conf.specs.Values.{ConfValue}
use Rattle.usp_edge.specs.Seats.{StandIn, places_of}
use Rattle.usp_issue.specs.declared.limits.TheConstants.{MAX_TOKEN}
use Rattle.usp_nonce.specs.History.{IsLegal}
use Rattle.usp_shared.specs.Places.{AreAllBelow, times}
use Rattle.usp_script.specs.Script.{ScriptValue}
use Rattle.usp_script.specs.declared.ask.Round.{Round}
use Rattle.usp_script.specs.declared.limits.TheConstants.{MAX_ASKS}
use Rattle.usp_lab.specs.Benches.{Used, append_used}
use Rattle.usp_lab.specs.Books.{Keeps}
use Rattle.usp_lab.specs.Entries.{Run, Runs, opened, served_in, with_round}
use Rattle.usp_lab.specs.Reports.{used_by}
use Rattle.usp_lab.specs.Rounds.{AreServed, Served, calls_at, issued_by}
use Rattle.usp_lab.specs.Tables.{IsFresh, IsWhole, TableValue}
use Rattle.usp_lab.specs.Turns.{AreInTurn}
use Rattle.usp_lab.specs.declared.limits.TheConstants.{CALLS_PER_ASK}
use Rattle.usp_lab.specs.declared.running.books.Books.{Books}

-- ---- the tables of the edges

-- how many calls each table may get
abbrev pub table_share : ℕ
table_share = CALLS_PER_ASK * MAX_ASKS

-- each edge has a table that has met no call
abbrev pub AreFresh : List ConfValue → List TableValue → Type 0
AreFresh edges tables = AllZip (λ edge table. IsFresh edge.room table_share table) edges tables

-- All calls of the table are one legal history, each at its place.
pub record IsOneHistory (table : TableValue) : Type 0 where
  pub legal : IsLegal table.shared.room table.seat.seen
  pub all : AreAllBelow (length table.seat.seen) table.seat.places
  pub counted : length table.seat.places ≡ length table.seat.seen

-- how many calls it got
abbrev pub calls_made : TableValue → ℕ
calls_made table = length table.seat.seen

-- The table of an edge has the calls of the run at that edge, in the turns of their workers.
pub record HasMade (workers place : ℕ) (run : Run) (table : TableValue) : Type 0 where
  pub stand : StandIn table.seat.seen (calls_at place (served_in run))
  pub places : (x : ℕ) → times x table.seat.places ≡ times x (places_of (calls_at place (served_in run)))
  pub turns : AreInTurn workers place 0 run.rounds (length table.seat.seen)
  pub share : table.shared.share ≡ table_share
  pub fallen : table.seat.left + length (calls_at place (served_in run)) ≡ table_share

-- So does each edge's, and each has its edge's room.
pub record HaveMade (edges : List ConfValue) (workers : ℕ) (run : Run) (tables : List TableValue) : Type 0 where
  pub rooms : map (λ table. table.shared.room) tables ≡ map (λ edge. edge.room) edges
  pub whole : All IsWhole tables
  pub each : (place : ℕ) (table : TableValue) → slice_get tables place ≡ Some table
      → HasMade workers place run table

-- ---- a run

-- a token that is no longer than one that an edge issues
abbrev pub IsShort : List ℕ → Type 0
IsShort token = length token ≤ MAX_TOKEN

-- No more tokens were granted than there are, no round began with more than there are, and what was issued is short.
pub record IsModest (run : Run) : Type 0 where
  pub granted : run.grants ≤ length run.entries
  pub since : All (λ served. served.known ≤ length run.entries) (served_in run)
  pub short : All (λ issued. IfSome issued IsShort) (issued_by (served_in run))

-- The run is so far, by these books and with these tables.
pub record IsUnderWay (edges : List ConfValue) (workers : ℕ) (run : Run) (books : Books) (tables : List TableValue)
    : Type 0 where
  pub keeps : Keeps run books
  pub made : HaveMade edges workers run tables
  pub modest : IsModest run

-- With a round more the run is so far.
pub record HasGoneOn (script : ScriptValue) (workers : ℕ) (run : Run) (round : Round) (books : Books)
    (tables : List TableValue) (before after : Option (List Used)) : Type 0 where
  pub all : List Served
  pub served : AreServed script (issued_by (served_in run)) (length (opened run round)) round.asks all
  pub way : IsUnderWay script.edges workers (with_round run round all) books tables
  pub lines : after ≡ append_used before (map used_by all)

-- nothing is in the books
pub record IsEmpty (books : Books) : Type 0 where
  pub entries : books.entries ≡ []
  pub grants : books.grants ≡ 0
  pub asks : books.asks.items ≡ []
  pub issued : books.issued.items ≡ []

-- All rounds of the script were run.
pub record AreRun (script : ScriptValue) (workers : ℕ) (books : Books) (tables : List TableValue)
    (before after : Option (List Used)) : Type 0 where
  pub run : Run
  pub runs : Runs script run
  pub way : IsUnderWay script.edges workers run books tables
  pub lines : after ≡ append_used before (map used_by (served_in run))
