-- The rule of the shared table, and what each step tells its seat.
use Rattle.std.specs.Prelude.{◌≡◌, ℕ, ◌+◌, ◌-◌, ◌<◌, ◌≤◌, ◌==◌, Bool, true, false, List, [], ◌∷◌, ◌++◌, length, Option, Some, None, MatchBool, ◌⊎◌}
use mathlib.Core.Option.{some, none}
use mathlib.Core.List.{IsPrefix}
use lib.ListN.{get_elem?}
use Rattle.atomic_table.specs.Seated.{TableId}
use Rattle.atomic_table.specs.Table.{State, Me, Step, rest}
use Rattle.usp_nonce.specs.History.{Call, IsLegal}
use Rattle.usp_nonce.specs.Stands.{StandsFor}
use Rattle.usp_nonce.specs.Table.{Table}
use Rattle.usp_nonce.specs.declared.limits.TheConstants.{MAX_CALLS}
use Rattle.usp_shared.specs.Histories.{IsEntered, longer_of, shorter_of}
use Rattle.usp_shared.specs.Places.{times, once_below, AreDistinctBelow}
use Rattle.usp_shared.specs.declared.rule.Stage.{Stage}
use Rattle.usp_shared.specs.declared.rule.Stage.TheVariants.{Idle, Waits, HasTurn, IsDone, Opens, Fills}
use Rattle.usp_shared.specs.declared.rule.Terms.{Terms}
use Rattle.usp_shared.specs.declared.rule.View.{View}

-- the first seat has the whole share
abbrev pub first_view : Terms → Stage → View
first_view terms stage =
    record {
      seen = [];
      told = [];
      places = [];
      left = terms.share;
      ticket = 0;
      stage = stage;
    }

abbrev pub newcomer : Terms → View
newcomer terms = first_view terms Opens

-- the stages, those of a call in their order
abbrev pub rank : Stage → ℕ
rank Idle = 0
rank Waits = 1
rank HasTurn = 2
rank IsDone = 3
rank Opens = 4
rank Fills = 5

-- 1 for a ticket whose call does not stand in the history yet
abbrev pub open_at : Stage → ℕ
open_at Idle = 0
open_at Waits = 1
open_at HasTurn = 1
open_at IsDone = 0
open_at Opens = 0
open_at Fills = 0

-- the nonce table has this room and stands for this history
pub record Has (room : ℕ) (table : Table) (log : List Call) : Type 0 where
  pub stands : StandsFor table log
  pub room_is : table.room ≡ room

-- What the seat `by` knows. A ticket has one owner. Who has the turn holds the ticket served, has seen the whole
-- history, and has the nonce table in hand.
pub record Knows (log : List Call) (next serving : ℕ) (owner : ℕ → ℕ) (busy : Bool) (by : ℕ)
    (v : View) : Type 0 where
  pub seen : IsPrefix v.seen log
  pub told : IsPrefix v.told log
  pub mine : AreDistinctBelow (length v.seen) v.places
  pub waits : 0 < rank v.stage → (serving ≤ v.ticket) × (v.ticket < next) × (owner v.ticket ≡ by)
  pub turn : 2 ≤ rank v.stage
      → (v.ticket ≡ serving) × (v.seen ≡ log) × (length log + 2 ≡ serving + rank v.stage)
      × (busy ≡ true)
  pub done : rank v.stage ≡ 3 → 0 < length v.places
  pub opened : rank v.stage ≤ 3

-- how often a seat has the place x
abbrev pub times_of : ℕ → View → ℕ
times_of x v = times x v.places

abbrev pub left_of : View → ℕ
left_of v = v.left

-- how many places a seat has
abbrev pub placed_of : View → ℕ
placed_of v = length v.places

abbrev pub open_of : View → ℕ
open_of v = open_at v.stage

-- f of all views, added up
abbrev pub total_of : (View → ℕ) → List View → ℕ
total_of f [] = 0
total_of f (v ∷ vs) = f v + total_of f vs

-- There is one legal history, whose length word 0 counts. Each place in it is a place of one seat, once.
-- While nobody has the turn, the nonce table is at home and stands for the history.
pub record Kept (terms : Terms) (s : State (Option Table) View) : Type 0 where
  pub log : List Call
  pub next : ℕ
  pub serving : ℕ
  pub owner : ℕ → ℕ
  pub busy : Bool
  pub words : s.words ≡ length log ∷ next ∷ serving ∷ []
  pub legal : IsLegal terms.table.room log
  pub order : serving ≤ next
  pub small : terms.share < MAX_CALLS
  pub shares : total_of left_of s.views + next ≡ terms.share
  pub placed : total_of placed_of s.views ≡ length log
  pub waits : total_of open_of s.views + length log ≡ next
  pub counted : (x : ℕ) → total_of (times_of x) s.views ≡ once_below (length log) x
  pub knows : (by : ℕ) (v : View) → get_elem? s.views by ≡ some v
      → Knows log next serving owner busy by v
  pub home : busy ≡ false
      → (table : Table) × (s.homes ≡ some (Some table) ∷ []) × Has terms.table.room table log
      × (length log ≡ serving)
  pub out : busy ≡ true
      → (s.homes ≡ none ∷ [])
      × ((u : View) × (get_elem? s.views (owner serving) ≡ some u) × (2 ≤ rank u.stage))

-- The table before it has its nonce table: the slot is empty at home, or out with the first seat
pub record IsUnfilled (terms : Terms) (stage : Stage)
    (home : mathlib.Core.Option.Option (Option Table))
    (s : State (Option Table) View) : Type 0 where
  pub words : s.words ≡ 0 ∷ 0 ∷ 0 ∷ []
  pub homes : s.homes ≡ home ∷ []
  pub views : s.views ≡ first_view terms stage ∷ []
  pub small : terms.share < MAX_CALLS

-- the rule, from the table's making on
abbrev pub Holds : Terms → State (Option Table) View → Type 0
Holds terms s =
    Kept terms s ⊎ (IsUnfilled terms Opens (some None) s ⊎ IsUnfilled terms Fills none s)

-- the view that keeps all but n of what is left, and the view that has n
abbrev pub kept_part : ℕ → View → View
kept_part n v = record v { left = v.left - n }

abbrev pub given_part : ℕ → View → View
given_part n v =
    record { seen = v.seen; told = []; places = []; left = n; ticket = 0; stage = Idle }

abbrev pub joined : View → View → View
joined v w =
    record {
      seen = longer_of v.seen w.seen;
      told = shorter_of v.seen w.seen;
      places = v.places ++ w.places;
      left = v.left + w.left;
      ticket = 0;
      stage = Idle;
    }

abbrev pub spent : View
spent = record { seen = []; told = []; places = []; left = 0; ticket = 0; stage = Idle }

-- a seat: its view, and what it has in hand
abbrev pub Sat : Type 0
Sat = Me (Option Table) View

-- the empty slot is in hand
abbrev pub emptied : Step (Option Table) → Sat → ℕ → Sat → Type 0
emptied st m n m' = m' ≡ (record m.0 { stage = Fills }, (0, None) ∷ [])

-- the seat has the ticket that was read
abbrev pub drawn : Step (Option Table) → Sat → ℕ → Sat → Type 0
drawn st m n m' = m' ≡ (record m.0 { left = m.0.left - 1; ticket = n; stage = Waits }, m.1)

-- the nonce table is in hand, and stands for the history, all of which the seat has seen
pub record TakesTurn (room : ℕ) (m m' : Sat) : Type 0 where
  pub table : Table
  pub held : m'.1 ≡ (0, Some table) ∷ []
  pub has : Has room table m'.0.seen
  pub legal : IsLegal room m'.0.seen
  pub view : m'.0 ≡ record m.0 { seen = m'.0.seen; stage = HasTurn }
  pub more : IsPrefix m.0.seen m'.0.seen
  pub small : length m'.0.seen < MAX_CALLS

abbrev pub looked : ℕ → Step (Option Table) → Sat → ℕ → Sat → Type 0
looked room st m n m' = MatchBool (n == m.0.ticket) (TakesTurn room m m') (m' ≡ m)

-- the call is the next entry, at the place that was read
abbrev pub committed : Call → Step (Option Table) → Sat → ℕ → Sat → Type 0
committed call st m n m' =
    (n ≡ length m.0.seen)
    × (m' ≡ (
      record m.0 {
        seen = m.0.seen ++ call ∷ [];
        places = m.0.places ++ n ∷ [];
        stage = IsDone;
      },
      m.1,
    ))

-- the seat has no ticket and nothing in hand
abbrev pub passed : Step (Option Table) → Sat → ℕ → Sat → Type 0
passed st m n m' = m' ≡ (record m.0 { stage = Idle }, rest m.1)

-- what a joined seat was told is the beginning of what it has seen, and it has no place twice
pub record IsCompared (m m' : Sat) : Type 0 where
  pub told : IsPrefix m.0.told m.0.seen
  pub mine : AreDistinctBelow (length m.0.seen) m.0.places
  pub small : m.0.left + length m.0.places < MAX_CALLS
  pub same : m' ≡ m

abbrev pub compared : Step (Option Table) → Sat → ℕ → Sat → Type 0
compared st m n m' = IsCompared m m'

-- the seat is one of the table, which has three words and one slot
pub record IsOf (seat table : TableId) : Type 0 where
  pub same : seat ≡ table
  pub words : table.words ≡ 3
  pub slots : table.slots ≡ 1

-- the seat has no ticket, and nothing in hand
pub record IsIdle (m : Sat) : Type 0 where
  pub stage : m.0.stage ≡ Idle
  pub hand : m.1 ≡ []

-- the nonce table is in hand, and stands for the history, all of which the seat has seen
pub record IsHeld (room : ℕ) (m : Sat) : Type 0 where
  pub table : Table
  pub hand : m.1 ≡ (0, Some table) ∷ []
  pub has : Has room table m.0.seen

-- a call in turn: it stands at the place, behind all that the seat had seen, and is one more of the seat's
pub record IsCall (room : ℕ) (m : Sat) (call : Call) (place : ℕ) (m' : Sat) : Type 0 where
  pub entered : IsEntered m.0.seen call place m'.0.seen
  pub legal : IsLegal room m'.0.seen
  pub mine : m'.0.places ≡ m.0.places ++ place ∷ []
  pub left : m'.0.left + 1 ≡ m.0.left
  pub idle : IsIdle m'
