-- The expression of a list of tokens, read in one pass with the open groups on a stack. Proved to be what the
-- grammar says; no public clause cites it.
use Rattle.std.specs.Prelude.{ℕ, List, [], ◌∷◌, ◌++◌, Bool, true, false, Option, Some, None}
use Rattle.usp_ere.specs.Letters.{right_parenthesis}
use Rattle.usp_ere.specs.Expression.{Expr, byte, both, either, repeat}
use Rattle.usp_ere.specs.Tokens.{Token, atom, anchor, times, brace, opening, closing, bar, bad}
use Rattle.usp_ere.specs.Faults.{Before, nothing, repeatable, settled, are_counts}

-- the last piece of a branch, and whether it may be repeated
pub data Last : Type 0 where
  no_piece : Last
  open_piece : (e : Expr) → Last
  done_piece : (e : Expr) → Last

-- a list as far as it was read: its whole branches, the pieces of its last branch, and the last piece
pub data Line : Type 0 where
  line : (branches : Option Expr) (pieces : List Expr) (last : Last) → Line

abbrev pub fresh : Option Expr → Line
fresh branches = line branches [] no_piece

-- pieces one after the other
abbrev pub joined : List Expr → Expr → Expr
joined [] e = e
joined (p ∷ ps) e = both p (joined ps e)

abbrev pub with_last : List Expr → Last → List Expr
with_last pieces no_piece = []
with_last pieces (open_piece e) = pieces ++ e ∷ []
with_last pieces (done_piece e) = pieces ++ e ∷ []

abbrev pub branch_with : List Expr → Last → Option Expr
branch_with pieces no_piece = None
branch_with pieces (open_piece e) = Some (joined pieces e)
branch_with pieces (done_piece e) = Some (joined pieces e)

abbrev pub list_joined : Option Expr → Expr → Expr
list_joined None e = e
list_joined (Some x) e = either x e

abbrev pub list_with : Option Expr → Option Expr → Option Expr
list_with branches None = None
list_with branches (Some e) = Some (list_joined branches e)

-- the branch, and the list, as far as they were read, if the branch is not empty
abbrev pub branch_of : Line → Option Expr
branch_of (line branches pieces last) = branch_with pieces last

abbrev pub list_of : Line → Option Expr
list_of (line branches pieces last) = list_with branches (branch_with pieces last)

-- one more piece
abbrev pub push : Line → Last → Line
push (line branches pieces last) next = line branches (with_last pieces last) next

abbrev pub pushed : Line → Expr → Line
pushed l e = push l (open_piece e)

-- what stands before the next place of the branch
abbrev pub before_last : Last → Before
before_last no_piece = nothing
before_last (open_piece e) = repeatable
before_last (done_piece e) = settled

abbrev pub before_of : Line → Before
before_of (line branches pieces last) = before_last last

-- the state: the list that is read, and the lists around it
pub data State : Type 0 where
  state : (now : Line) (around : List Line) → State

abbrev pub repeat_last : Bool → Option Expr → List Expr → Expr → ℕ → Option ℕ → List Line → Option State
repeat_last true branches pieces e least most around =
    Some (state (line branches pieces (done_piece (repeat e least most))) around)
repeat_last false branches pieces e least most around = None

abbrev pub close_group : Option Expr → List Line → Option State
close_group None around = None
close_group (Some e) [] = None
close_group (Some e) (l ∷ around) = Some (state (pushed l e) around)

abbrev pub next_branch : Option Expr → List Line → Option State
next_branch None around = None
next_branch (Some e) around = Some (state (fresh (Some e)) around)

abbrev pub step : State → Token → Option State
step (state l around) (atom e bytes) = Some (state (pushed l e) around)
step (state l around) (anchor e) = Some (state (push l (done_piece e)) around)
step (state (line branches pieces (open_piece e)) around) (times least most bytes) =
    repeat_last (are_counts least most) branches pieces e least most around
step (state l around) (times least most bytes) = None
step (state l around) brace = None
step (state l around) opening = Some (state (fresh None) (l ∷ around))
step (state l []) closing = Some (state (pushed l (byte right_parenthesis)) [])
step (state l (m ∷ around)) closing = close_group (list_of l) (m ∷ around)
step (state l around) bar = next_branch (list_of l) around
step (state l around) (bad f) = None

abbrev pub whole : State → Option Expr
whole (state l []) = list_of l
whole (state l (m ∷ around)) = None

abbrev pub on : Option State → (State → Option Expr) → Option Expr
on None more = None
on (Some s) more = more s

abbrev pub reading : State → List Token → Option Expr
reading s [] = whole s
reading s (t ∷ ts) = on (step s t) (λ next. reading next ts)
