-- How a text is searched for an expression.
use Rattle.std.specs.Prelude.{◌≡◌, ℕ, ◌+◌, ◌<◌, ◌≤◌, ◌⊎◌, List, [], ◌∷◌, Bool, true, false, ◌&&◌, nat_eq, nat_lt, slice_get, slice_index, length, Option, Some, None}
use Rattle.usp_ere.specs.declared.bytes.ByteSet.{ByteSet}
use Rattle.usp_ere.specs.declared.nodes.Node.{Node}
use Rattle.usp_ere.specs.declared.nodes.Node.TheVariants.{Accept, Byte}
use Rattle.usp_ere.specs.declared.course.Places.{Places}
use Rattle.usp_ere.specs.declared.course.Start.{Start}
use Rattle.usp_ere.specs.Bytes.{holds}
use Rattle.usp_ere.specs.Expression.{Expr, repeat, Finds, size_of}
use Rattle.usp_ere.specs.Nodes.{IsText, Block, IsInOrder}
use Rattle.usp_ere.specs.Places.{Spans}
use Rattle.usp_ere.specs.SetText.{begins}
use Rattle.usp_ere.specs.Starts.{starts_at}
use Rattle.usp_ere.specs.Walk.{IsCourse, Accepts}

-- a text of the expression is empty, which it may be, or begins with one of these bytes
pub record IsFront (empty : Bool) (bytes : ByteSet) (e : Expr) : Type 0 where
  pub by : (u : List ℕ) → IsText u → (i j : ℕ) → Spans u e i j
      → ((j ≡ i) × (empty ≡ true)) ⊎ ((i < length u) × (holds bytes (slice_index u i) ≡ true))

-- a text of the expression begins at one of these places
pub record IsCovered (places : Places) (e : Expr) : Type 0 where
  pub by : (u : List ℕ) → IsText u → (i j : ℕ) → i ≤ length u → Spans u e i j
      → starts_at places i (slice_get u i) ≡ true

-- each path from the one node takes these bytes and then goes through the other one
abbrev pub Leads : List Node → ℕ → List ℕ → ℕ → Type 0
Leads ns q [] r = q ≡ r
Leads ns q (c ∷ cs) r = (s : ℕ) × (slice_get ns q ≡ Some (Byte c s)) × Leads ns s cs r

pub record IsLed (ns : List Node) (from : ℕ) (bytes : List ℕ) (to : ℕ) : Type 0 where
  pub leads : Leads ns from bytes to
  pub within : to < length ns

-- a repeat may be left out, and there is one
abbrev pub are_optional : ℕ → Option ℕ → Bool
are_optional least None = nat_eq least 0
are_optional least (Some most) = nat_eq least 0 && nat_lt 0 most

abbrev pub is_optional : Expr → Bool
is_optional (repeat x least most) = are_optional least most
is_optional e = false

-- the nodes below a number, from a node on, are those of the expression
pub record IsPart (ns : List Node) (e : Expr) (node : ℕ) : Type 0 where
  pub accepting : slice_get ns 0 ≡ Some Accept
  pub to : ℕ
  pub block : Block ns e 1 to node 0
  pub within : to ≤ length ns
  pub ordered : IsInOrder e

-- the one finds something where the other one does
pub record FindAlike (e f : Expr) : Type 0 where
  pub forth : (u : List ℕ) → Finds e u → Finds f u
  pub back : (u : List ℕ) → Finds f u → Finds e u

-- the expression finds what begins with the literal, where a walk from the start accepts
pub record IsPlanned (ns : List Node) (e : Expr) (literal : List ℕ) (start : Start) : Type 0 where
  pub size : length ns ≡ size_of e
  pub course : IsCourse ns start
  pub finds : (u : List ℕ) → IsText u → Finds e u → (begins u literal ≡ true) × Accepts ns start u
  pub only : (u : List ℕ) → IsText u → begins u literal ≡ true → Accepts ns start u → Finds e u
