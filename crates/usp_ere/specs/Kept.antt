-- Nodes that are written out.
use Rattle.std.specs.Prelude.{◌≡◌, ℕ, ◌+◌, ◌-◌, ◌*◌, List, Option, Some, None, slice_get, length}
use Rattle.usp_ere.specs.declared.nodes.Node.{Node}
use Rattle.usp_ere.specs.Expression.{Expr}
use Rattle.usp_ere.specs.Nodes.{Layout, Copies, Options, Loop, Rest, Block}

-- the second list has each node of the first, at its number
pub record Keeps (ns ms : List Node) : Type 0 where
  pub by : (q : ℕ) (node : Node) → slice_get ns q ≡ Some node → slice_get ms q ≡ Some node

-- what stands in a layout is written behind the nodes that stand, and goes on to the exit
pub record Adds (old new : List Node) (B : Layout) (entry exit : ℕ) : Type 0 where
  pub keeps : Keeps old new
  pub stands : B (length old) (length new) entry exit

-- how many nodes a repeat has beyond its least count, over a piece of s nodes
abbrev pub nodes_of_rest : ℕ → ℕ → Option ℕ → ℕ
nodes_of_rest s least None = s + 1
nodes_of_rest s least (Some most) = (most - least) * (s + 1)

-- the nodes of an expression are written, some copies of them, or some that may be left out
abbrev pub Writes : List Node → List Node → Expr → ℕ → ℕ → Type 0
Writes old new e entry exit = Adds old new (Block new e) entry exit

abbrev pub WritesCopies : List Node → List Node → Expr → ℕ → ℕ → ℕ → Type 0
WritesCopies old new e n entry exit = Adds old new (Copies (Block new e) n) entry exit

abbrev pub WritesOptions : List Node → List Node → Expr → ℕ → ℕ → ℕ → Type 0
WritesOptions old new e n entry exit = Adds old new (Options new (Block new e) n) entry exit

abbrev pub WritesLoop : List Node → List Node → Expr → ℕ → ℕ → Type 0
WritesLoop old new e entry exit = Adds old new (Loop new (Block new e)) entry exit

abbrev pub WritesRest : List Node → List Node → Expr → ℕ → Option ℕ → ℕ → ℕ → Type 0
WritesRest old new e least most entry exit = Adds old new (Rest new (Block new e) least most) entry exit
