-- The nodes of a compiled expression.
use Rattle.std.specs.Prelude.{ℕ, List, ◌<◌}
use Rattle.usp_ere.specs.declared.nodes.Node.{Node}
use Rattle.usp_ere.specs.declared.fault.EreFault.{EreFault}
use Rattle.usp_ere.specs.declared.fault.EreFault.TheVariants.{Syntax, Undefined, Repeat, TooLarge, NoMemory}
use Rattle.usp_ere.specs.Expression.{Expr, size_of}
use Rattle.usp_ere.specs.declared.limits.TheConstants.{MAX_SIZE}
use Rattle.usp_ere.specs.Nodes.{Implements, IsInOrder}

-- the nodes are those of the expression, whose counts are in order
pub record IsBuilt (ns : List Node) (e : Expr) (start : ℕ) : Type 0 where
  pub implements : Implements ns e start
  pub ordered : IsInOrder e

-- the expression is not built for this: it is too large. Want of memory is free
abbrev pub IsUnbuiltFor : Expr → EreFault → Type 0
IsUnbuiltFor e TooLarge = MAX_SIZE < size_of e
IsUnbuiltFor e NoMemory = Unit {0}
IsUnbuiltFor e (Syntax at) = ⊥
IsUnbuiltFor e (Undefined at) = ⊥
IsUnbuiltFor e (Repeat at) = ⊥
