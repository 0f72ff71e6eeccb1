-- A node that stands alone at a place.
use Rattle.std.specs.Prelude.{◌≡◌, ℕ, ◌+◌, ◌<◌, ◌≤◌, List, [], ◌∷◌, Bool, true, false, Option, Some, None}
use Rattle.usp_ere.specs.declared.alone.Behind.{Behind}
use Rattle.usp_ere.specs.declared.alone.Behind.TheVariants.{Nothing, One, More}
use Rattle.usp_ere.specs.declared.nodes.Node.{Node}
use Rattle.usp_ere.specs.declared.nodes.Node.TheVariants.{Accept, Byte, Any, OneOf, Begin, End, Split}
use Rattle.usp_ere.specs.declared.course.Start.{Start}
use Rattle.usp_ere.specs.Walk.{IsBegun, IsOn}

-- the node takes a byte
abbrev pub takes : Node → Bool
takes (Byte c next) = true
takes (Any next) = true
takes (OneOf s next) = true
takes Accept = false
takes (Begin next) = false
takes (End next) = false
takes (Split a b) = false

abbrev pub listed : Option ℕ → List ℕ
listed None = []
listed (Some q) = q ∷ []

-- it is these nodes, or it says nothing
abbrev pub IsBehind : Behind → List ℕ → Type 0
IsBehind Nothing list = list ≡ []
IsBehind (One q) list = list ≡ q ∷ []
IsBehind More list = Unit {0}

-- a walk goes on from the node, which stands alone at the place, to these at the next place
pub record Follows (u : List ℕ) (ns : List Node) (start : Start) (at q : ℕ) (next : List ℕ) : Type 0 where
  pub by : IsBegun u start at (q ∷ []) → IsOn u ns start at (q ∷ []) → IsOn u ns start (at + 1) next

abbrev pub IsNext : List ℕ → List Node → Start → ℕ → ℕ → Behind → Type 0
IsNext u ns start at q Nothing = Follows u ns start at q []
IsNext u ns start at q (One r) = Follows u ns start at q (r ∷ [])
IsNext u ns start at q More = Unit {0}

-- the one node is below the number
abbrev pub IsInside : Behind → ℕ → Type 0
IsInside Nothing n = Unit {0}
IsInside (One q) n = q < n
IsInside More n = Unit {0}

-- the steps from the node alone, of at most so many nodes, to what stands behind it
abbrev pub IsPaid : ℕ → Behind → ℕ → ℕ → Type 0
IsPaid size Nothing old new = (old ≤ new) × (new + 1 ≤ old + size)
IsPaid size (One q) old new = (old ≤ new) × (new ≤ old + size)
IsPaid size More old new = new ≡ old
