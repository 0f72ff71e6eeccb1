-- The walk over a text: the nodes that are entered at a place, and those at the next one.
use Rattle.std.specs.Prelude.{◌≡◌, ℕ, ◌+◌, ◌*◌, ◌<◌, ◌≤◌, ◌⊎◌, List, [], ◌∷◌, Bool, true, false, nat_eq, if◌then◌else◌, Option, Some, None, slice_get, length, take}
use Rattle.usp_ere.specs.declared.nodes.Node.{Node}
use Rattle.usp_ere.specs.declared.nodes.Node.TheVariants.{Accept, Byte, Any, OneOf, Begin, End, Split}
use Rattle.usp_ere.specs.Bytes.{holds}
use Rattle.usp_ere.specs.Nodes.{NodeGoes, Path}
use Rattle.usp_ere.specs.NodeSets.{has}
use Rattle.usp_ere.specs.declared.course.Start.{Start}
use Rattle.usp_ere.specs.Starts.{starts_at}

-- where a node leads at the same place: whether the place is the first one, and the byte that stands there, if any
abbrev pub stays : Node → Bool → Option ℕ → List ℕ
stays Accept first byte = []
stays (Byte c next) first byte = []
stays (Any next) first byte = []
stays (OneOf s next) first byte = []
stays (Begin next) true byte = next ∷ []
stays (Begin next) false byte = []
stays (End next) first None = next ∷ []
stays (End next) first (Some c) = []
stays (Split a b) first byte = a ∷ b ∷ []

-- where it leads at the next place
abbrev pub goes : Node → Option ℕ → List ℕ
goes node None = []
goes Accept (Some d) = []
goes (Byte c next) (Some d) = if nat_eq d c then next ∷ [] else []
goes (Any next) (Some d) = next ∷ []
goes (OneOf s next) (Some d) = if holds s d then next ∷ [] else []
goes (Begin next) (Some d) = []
goes (End next) (Some d) = []
goes (Split a b) (Some d) = []

-- the node leads to numbers below this one
abbrev pub IsBelow : Node → ℕ → Type 0
IsBelow Accept n = Unit {0}
IsBelow (Byte c next) n = next < n
IsBelow (Any next) n = next < n
IsBelow (OneOf s next) n = next < n
IsBelow (Begin next) n = next < n
IsBelow (End next) n = next < n
IsBelow (Split a b) n = (a < n) × (b < n)

-- each node leads to a node of the list
pub record AreBelow (ns : List Node) : Type 0 where
  pub by : (q : ℕ) (node : Node) → slice_get ns q ≡ Some node → IsBelow node (length ns)

-- the first node accepts, each one leads to nodes of the list, and the walk starts at one
pub record IsCourse (ns : List Node) (start : Start) : Type 0 where
  pub accepting : slice_get ns 0 ≡ Some Accept
  pub below : AreBelow ns
  pub starts : start.node < length ns

-- some path leads from the start, from a place where the walk starts, to the node at the place
pub record IsReached (u : List ℕ) (ns : List Node) (start : Start) (at q : ℕ) : Type 0 where
  pub from : ℕ
  pub moves : ℕ
  pub before : from ≤ at
  pub within : from ≤ length u
  pub starts : starts_at start.places from (slice_get u from) ≡ true
  pub path : Path u ns moves start.node from q at

pub record AreReached (u : List ℕ) (ns : List Node) (start : Start) (at : ℕ) (list : List ℕ) : Type 0 where
  pub by : (q : ℕ) → has q list ≡ true → IsReached u ns start at q

-- all moves of the node were made, and it does not accept
pub record IsDone (u : List ℕ) (ns : List Node) (at : ℕ) (now next : List ℕ) (q : ℕ) : Type 0 where
  pub other : q ≡ 0 → ⊥
  pub stay : (s : ℕ) → NodeGoes u (slice_get ns q) at s at → has s now ≡ true
  pub on : (s : ℕ) → NodeGoes u (slice_get ns q) at s (at + 1) → has s next ≡ true

-- the first k nodes of a place were worked
pub record IsWalked (u : List ℕ) (ns : List Node) (start : Start) (at k : ℕ) (now next : List ℕ) : Type 0 where
  pub reached : AreReached u ns start at now
  pub ahead : AreReached u ns start (at + 1) next
  pub done : (q : ℕ) → has q (take k now) ≡ true → IsDone u ns at now next q

-- a path from one of these at a place to the node 0
pub record LeadsOn (u : List ℕ) (ns : List Node) (at : ℕ) (list : List ℕ) : Type 0 where
  pub node : ℕ
  pub moves : ℕ
  pub to : ℕ
  pub listed : has node list ≡ true
  pub path : Path u ns moves node at 0 to

-- a path from the start at this place or a later one, where the walk starts, to the node 0
pub record StartsLater (u : List ℕ) (ns : List Node) (start : Start) (at : ℕ) : Type 0 where
  pub from : ℕ
  pub moves : ℕ
  pub to : ℕ
  pub later : at ≤ from
  pub within : from ≤ length u
  pub starts : starts_at start.places from (slice_get u from) ≡ true
  pub path : Path u ns moves start.node from 0 to

abbrev pub IsLive : List ℕ → List Node → Start → ℕ → List ℕ → Type 0
IsLive u ns start at list = LeadsOn u ns at list ⊎ StartsLater u ns start at

-- the nodes accept from a place of the text on at which the walk starts
pub record Accepts (ns : List Node) (start : Start) (u : List ℕ) : Type 0 where
  pub from : ℕ
  pub to : ℕ
  pub moves : ℕ
  pub within : from ≤ length u
  pub starts : starts_at start.places from (slice_get u from) ≡ true
  pub path : Path u ns moves start.node from 0 to

-- the nodes at a place are reached, and whatever accepts leads through them or starts later
pub record IsOn (u : List ℕ) (ns : List Node) (start : Start) (at : ℕ) (list : List ℕ) : Type 0 where
  pub reached : AreReached u ns start at list
  pub live : Accepts ns start u → IsLive u ns start at list

-- each member of the first list is one of the second
pub record Grows (old new : List ℕ) : Type 0 where
  pub by : (q : ℕ) → has q old ≡ true → has q new ≡ true

-- the start was entered, or the walk does not start here
abbrev pub IsBegun : List ℕ → Start → ℕ → List ℕ → Type 0
IsBegun u start at list = (has start.node list ≡ true) ⊎ (starts_at start.places at (slice_get u at) ≡ false)

-- from one place to another each place takes at most so many steps, with the nodes that are entered at them
pub record Spends (size old at now new to next : ℕ) : Type 0 where
  pub by : (n : ℕ) → old ≤ n + at * size + now → new ≤ n + to * size + next
