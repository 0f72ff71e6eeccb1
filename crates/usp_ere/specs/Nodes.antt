-- An expression written out as numbered nodes.
use Rattle.std.specs.Prelude.{◌≡◌, ℕ, zero, suc, ◌+◌, ◌-◌, ◌<◌, ◌⊎◌, List, Option, Some, None, slice_get, slice_index, length, IsTrue}
use Rattle.usp_ere.specs.declared.nodes.Node.{Node}
use Rattle.usp_ere.specs.declared.nodes.Node.TheVariants.{Accept, Byte, Any, OneOf, Begin, End, Split}
use Rattle.usp_ere.specs.declared.bytes.ByteSet.{ByteSet}
use Rattle.usp_ere.specs.Bytes.{holds, Holds}
use Rattle.usp_ere.specs.Expression.{Expr, byte, any, set, at_begin, at_end, both, either, repeat, IsAtMost}

-- the bytes of a text
pub record IsText (u : List ℕ) : Type 0 where
  pub by : (i : ℕ) → i < length u → slice_index u i < 256

-- from a node at place i of the text u to node r at place j
abbrev pub NodeGoes : List ℕ → Option Node → ℕ → ℕ → ℕ → Type 0
NodeGoes u None i r j = ⊥
NodeGoes u (Some Accept) i r j = ⊥
NodeGoes u (Some (Byte c next)) i r j = (r ≡ next) × (j ≡ i + 1) × (i < length u) × (slice_index u i ≡ c)
NodeGoes u (Some (Any next)) i r j = (r ≡ next) × (j ≡ i + 1) × (i < length u)
NodeGoes u (Some (OneOf s next)) i r j = (r ≡ next) × (j ≡ i + 1) × (i < length u) × IsTrue (holds s (slice_index u i))
NodeGoes u (Some (Begin next)) i r j = (r ≡ next) × (j ≡ i) × (i ≡ 0)
NodeGoes u (Some (End next)) i r j = (r ≡ next) × (j ≡ i) × (i ≡ length u)
NodeGoes u (Some (Split first second)) i r j = (j ≡ i) × ((r ≡ first) ⊎ (r ≡ second))

-- n moves from node q at place i to node r at place j
abbrev pub Path : List ℕ → List Node → ℕ → ℕ → ℕ → ℕ → ℕ → Type 0
Path u ns zero q i r j = (q ≡ r) × (i ≡ j)
Path u ns (suc n) q i r j = (s l : ℕ) × NodeGoes u (slice_get ns q) i s l × Path u ns n s l r j

-- where a block of nodes stands: from a number up to another one, with its entry and where it goes on
abbrev pub Layout : Type 1
Layout = ℕ → ℕ → ℕ → ℕ → Type 0

-- n blocks, each going on to the one before it
abbrev pub Copies : Layout → ℕ → Layout
Copies B zero from to entry exit = (to ≡ from) × (entry ≡ exit)
Copies B (suc n) from to entry exit = (m b : ℕ) × Copies B n from m b exit × B m to entry b

-- up to n blocks, before each of which it may go on to the exit
abbrev pub Options : List Node → Layout → ℕ → Layout
Options ns B zero from to entry exit = (to ≡ from) × (entry ≡ exit)
Options ns B (suc n) from to entry exit =
    (m b c : ℕ) × Options ns B n from m b exit × B m entry c b × (slice_get ns entry ≡ Some (Split c exit))
    × (to ≡ entry + 1)

-- any number of blocks
abbrev pub Loop : List Node → Layout → Layout
Loop ns B from to entry exit =
    (c : ℕ) × (entry ≡ from) × (slice_get ns from ≡ Some (Split c exit)) × B (from + 1) to c from

abbrev pub Rest : List Node → Layout → ℕ → Option ℕ → Layout
Rest ns B least None = Loop ns B
Rest ns B least (Some most) = Options ns B (most - least)

-- one node
abbrev pub Single : List Node → Node → Layout
Single ns node from to entry exit = (entry ≡ from) × (to ≡ from + 1) × (slice_get ns from ≡ Some node)

-- the nodes from a number up to another one are those of the expression
abbrev pub Block : List Node → Expr → Layout
Block ns (byte c) from to entry exit = Single ns (Byte c exit) from to entry exit
Block ns any from to entry exit = Single ns (Any exit) from to entry exit
Block ns (set n es) from to entry exit = (s : ByteSet) × Holds s n es × Single ns (OneOf s exit) from to entry exit
Block ns at_begin from to entry exit = Single ns (Begin exit) from to entry exit
Block ns at_end from to entry exit = Single ns (End exit) from to entry exit
Block ns (both x y) from to entry exit = (m b : ℕ) × Block ns y from m b exit × Block ns x m to entry b
Block ns (either x y) from to entry exit =
    (m b c : ℕ) × Block ns x from m b exit × Block ns y m entry c exit × (slice_get ns entry ≡ Some (Split b c))
    × (to ≡ entry + 1)
Block ns (repeat x least most) from to entry exit =
    (m b : ℕ) × Rest ns (Block ns x) least most from m b exit × Copies (Block ns x) least m to entry b

-- the nodes are those of the expression: the first one accepts
pub record Implements (ns : List Node) (e : Expr) (start : ℕ) : Type 0 where
  pub accepting : slice_get ns 0 ≡ Some Accept
  pub block : Block ns e 1 (length ns) start 0

-- each repeat's counts are in order
abbrev pub IsInOrder : Expr → Type 0
IsInOrder (both x y) = IsInOrder x × IsInOrder y
IsInOrder (either x y) = IsInOrder x × IsInOrder y
IsInOrder (repeat x least most) = IsAtMost least most × IsInOrder x
IsInOrder e = Unit {0}
