-- The nodes of an expression find exactly what it does, and they are as many as its size.
use Rattle.std.proofs.Common.{refl, ◌≡◌, ℕ, zero, suc, ◌+◌, ◌<◌, ◌≤◌, arith, ⊎_elim, List, [], ◌∷◌, ◌++◌, map, Result, Ok, Err, if◌then◌else◌, ◌-◌, length, Option, Some, None, IsTrue, Bool, true, false}
use Rattle.std.proofs.lemmas.Grind.{common_steps}
use Rattle.std.specs.Prelude.{nat_eq, codes, drop}
use Rattle.usp_ere.specs.Expression.{Expr, byte, any, set, at_begin, at_end, both, either, repeat, IsAtMost, size_of, Finds}
use Rattle.usp_ere.specs.Places.{Rounds, Spans}
use Rattle.usp_ere.specs.Faults.{are_counts}
use Rattle.usp_ere.specs.declared.nodes.Node.{Node}
use Rattle.usp_ere.specs.Nodes.{Path, Block, Implements}
use Rattle.usp_ere.proofs.RepeatLemmas.{spans_forward}
use Rattle.usp_ere.proofs.PlaceLemmas.{finds_at, places_of}
use Rattle.usp_ere.specs.Nodes.{IsInOrder, IsText}
use Rattle.usp_ere.proofs.NodeLemmas.{block_takes, path_of, spans_of_path}

-- a relation that stays in the text
pub record IsWithin (n : ℕ) (R : ℕ → ℕ → Type 0) : Type 0 where
  pub by : (i j : ℕ) → i ≤ n → R i j → j ≤ n

rounds_within : (n : ℕ) (R : ℕ → ℕ → Type 0) → IsWithin n R → IsWithin n (λ i j. (k : ℕ) × Rounds R k i j)
rounds_within n R w = record { by = λ i j le r. all r.0 i j le r.1 }
  where
    all : (k i j : ℕ) → i ≤ n → Rounds R k i j → j ≤ n
    all zero i j le r = omega (arith, r)
    all (suc k) i j le (l, r, rs) = all k l j (w.by i l le r) rs

spans_within : (u : List ℕ) (e : Expr) → IsWithin (length u) (Spans u e)
spans_within u (byte c) = record { by = λ i j le s. omega (arith, s.0, s.1) }
spans_within u any = record { by = λ i j le s. omega (arith, s.0, s.1) }
spans_within u (set n es) = record { by = λ i j le s. omega (arith, s.0, s.1) }
spans_within u at_begin = record { by = λ i j le s. omega (arith, s.0) }
spans_within u at_end = record { by = λ i j le s. omega (arith, s.0) }
spans_within u (both x y) = record { by = λ i j le (m, s, t). (spans_within u y).by m j ((spans_within u x).by i m le s) t }
spans_within u (either x y) = record { by = λ i j le s. ⊎_elim ((spans_within u x).by i j le) ((spans_within u y).by i j le) s }
spans_within u (repeat x least most) = record { by = λ i j le (n, l, a, r). (rounds_within (length u) (Spans u x) (spans_within u x)).by i j le (n, r) }

-- what the expression finds, and the path that goes through it
pub record Enters (u : List ℕ) (ns : List Node) (e : Expr) (start : ℕ) : Type 0 where
  pub from : ℕ
  pub until : ℕ
  pub to : ℕ
  pub moves : ℕ
  pub within : from ≤ length u
  pub spans : Spans u e from until
  pub path : Path u ns moves start from 0 to

pub enters_of : (ns : List Node) (e : Expr) (start to : ℕ) (u : List ℕ) → IsText u → Block ns e 1 to start 0 → Finds e u → Enters u ns e start
enters_of ns e start to u t block found =
    let p = places_of u e found in
    let w = (path_of u t ns e).by 1 to start 0 block p.0 p.1 p.4 in
    record { from = p.0; until = p.1; to = p.1; moves = w.0; within = omega (arith, p.2, p.3); spans = p.4; path = w.1 }

pub found_of : (ns : List Node) (e : Expr) (start last : ℕ) (u : List ℕ) → IsText u → Block ns e 1 last start 0 → IsInOrder e → (from moves to : ℕ) → from ≤ length u → Path u ns moves start from 0 to → Finds e u
found_of ns e start last u t block ok from moves to within path =
    let below : 0 < 1 = omega arith in
    let w = (spans_of_path u t ns e ok).by 1 last start 0 block 0 below moves from to path in
    finds_at u e from w.at ((spans_forward u e).by from w.at w.taken) ((spans_within u e).by from w.at within w.taken) w.taken

-- as many nodes as the size says
pub length_of_nodes : (ns : List Node) (e : Expr) (start : ℕ) → Implements ns e start → length ns ≡ size_of e
length_of_nodes ns e start nodes = omega (arith, (block_takes ns e).by 1 (length ns) start 0 nodes.block)

-- what is answered is whether the expression finds
pub record Tells (e : Expr) (u : List ℕ) (answer : Bool) : Type 0 where
  pub found : IsTrue answer → Finds e u
  pub told : Finds e u → IsTrue answer
