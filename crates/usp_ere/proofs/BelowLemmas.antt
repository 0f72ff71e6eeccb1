-- Each node of a block leads to nodes that stand.
use Rattle.std.proofs.Common.{◌≡◌, ℕ, zero, suc, ◌+◌, ◌-◌, ◌<◌, ◌≤◌, inl, inr, sym, ap, ◌∙◌, subst, arith, List, Option, Some, None, length}
use Rattle.std.specs.Prelude.{slice_get}
use Rattle.std.proofs.lemmas.Bool.{cases_eq, cases_lt}
use Rattle.std.proofs.lemmas.Option.{slice_get_within}
use Rattle.usp_ere.specs.declared.nodes.Node.{Node}
use Rattle.usp_ere.specs.declared.nodes.Node.TheVariants.{Accept, Byte, Any, OneOf, Begin, End, Split}
use Rattle.usp_ere.specs.Expression.{Expr, byte, any, set, at_begin, at_end, both, either, repeat, nodes_of}
use Rattle.usp_ere.specs.Nodes.{Layout, Copies, Options, Loop, Rest, Single, Block, Implements}
use Rattle.usp_ere.specs.Walk.{IsBelow, AreBelow}
use Rattle.usp_ere.proofs.NodeLemmas.{Takes, block_takes, copies_take, options_take}

-- the nodes from a number up to another one, and the entry, are and lead below a bound
record Lies (ns : List Node) (bound from to entry : ℕ) : Type 0 where
  enters : entry < bound
  by : (q : ℕ) (node : Node) → from ≤ q → q < to → slice_get ns q ≡ Some node → IsBelow node bound

record LiesAll (ns : List Node) (bound : ℕ) (B : Layout) : Type 0 where
  by : (from to entry exit : ℕ) → B from to entry exit → exit < bound → to ≤ bound → Lies ns bound from to entry

same_node : (ns : List Node) (q r : ℕ) (x y : Node) (n : ℕ) → q ≡ r → slice_get ns r ≡ Some x → slice_get ns q ≡ Some y → IsBelow x n → IsBelow y n
same_node ns q r x y n e f g h = let o : Some x ≡ Some y = sym f ∙ ap (slice_get ns) (sym e) ∙ g in let same : x ≡ y = cc in subst (λ z. IsBelow z n) same h

single_lies : (ns : List Node) (bound : ℕ) (node : Node) (from to entry exit : ℕ) → IsBelow node bound → Single ns node from to entry exit → to ≤ bound → Lies ns bound from to entry
single_lies ns bound node from to entry exit h (at, end, f) le = record {
  enters = omega arith;
  by = λ q other up lt g. same_node ns q from node other bound (omega arith) f g h;
}

lies_both : (ns : List Node) (bound from m to a b : ℕ) → Lies ns bound from m a → Lies ns bound m to b → Lies ns bound from to b
lies_both ns bound from m to a b p q = record {
  enters = q.enters;
  by = λ k node up lt g. elim (cases_lt k m) [ inl below ↦ p.by k node up below g | inr above ↦ q.by k node (omega arith) lt g ];
}

lies_more : (ns : List Node) (bound from to entry : ℕ) (a : ℕ) (node : Node) → Lies ns bound from entry a → entry < bound → slice_get ns entry ≡ Some node → IsBelow node bound → to ≡ entry + 1 → Lies ns bound from to entry
lies_more ns bound from to entry a node p lt f h e = record {
  enters = lt;
  by = λ k other up below g. elim (cases_eq k entry) [
    | inl same ↦ same_node ns k entry node other bound same f g h
    | inr apart ↦ p.by k other up (omega arith) g
  ];
}

lies_none : (ns : List Node) (bound from to entry : ℕ) → to ≡ from → entry < bound → Lies ns bound from to entry
lies_none ns bound from to entry e lt = record { enters = lt; by = λ q node up below g. absurd (omega arith) }

copies_lie : (ns : List Node) (bound : ℕ) (B : Layout) (s : ℕ) → Takes B s → LiesAll ns bound B → (n : ℕ) → LiesAll ns bound (Copies B n)
copies_lie ns bound B s t h zero = record { by = λ from to entry exit c lt le. lies_none ns bound from to entry c.0 (omega (arith, c.1)) }
copies_lie ns bound B s t h (suc n) = record {
  by = λ from to entry exit (m, b, c, d) lt le.
      let over = t.by m to entry b d in
      let first = (copies_lie ns bound B s t h n).by from m b exit c lt (omega arith) in
      lies_both ns bound from m to b entry first (h.by m to entry b d first.enters le);
}

options_lie : (ns : List Node) (bound : ℕ) (B : Layout) (s : ℕ) → Takes B s → LiesAll ns bound B → (n : ℕ) → LiesAll ns bound (Options ns B n)
options_lie ns bound B s t h zero = record { by = λ from to entry exit c lt le. lies_none ns bound from to entry c.0 (omega (arith, c.1)) }
options_lie ns bound B s t h (suc n) = record {
  by = λ from to entry exit (m, b, c, d, e, f, g) lt le.
      let over = t.by m entry c b e in
      let first = (options_lie ns bound B s t h n).by from m b exit d lt (omega arith) in
      let second = h.by m entry c b e first.enters (omega arith) in
      lies_more ns bound from to entry c _ (lies_both ns bound from m entry b c first second) (omega arith) f (second.enters, lt) g;
}

loop_lies : (ns : List Node) (bound : ℕ) (B : Layout) (s : ℕ) → Takes B s → LiesAll ns bound B → LiesAll ns bound (Loop ns B)
loop_lies ns bound B s t h = record {
  by = λ from to entry exit (c, d, e, f) lt le.
      let over = t.by (from + 1) to c from f in
      let inner = h.by (from + 1) to c from f (omega arith) le in
      record {
        enters = omega arith;
        by = λ q node up below g. elim (cases_eq q from) [
          | inl same ↦ same_node ns q from _ node bound same e g (inner.enters, lt)
          | inr apart ↦ inner.by q node (omega arith) below g
        ];
      };
}

rest_lies : (ns : List Node) (bound : ℕ) (B : Layout) (s : ℕ) → Takes B s → LiesAll ns bound B → (least : ℕ) (most : Option ℕ) → LiesAll ns bound (Rest ns B least most)
rest_lies ns bound B s t h least None = loop_lies ns bound B s t h
rest_lies ns bound B s t h least (Some most) = options_lie ns bound B s t h (most - least)

block_lies : (ns : List Node) (bound : ℕ) (e : Expr) → LiesAll ns bound (Block ns e)
block_lies ns bound (byte c) = record { by = λ from to entry exit b lt le. single_lies ns bound (Byte c exit) from to entry exit lt b le }
block_lies ns bound any = record { by = λ from to entry exit b lt le. single_lies ns bound (Any exit) from to entry exit lt b le }
block_lies ns bound (set n es) = record { by = λ from to entry exit (w, h, b) lt le. single_lies ns bound (OneOf w exit) from to entry exit lt b le }
block_lies ns bound at_begin = record { by = λ from to entry exit b lt le. single_lies ns bound (Begin exit) from to entry exit lt b le }
block_lies ns bound at_end = record { by = λ from to entry exit b lt le. single_lies ns bound (End exit) from to entry exit lt b le }
block_lies ns bound (both x y) = record {
  by = λ from to entry exit (m, b, p, q) lt le.
      let over = (block_takes ns x).by m to entry b q in
      let first = (block_lies ns bound y).by from m b exit p lt (omega arith) in
      lies_both ns bound from m to b entry first ((block_lies ns bound x).by m to entry b q first.enters le);
}
block_lies ns bound (either x y) = record {
  by = λ from to entry exit (m, b, c, p, q, f, t) lt le.
      let over = (block_takes ns y).by m entry c exit q in
      let first = (block_lies ns bound x).by from m b exit p lt (omega arith) in
      let second = (block_lies ns bound y).by m entry c exit q lt (omega arith) in
      lies_more ns bound from to entry c _ (lies_both ns bound from m entry b c first second) (omega arith) f (first.enters, second.enters) t;
}
block_lies ns bound (repeat x least most) = record {
  by = λ from to entry exit (m, b, p, q) lt le.
      let s = nodes_of x in
      let t = block_takes ns x in
      let over = copies_take (Block ns x) s t least m to entry b q in
      let first = (rest_lies ns bound (Block ns x) s t (block_lies ns bound x) least most).by from m b exit p lt (omega arith) in
      lies_both ns bound from m to b entry first ((copies_lie ns bound (Block ns x) s t (block_lies ns bound x) least).by m to entry b q first.enters le);
}

whole_lies : (ns : List Node) (e : Expr) (start : ℕ) → Implements ns e start → Lies ns (length ns) 1 (length ns) start
whole_lies ns e start i =
    let up = (block_takes ns e).by 1 (length ns) start 0 i.block in
    (block_lies ns (length ns) e).by 1 (length ns) start 0 i.block (omega arith) (omega arith)

pub below_of : (ns : List Node) (e : Expr) (start : ℕ) → Implements ns e start → AreBelow ns
below_of ns e start i = record {
  by = λ q node g. elim (cases_eq q 0) [
    | inl first ↦ same_node ns q 0 Accept node (length ns) first i.accepting g tt
    | inr other ↦ (whole_lies ns e start i).by q node (omega arith) (slice_get_within ns q node g) g
  ];
}

pub start_of : (ns : List Node) (e : Expr) (start : ℕ) → Implements ns e start → start < length ns
start_of ns e start i = (whole_lies ns e start i).enters

pub entry_below : (ns : List Node) (e : Expr) (to entry : ℕ) → 0 < length ns → to ≤ length ns → Block ns e 1 to entry 0 → entry < length ns
entry_below ns e to entry some le b = ((block_lies ns (length ns) e).by 1 to entry 0 b some le).enters
