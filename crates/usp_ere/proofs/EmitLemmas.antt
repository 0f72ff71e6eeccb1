-- Nodes that are written out, part by part.
use Rattle.std.proofs.Common.{◌≡◌, ◌≢◌, ℕ, zero, suc, ◌+◌, ◌-◌, ◌*◌, ◌<◌, ◌≤◌, inl, inr, refl, sym, ap, ◌∙◌, subst, arith, List, [], ◌∷◌, ◌++◌, length, length-append, Option, Some, None, set, Result, Ok, Err, IfOk}
use Rattle.std.specs.Prelude.{slice_get}
use Rattle.std.proofs.lemmas.List.{get_or-set_same, get_or-set_other}
use Rattle.std.proofs.lemmas.Option.{slice_get_within, slice_get-get_or, get_or_from_slice_get}
use Rattle.std.proofs.Common.{length-set}
use Rattle.std.specs.declared.alloc.AllocError.{AllocError}
use Rattle.std.proofs.Math.Nat.{suc-mul}
use Rattle.std.proofs.lemmas.Nat.{mul-le}
use Rattle.std.proofs.lemmas.Bool.{cases_eq}
use Rattle.usp_ere.specs.declared.nodes.Node.{Node}
use Rattle.usp_ere.specs.declared.nodes.Node.TheVariants.{Accept, Byte, Any, OneOf, Begin, End, Split}
use Rattle.usp_ere.specs.Expression.{Expr, byte, any, at_begin, at_end, both, either, repeat, nodes_of, size_of_repeat}
use Rattle.usp_ere.specs.Expression as expr
use Rattle.usp_ere.specs.Nodes.{Layout, Copies, Options, Loop, Rest, Single, Block}
use Rattle.usp_ere.specs.Kept.{nodes_of_rest, Keeps, Adds, Writes, WritesCopies, WritesOptions, WritesLoop, WritesRest}
use Rattle.usp_ere.proofs.NodeLemmas.{Takes, block_takes, copies_take, options_take}

-- the two lists have the same nodes from a number up to another one
pub record Agree (ns ms : List Node) (from to : ℕ) : Type 0 where
  pub by : (q : ℕ) (node : Node) → from ≤ q → q < to → slice_get ns q ≡ Some node → slice_get ms q ≡ Some node

agree_part : (ns ms : List Node) (from to from' to' : ℕ) → from ≤ from' → to' ≤ to → Agree ns ms from to → Agree ns ms from' to'
agree_part ns ms from to from' to' p r a = record { by = λ q node le lt. a.by q node (omega arith) (omega arith) }

-- what stands where the lists agree stands in the other one
pub record Carries (ns ms : List Node) (B C : Layout) : Type 0 where
  pub by : (from to entry exit : ℕ) → Agree ns ms from to → B from to entry exit → C from to entry exit

copies_carried : (ns ms : List Node) (B C : Layout) (s : ℕ) → Takes B s → Carries ns ms B C → (n : ℕ) → Carries ns ms (Copies B n) (Copies C n)
copies_carried ns ms B C s t h zero = record { by = λ from to entry exit a c. c }
copies_carried ns ms B C s t h (suc n) = record {
  by = λ from to entry exit a (m, b, c, d).
      let up = copies_take B s t n from m b exit c in
      let over = t.by m to entry b d in (
        m,
        b,
        (copies_carried ns ms B C s t h n).by from m b exit (agree_part ns ms from to from m (omega arith) (omega arith) a) c,
        h.by m to entry b (agree_part ns ms from to m to (omega arith) (omega arith) a) d,
      );
}

options_carried : (ns ms : List Node) (B C : Layout) (s : ℕ) → Takes B s → Carries ns ms B C → (n : ℕ) → Carries ns ms (Options ns B n) (Options ms C n)
options_carried ns ms B C s t h zero = record { by = λ from to entry exit a c. c }
options_carried ns ms B C s t h (suc n) = record {
  by = λ from to entry exit a (m, b, c, d, e, f, g).
      let up = options_take ns B s t n from m b exit d in
      let over = t.by m entry c b e in (
        m,
        b,
        c,
        (options_carried ns ms B C s t h n).by from m b exit (agree_part ns ms from to from m (omega arith) (omega arith) a) d,
        h.by m entry c b (agree_part ns ms from to m entry (omega arith) (omega arith) a) e,
        a.by entry _ (omega arith) (omega arith) f,
        g,
      );
}

loop_carried : (ns ms : List Node) (B C : Layout) (s : ℕ) → Takes B s → Carries ns ms B C → Carries ns ms (Loop ns B) (Loop ms C)
loop_carried ns ms B C s t h = record {
  by = λ from to entry exit a (c, d, e, f).
      let over = t.by (from + 1) to c from f in
      (c, d, a.by from _ (omega arith) (omega arith) e, h.by (from + 1) to c from (agree_part ns ms from to (from + 1) to (omega arith) (omega arith) a) f);
}

rest_carried : (ns ms : List Node) (B C : Layout) (s : ℕ) → Takes B s → Carries ns ms B C → (least : ℕ) (most : Option ℕ) → Carries ns ms (Rest ns B least most) (Rest ms C least most)
rest_carried ns ms B C s t h least None = loop_carried ns ms B C s t h
rest_carried ns ms B C s t h least (Some most) = options_carried ns ms B C s t h (most - least)

rest_up : (ns : List Node) (B : Layout) (s : ℕ) → Takes B s → (least : ℕ) (most : Option ℕ) (from to entry exit : ℕ) → Rest ns B least most from to entry exit → from ≤ to
rest_up ns B s t least None from to entry exit (c, d, e, f) = let over = t.by (from + 1) to c from f in omega arith
rest_up ns B s t least (Some most) from to entry exit r = let over = options_take ns B s t (most - least) from to entry exit r in omega arith

single_carried : (ns ms : List Node) (node : Node) → Carries ns ms (Single ns node) (Single ms node)
single_carried ns ms node = record { by = λ from to entry exit a (b, c, d). (b, c, a.by from node (omega arith) (omega arith) d) }

-- a block is one in each list that has its nodes
pub block_carried : (ns ms : List Node) (e : Expr) → Carries ns ms (Block ns e) (Block ms e)
block_carried ns ms (byte c) = record { by = λ from to entry exit. (single_carried ns ms (Byte c exit)).by from to entry exit }
block_carried ns ms any = record { by = λ from to entry exit. (single_carried ns ms (Any exit)).by from to entry exit }
block_carried ns ms (expr.set n es) = record { by = λ from to entry exit a (s, h, b). (s, h, (single_carried ns ms (OneOf s exit)).by from to entry exit a b) }
block_carried ns ms at_begin = record { by = λ from to entry exit. (single_carried ns ms (Begin exit)).by from to entry exit }
block_carried ns ms at_end = record { by = λ from to entry exit. (single_carried ns ms (End exit)).by from to entry exit }
block_carried ns ms (both x y) = record {
  by = λ from to entry exit a (m, b, p, q).
      let up = (block_takes ns y).by from m b exit p in
      let over = (block_takes ns x).by m to entry b q in (
        m,
        b,
        (block_carried ns ms y).by from m b exit (agree_part ns ms from to from m (omega arith) (omega arith) a) p,
        (block_carried ns ms x).by m to entry b (agree_part ns ms from to m to (omega arith) (omega arith) a) q,
      );
}
block_carried ns ms (either x y) = record {
  by = λ from to entry exit a (m, b, c, p, q, f, t).
      let up = (block_takes ns x).by from m b exit p in
      let over = (block_takes ns y).by m entry c exit q in (
        m,
        b,
        c,
        (block_carried ns ms x).by from m b exit (agree_part ns ms from to from m (omega arith) (omega arith) a) p,
        (block_carried ns ms y).by m entry c exit (agree_part ns ms from to m entry (omega arith) (omega arith) a) q,
        a.by entry _ (omega arith) (omega arith) f,
        t,
      );
}
block_carried ns ms (repeat x least most) = record {
  by = λ from to entry exit a (m, b, p, q).
      let s = nodes_of x in
      let t = block_takes ns x in
      let up = rest_up ns (Block ns x) s t least most from m b exit p in
      let over = copies_take (Block ns x) s t least m to entry b q in (
        m,
        b,
        (rest_carried ns ms (Block ns x) (Block ms x) s t (block_carried ns ms x) least most).by from m b exit (agree_part ns ms from to from m (omega arith) (omega arith) a) p,
        (copies_carried ns ms (Block ns x) (Block ms x) s t (block_carried ns ms x) least).by m to entry b (agree_part ns ms from to m to (omega arith) (omega arith) a) q,
      );
}

kept_agree : (ns ms : List Node) (from to : ℕ) → Keeps ns ms → Agree ns ms from to
kept_agree ns ms from to k = record { by = λ q node le lt. k.by q node }

pub kept_all : (ns : List Node) → Keeps ns ns
kept_all ns = record { by = λ q node e. e }

pub kept_on : (ns ms ls : List Node) → Keeps ns ms → Keeps ms ls → Keeps ns ls
kept_on ns ms ls k l = record { by = λ q node e. l.by q node (k.by q node e) }

kept_behind : (n : Node) (ns ms : List Node) → Keeps ns ms → Keeps (n ∷ ns) (n ∷ ms)
kept_behind n ns ms k = record { by = kept }
  where
    kept : (q : ℕ) (node : Node) → slice_get (n ∷ ns) q ≡ Some node → slice_get (n ∷ ms) q ≡ Some node
    kept zero node e = e
    kept (suc q) node e = k.by q node e

kept_push : (ns : List Node) (x : Node) → Keeps ns (ns ++ x ∷ [])
kept_push [] x = record { by = λ q node e. cc }
kept_push (n ∷ ns) x = kept_behind n ns (ns ++ x ∷ []) (kept_push ns x)

get_pushed : (ns : List Node) (x : Node) → slice_get (ns ++ x ∷ []) (length ns) ≡ Some x
get_pushed [] x = refl
get_pushed (n ∷ ns) x = get_pushed ns x

length_pushed : (ns : List Node) (x : Node) → length (ns ++ x ∷ []) ≡ length ns + 1
length_pushed ns x = length-append ns (x ∷ [])

-- one node
pub writes_one : (old new : List Node) (node : Node) (entry exit : ℕ) → new ≡ old ++ node ∷ [] → entry ≡ length old → Adds old new (Single new node) entry exit
writes_one old new node entry exit e at = record {
  keeps = subst (Keeps old) (sym e) (kept_push old node);
  stands = (at, ap length e ∙ length_pushed old node, ap (λ l. slice_get l (length old)) e ∙ get_pushed old node);
}

-- one part behind the other
pub writes_both : (a b c : List Node) (x y : Expr) (entry m exit : ℕ) → Writes a b y m exit → Writes b c x entry m → Writes a c (both x y) entry exit
writes_both a b c x y entry m exit p q = record {
  keeps = kept_on a b c p.keeps q.keeps;
  stands = (length b, m, (block_carried b c y).by _ _ m exit (kept_agree b c _ _ q.keeps) p.stands, q.stands);
}

pub writes_either : (a b c d : List Node) (x y : Expr) (p q entry exit : ℕ) → Writes a b x p exit → Writes b c y q exit → d ≡ c ++ Split p q ∷ [] → entry ≡ length c → Writes a d (either x y) entry exit
writes_either a b c d x y p q entry exit u v e at =
    let w = writes_one c d (Split p q) entry 0 e at in
    let on = kept_on b c d v.keeps w.keeps in
    let second = (block_carried c d y).by _ _ q exit (kept_agree c d _ _ w.keeps) v.stands in
    record {
      keeps = kept_on a b d u.keeps on;
      stands = (
        length b,
        p,
        q,
        (block_carried b d x).by _ _ p exit (kept_agree b d _ _ on) u.stands,
        subst (λ n. Block d y (length b) n q exit) (sym at) second,
        subst (λ n. slice_get d n ≡ Some (Split p q)) (sym at) w.stands.2,
        ap length e ∙ length_pushed c (Split p q) ∙ ap (λ n. n + 1) (sym at),
      );
    }

-- copies
pub copies_none : (a : List Node) (x : Expr) (exit : ℕ) → WritesCopies a a x 0 exit exit
copies_none a x exit = record { keeps = kept_all a; stands = (refl, refl) }

pub copies_more : (a b c : List Node) (x : Expr) (n entry m exit : ℕ) → WritesCopies a b x n m exit → Writes b c x entry m → WritesCopies a c x (suc n) entry exit
copies_more a b c x n entry m exit p q = record {
  keeps = kept_on a b c p.keeps q.keeps;
  stands = (length b, m, (copies_carried b c (Block b x) (Block c x) (nodes_of x) (block_takes b x) (block_carried b c x) n).by _ _ m exit (kept_agree b c _ _ q.keeps) p.stands, q.stands);
}

-- what may be left out
pub options_none : (a : List Node) (x : Expr) (exit : ℕ) → WritesOptions a a x 0 exit exit
options_none a x exit = record { keeps = kept_all a; stands = (refl, refl) }

pub options_more : (a b c d : List Node) (x : Expr) (n p m entry exit : ℕ) → WritesOptions a b x n m exit → Writes b c x p m → d ≡ c ++ Split p exit ∷ [] → entry ≡ length c → WritesOptions a d x (suc n) entry exit
options_more a b c d x n p m entry exit u v e at =
    let w = writes_one c d (Split p exit) entry 0 e at in
    let on = kept_on b c d v.keeps w.keeps in
    let second = (block_carried c d x).by _ _ p m (kept_agree c d _ _ w.keeps) v.stands in
    record {
      keeps = kept_on a b d u.keeps on;
      stands = (
        length b,
        m,
        p,
        (options_carried b d (Block b x) (Block d x) (nodes_of x) (block_takes b x) (block_carried b d x) n).by _ _ m exit (kept_agree b d _ _ on) u.stands,
        subst (λ k. Block d x (length b) k p m) (sym at) second,
        subst (λ k. slice_get d k ≡ Some (Split p exit)) (sym at) w.stands.2,
        ap length e ∙ length_pushed c (Split p exit) ∙ ap (λ k. k + 1) (sym at),
      );
    }

-- a repeat
pub writes_repeat : (a b c : List Node) (x : Expr) (least : ℕ) (most : Option ℕ) (entry m exit : ℕ) → Adds a b (Rest b (Block b x) least most) m exit → WritesCopies b c x least entry m → Writes a c (repeat x least most) entry exit
writes_repeat a b c x least most entry m exit p q = record {
  keeps = kept_on a b c p.keeps q.keeps;
  stands = (
    length b,
    m,
    (rest_carried b c (Block b x) (Block c x) (nodes_of x) (block_takes b x) (block_carried b c x) least most).by _ _ m exit (kept_agree b c _ _ q.keeps) p.stands,
    q.stands,
  );
}

get_set_same : (ns : List Node) (k : ℕ) (x : Node) → k < length ns → slice_get (set ns k x) k ≡ Some x
get_set_same ns k x lt = slice_get-get_or (set ns k x) k x (omega (arith, length-set ns k x)) ∙ ap (λ y. Some y) (get_or-set_same ns k x x lt)

get_set_other : (ns : List Node) (k q : ℕ) (x node : Node) → q ≢ k → slice_get ns q ≡ Some node → slice_get (set ns k x) q ≡ Some node
get_set_other ns k q x node ne e =
    let lt = slice_get_within ns q node e in
    slice_get-get_or (set ns k x) q node (omega (arith, length-set ns k x)) ∙ ap (λ y. Some y) (get_or-set_other ns k q x node ne ∙ get_or_from_slice_get ns q node node e)

-- a loop, whose node is filled in when what it repeats stands
pub writes_loop : (a b c d : List Node) (x : Expr) (p entry exit : ℕ) → b ≡ a ++ Accept ∷ [] → entry ≡ length a → Writes b c x p entry → d ≡ set c entry (Split p exit) → WritesLoop a d x entry exit
writes_loop a b c d x p entry exit e at w f =
    let len : length b ≡ length a + 1 = ap length e ∙ length_pushed a Accept in
    let here : slice_get c entry ≡ Some Accept = w.keeps.by entry Accept (rw (e, at) (get_pushed a Accept)) in
    let lt : entry < length c = slice_get_within c entry Accept here in
    let long : length d ≡ length c = ap length f ∙ length-set c entry (Split p exit) in
    let other : (q : ℕ) (node : Node) → q ≢ entry → slice_get c q ≡ Some node → slice_get d q ≡ Some node =
    λ q node ne g. ap (λ l. slice_get l q) f ∙ get_set_other c entry q (Split p exit) node ne g in
    record {
      keeps = record {
        by = λ q node g.
            let below : q < length a = slice_get_within a q node g in
            other q node (λ same. omega (arith, same, at, below)) (w.keeps.by q node (ap (λ l. slice_get l q) e ∙ (kept_push a Accept).by q node g));
      };
      stands = (
        p,
        at,
        ap (λ l. slice_get l (length a)) f ∙ subst (λ k. slice_get (set c entry (Split p exit)) k ≡ Some (Split p exit)) at (get_set_same c entry (Split p exit) lt),
        subst (λ k. Block d x (length a + 1) k p (length a)) (sym long)
            (subst (λ k. Block d x (length a + 1) (length c) p k) at
            ((block_carried c d x).by (length a + 1) (length c) p entry
            (record { by = λ q node le bound g. other q node (λ same. omega (arith, same, at, le)) g })
            (subst (λ k. Block c x k (length c) p entry) len w.stands))),
      );
    }

-- copies of what takes no node
pub copies_of_none : (b : List Node) (x : Expr) (at entry : ℕ) (n from : ℕ) (exit : ℕ) → Block b x at at entry entry → Copies (Block b x) n from at entry exit → (k : ℕ) → n ≤ k → Copies (Block b x) k from at entry exit
copies_of_none b x at entry n from exit e c zero le = let none : n ≡ 0 = omega (arith, le) in subst (λ m. Copies (Block b x) m from at entry exit) none c
copies_of_none b x at entry n from exit e c (suc k) le = elim (cases_eq n (suc k)) [
  | inl same ↦ subst (λ m. Copies (Block b x) m from at entry exit) same c
  | inr other ↦ (at, entry, copies_of_none b x at entry n from exit e c k (omega arith), e)
]

-- what takes no node goes on at once
pub record PassesNone (B : Layout) (s : ℕ) : Type 0 where
  pub by : s ≡ 0 → (at entry exit : ℕ) → B at at entry exit → entry ≡ exit

copies_pass_none : (B : Layout) (s : ℕ) → Takes B s → PassesNone B s → (n at to entry exit : ℕ) → n * s ≡ 0 → to ≡ at → Copies B n at to entry exit → entry ≡ exit
copies_pass_none B s t h zero at to entry exit none same c = c.1
copies_pass_none B s t h (suc n) at to entry exit none same (m, b, c, d) =
    let e : suc n * s ≡ n * s + s = suc-mul n s in
    let zero_s : s ≡ 0 = omega (arith, e, none) in
    let up : m ≡ at + n * s = copies_take B s t n at m b exit c in
    let m_at : m ≡ at = omega (arith, up, e, none) in
    h.by zero_s at entry b (subst (λ z. B z at entry b) m_at (subst (λ z. B m z entry b) same d)) ∙ copies_pass_none B s t h n at m b exit (omega (arith, e, none)) m_at c

options_pass_none : (ns : List Node) (B : Layout) (n at to entry exit : ℕ) → to ≡ at → (s : ℕ) → Takes B s → Options ns B n at to entry exit → entry ≡ exit
options_pass_none ns B zero at to entry exit same s t c = c.1
options_pass_none ns B (suc n) at to entry exit same s t (m, b, c, d, e, f, g) =
    let up = options_take ns B s t n at m b exit d in
    let over = t.by m entry c b e in absurd (omega (arith, up, over, g, same))

single_pass_none : (ns : List Node) (node : Node) (at entry exit : ℕ) → Single ns node at at entry exit → entry ≡ exit
single_pass_none ns node at entry exit (b, c, d) = absurd (omega arith)

block_passes_none : (ns : List Node) (e : Expr) (at entry exit : ℕ) → Block ns e at at entry exit → entry ≡ exit
block_passes_none ns (byte c) at entry exit b = single_pass_none ns (Byte c exit) at entry exit b
block_passes_none ns any at entry exit b = single_pass_none ns (Any exit) at entry exit b
block_passes_none ns (expr.set n es) at entry exit (s, h, b) = single_pass_none ns (OneOf s exit) at entry exit b
block_passes_none ns at_begin at entry exit b = single_pass_none ns (Begin exit) at entry exit b
block_passes_none ns at_end at entry exit b = single_pass_none ns (End exit) at entry exit b
block_passes_none ns (both x y) at entry exit (m, b, p, q) =
    let up = (block_takes ns y).by at m b exit p in
    let over = (block_takes ns x).by m at entry b q in
    let same : m ≡ at = omega (arith, up, over) in
    block_passes_none ns x at entry b (subst (λ z. Block ns x z at entry b) same q) ∙ block_passes_none ns y at b exit (subst (λ z. Block ns y at z b exit) same p)
block_passes_none ns (either x y) at entry exit (m, b, c, p, q, f, t) =
    let up = (block_takes ns x).by at m b exit p in
    let over = (block_takes ns y).by m entry c exit q in absurd (omega (arith, up, over, t))
block_passes_none ns (repeat x least most) at entry exit (m, b, p, q) =
    let s = nodes_of x in
    let t = block_takes ns x in
    let h : PassesNone (Block ns x) s = record { by = λ none k en ex blk. block_passes_none ns x k en ex blk } in
    let up = rest_up ns (Block ns x) s t least most at m b exit p in
    let over = copies_take (Block ns x) s t least m at entry b q in
    let same : m ≡ at = omega (arith, up, over) in
    copies_pass_none (Block ns x) s t h least m at entry b (omega (arith, up, over)) (sym same) q
    ∙ rest_passes_none ns (Block ns x) s t least most at m b exit same p
  where
    rest_passes_none : (ns : List Node) (B : Layout) (s : ℕ) → Takes B s → (least : ℕ) (most : Option ℕ) (at to entry exit : ℕ) → to ≡ at → Rest ns B least most at to entry exit → entry ≡ exit
    rest_passes_none ns B s t least None at to entry exit same (c, d, e, f) = let over = t.by (at + 1) to c at f in absurd (omega (arith, over, same))
    rest_passes_none ns B s t least (Some most) at to entry exit same o = options_pass_none ns B (most - least) at to entry exit same s t o

passes_none : (ns : List Node) (e : Expr) (at entry exit : ℕ) → Block ns e at at entry exit → entry ≡ exit
passes_none ns e at entry exit b = block_passes_none ns e at entry exit b

-- with what the calls answer
pub either_of : (a b c d : List Node) (x y : Expr) (p q : ℕ) (r : Result ℕ AllocError) (exit : ℕ) → Writes a b x p exit → Writes b c y q exit → IfOk r (λ entry. (d ≡ c ++ Split p q ∷ []) × (entry ≡ length c)) → IfOk r (λ entry. Writes a d (either x y) entry exit)
either_of a b c d x y p q (Ok entry) exit u v (e, at) = writes_either a b c d x y p q entry exit u v e at
either_of a b c d x y p q (Err f) exit u v w = tt

pub repeat_of : (a b c : List Node) (x : Expr) (least : ℕ) (most : Option ℕ) (r : Result ℕ AllocError) (m exit : ℕ) → WritesRest a b x least most m exit → IfOk r (λ entry. WritesCopies b c x least entry m) → IfOk r (λ entry. Writes a c (repeat x least most) entry exit)
repeat_of a b c x least most (Ok entry) m exit u v = writes_repeat a b c x least most entry m exit u v
repeat_of a b c x least most (Err f) m exit u v = tt

-- a copy that takes no node stands for all that are left
pub copies_stop : (a b c : List Node) (x : Expr) (n k entry m exit : ℕ) → WritesCopies a b x n m exit → Writes b c x entry m → n < k → length c ≡ length b → WritesCopies a c x k entry exit
copies_stop a b c x n k entry m exit p q lt same = record {
  keeps = kept_on a b c p.keeps q.keeps;
  stands =
      let block = subst (λ z. Block c x (length b) z entry m) same q.stands in
      let through : entry ≡ m = passes_none c x (length b) entry m block in
      let before = (copies_carried b c (Block b x) (Block c x) (nodes_of x) (block_takes b x) (block_carried b c x) n).by _ _ m exit (kept_agree b c _ _ q.keeps) p.stands in
      let all = copies_of_none c x (length b) m n (length a) exit (subst (λ z. Block c x (length b) (length b) z m) through block) before k (omega arith) in
      subst (λ z. Copies (Block c x) k (length a) z entry exit) (sym same) (subst (λ z. Copies (Block c x) k (length a) (length b) z exit) (sym through) all);
}

pub copies_next : (a b c : List Node) (x : Expr) (n entry m exit : ℕ) → WritesCopies a b x n m exit → Writes b c x entry m → WritesCopies a c x (n + 1) entry exit
copies_next a b c x n entry m exit p q = let e : suc n ≡ n + 1 = omega arith in subst (λ k. WritesCopies a c x k entry exit) e (copies_more a b c x n entry m exit p q)

pub options_next : (a b c d : List Node) (x : Expr) (n p m entry exit : ℕ) → WritesOptions a b x n m exit → Writes b c x p m → d ≡ c ++ Split p exit ∷ [] → entry ≡ length c → WritesOptions a d x (n + 1) entry exit
options_next a b c d x n p m entry exit u v e at = let f : suc n ≡ n + 1 = omega arith in subst (λ k. WritesOptions a d x k entry exit) f (options_more a b c d x n p m entry exit u v e at)

-- How many nodes are written

pub takes_of : (old new : List Node) (e : Expr) (entry exit : ℕ) → Writes old new e entry exit → length new ≡ length old + nodes_of e
takes_of old new e entry exit w = (block_takes new e).by (length old) (length new) entry exit w.stands

pub copies_take_of : (old new : List Node) (x : Expr) (n entry exit : ℕ) → WritesCopies old new x n entry exit → length new ≡ length old + n * nodes_of x
copies_take_of old new x n entry exit w = copies_take (Block new x) (nodes_of x) (block_takes new x) n (length old) (length new) entry exit w.stands

pub options_take_of : (old new : List Node) (x : Expr) (n entry exit : ℕ) → WritesOptions old new x n entry exit → length new ≡ length old + n * (nodes_of x + 1)
options_take_of old new x n entry exit w = options_take new (Block new x) (nodes_of x) (block_takes new x) n (length old) (length new) entry exit w.stands

pub rest_takes_of : (old new : List Node) (x : Expr) (least : ℕ) (most : Option ℕ) (entry exit : ℕ) → WritesRest old new x least most entry exit → length new ≡ length old + nodes_of_rest (nodes_of x) least most
rest_takes_of old new x least None entry exit w =
    let over = (block_takes new x).by (length old + 1) (length new) w.stands.0 (length old) w.stands.3 in omega (arith, over)
rest_takes_of old new x least (Some most) entry exit w = options_take new (Block new x) (nodes_of x) (block_takes new x) (most - least) (length old) (length new) entry exit w.stands

pub repeat_parts : (s least : ℕ) (most : Option ℕ) → size_of_repeat s least most ≡ least * s + nodes_of_rest s least most
repeat_parts s least None = omega arith
repeat_parts s least (Some most) = refl

-- one more copy is still within the count
pub one_more : (n count s : ℕ) → n < count → n * s + s ≤ count * s
one_more n count s lt =
    let e : suc n * s ≡ n * s + s = suc-mul n s in
    let m : suc n * s ≤ count * s = mul-le (suc n) s count s (omega arith) (omega arith) in omega arith

-- one node is written
pub one_of : (a d : List Node) (node : Node) (B : Layout) (r : Result ℕ AllocError) (exit : ℕ) → ((entry : ℕ) → Single d node (length a) (length d) entry exit → B (length a) (length d) entry exit)
    → IfOk r (λ entry. (d ≡ a ++ node ∷ []) × (entry ≡ length a)) → IfOk r (λ entry. Adds a d B entry exit)
one_of a d node B (Ok entry) exit f (e, at) = let w = writes_one a d node entry exit e at in record { keeps = w.keeps; stands = f entry w.stands }
one_of a d node B (Err x) exit f w = tt

pub ruleset writing_rules = (writes_one, writes_both, writes_either, writes_repeat)
