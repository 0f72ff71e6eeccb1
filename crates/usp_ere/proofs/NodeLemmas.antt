-- The nodes find what the expression does, and as many nodes are enough as its size says.
use Rattle.std.proofs.Common.{◌≡◌, ℕ, zero, suc, ◌+◌, ◌-◌, ◌*◌, ◌<◌, ◌≤◌, inl, inr, refl, sym, ◌∙◌, subst, arith, ⊎_elim, List, Option, Some, None}
use Rattle.std.specs.Prelude.{slice_get}
use Rattle.usp_ere.specs.Expression.{Expr, byte, any, set, at_begin, at_end, both, either, repeat, IsAtMost, nodes_of, size_of_repeat}
use Rattle.usp_ere.specs.Places.{Rounds, Spans}
use Rattle.std.specs.Prelude.{slice_index, length, IsTrue}
use Rattle.usp_ere.specs.declared.nodes.Node.{Node}
use Rattle.usp_ere.specs.declared.nodes.Node.TheVariants.{Accept, Byte, Any, OneOf, Begin, End, Split}
use Rattle.usp_ere.specs.declared.bytes.ByteSet.{ByteSet}
use Rattle.usp_ere.specs.Bytes.{holds}
use Rattle.usp_ere.specs.Nodes.{NodeGoes, Path, Layout, Copies, Options, Rest, Single, Block, IsInOrder, IsText}

-- a block takes so many nodes
pub record Takes (B : Layout) (s : ℕ) : Type 0 where
  pub by : (from to entry exit : ℕ) → B from to entry exit → to ≡ from + s

next_times : (n s : ℕ) → suc n * s ≡ s + n * s
next_times n s = omega arith

pub copies_take : (B : Layout) (s : ℕ) → Takes B s → (n from to entry exit : ℕ) → Copies B n from to entry exit → to ≡ from + n * s
copies_take B s h zero from to entry exit c = omega (arith, c.0)
copies_take B s h (suc n) from to entry exit (m, b, c, d) =
    omega (arith, copies_take B s h n from m b exit c, h.by m to entry b d, next_times n s)

pub options_take : (ns : List Node) (B : Layout) (s : ℕ) → Takes B s → (n from to entry exit : ℕ) → Options ns B n from to entry exit → to ≡ from + n * (s + 1)
options_take ns B s h zero from to entry exit c = omega (arith, c.0)
options_take ns B s h (suc n) from to entry exit (m, b, c, d, e, f, g) =
    omega (arith, options_take ns B s h n from m b exit d, h.by m entry c b e, next_times n (s + 1), g)

repeat_takes : (ns : List Node) (B : Layout) (s : ℕ) → Takes B s → (least : ℕ) (most : Option ℕ) (from to entry exit m b : ℕ) → Rest ns B least most from m b exit → Copies B least m to entry b → to ≡ from + size_of_repeat s least most
repeat_takes ns B s h least None from to entry exit m b (c, d, e, f) k =
    omega (arith, h.by (from + 1) m c from f, copies_take B s h least m to entry b k)
repeat_takes ns B s h least (Some most) from to entry exit m b r k =
    omega (arith, options_take ns B s h (most - least) from m b exit r, copies_take B s h least m to entry b k)

-- the block of an expression takes as many nodes as its size says
pub block_takes : (ns : List Node) (e : Expr) → Takes (Block ns e) (nodes_of e)
block_takes ns (byte c) = record { by = λ from to entry exit b. b.1 }
block_takes ns any = record { by = λ from to entry exit b. b.1 }
block_takes ns (set n es) = record { by = λ from to entry exit (s, h, b). b.1 }
block_takes ns at_begin = record { by = λ from to entry exit b. b.1 }
block_takes ns at_end = record { by = λ from to entry exit b. b.1 }
block_takes ns (both x y) = record {
  by = λ from to entry exit (m, b, p, q).
      omega (arith, (block_takes ns y).by from m b exit p, (block_takes ns x).by m to entry b q);
}
block_takes ns (either x y) = record {
  by = λ from to entry exit (m, b, c, p, q, r, t).
      omega (arith, (block_takes ns x).by from m b exit p, (block_takes ns y).by m entry c exit q, t);
}
block_takes ns (repeat x least most) = record {
  by = λ from to entry exit (m, b, p, q).
      repeat_takes ns (Block ns x) (nodes_of x) (block_takes ns x) least most from to entry exit m b p q;
}

-- Paths

abbrev pub Reaches : List ℕ → List Node → ℕ → ℕ → ℕ → ℕ → Type 0
Reaches u ns q i r j = (n : ℕ) × Path u ns n q i r j

reaches_then : (u : List ℕ) (ns : List Node) (m q i r j s l : ℕ) → Path u ns m q i r j → Reaches u ns r j s l → Reaches u ns q i s l
reaches_then u ns zero q i r j s l p h = subst (λ k. Reaches u ns q k s l) (sym p.1) (subst (λ k. Reaches u ns k j s l) (sym p.0) h)
reaches_then u ns (suc m) q i r j s l (t, k, go, p) h = let w = reaches_then u ns m t k r j s l p h in (suc w.0, (t, k, go, w.1))

stays : (u : List ℕ) (ns : List Node) (q r i j : ℕ) → q ≡ r → i ≡ j → Reaches u ns q i r j
stays u ns q r i j e f = (0, (e, f))

goes : (u : List ℕ) (ns : List Node) (q : ℕ) (node : Node) (i s l r j : ℕ) → slice_get ns q ≡ Some node → NodeGoes u (Some node) i s l → Reaches u ns s l r j → Reaches u ns q i r j
goes u ns q node i s l r j e g (n, p) = (suc n, (s, l, subst (λ o. NodeGoes u o i s l) (sym e) g, p))

rounds_append : (R : ℕ → ℕ → Type 0) (m n t i k j : ℕ) → t ≡ m + n → Rounds R m i k → Rounds R n k j → Rounds R t i j
rounds_append R zero n t i k j e p q = let same : n ≡ t = omega arith in subst (λ x. Rounds R x i j) same (subst (λ x. Rounds R n x j) (sym p) q)
rounds_append R (suc m) n zero i k j e p q = absurd (omega arith)
rounds_append R (suc m) n (suc t) i k j e (l, r, p) q = (l, r, rounds_append R m n t l k j (omega arith) p q)

rounds_cut : (R : ℕ → ℕ → Type 0) (m n t i j : ℕ) → t ≡ m + n → Rounds R t i j → (k : ℕ) × Rounds R m i k × Rounds R n k j
rounds_cut R zero n t i j e p = let same : t ≡ n = omega arith in (i, refl, subst (λ x. Rounds R x i j) same p)
rounds_cut R (suc m) n zero i j e p = absurd (omega arith)
rounds_cut R (suc m) n (suc t) i j e (l, r, p) = let w = rounds_cut R m n t l j (omega arith) p in (w.0, (l, r, w.1), w.2)

-- what is in a language is a path through each of its blocks
pub record Passes (u : List ℕ) (ns : List Node) (B : Layout) (R : ℕ → ℕ → Type 0) : Type 0 where
  pub by : (from to entry exit : ℕ) → B from to entry exit → (i j : ℕ) → R i j → Reaches u ns entry i exit j

copies_pass : (u : List ℕ) (ns : List Node) (B : Layout) (R : ℕ → ℕ → Type 0) → Passes u ns B R → (n from to entry exit : ℕ) → Copies B n from to entry exit → (i j : ℕ) → Rounds R n i j → Reaches u ns entry i exit j
copies_pass u ns B R h zero from to entry exit c i j r = stays u ns entry exit i j c.1 r
copies_pass u ns B R h (suc n) from to entry exit (m, b, c, d) i j (l, r, rs) =
    let p = h.by m to entry b d i l r in
    reaches_then u ns p.0 entry i b l exit j p.1 (copies_pass u ns B R h n from m b exit c l j rs)

options_pass : (u : List ℕ) (ns : List Node) (B : Layout) (R : ℕ → ℕ → Type 0) → Passes u ns B R → (n from to entry exit : ℕ) → Options ns B n from to entry exit → (k i j : ℕ) → k ≤ n → Rounds R k i j → Reaches u ns entry i exit j
options_pass u ns B R h zero from to entry exit c zero i j le r = stays u ns entry exit i j c.1 r
options_pass u ns B R h zero from to entry exit c (suc k) i j le r = absurd (omega arith)
options_pass u ns B R h (suc n) from to entry exit (m, b, c, d, e, f, g) zero i j le r =
    goes u ns entry (Split c exit) i exit i exit j f (refl, inr refl) (stays u ns exit exit i j refl r)
options_pass u ns B R h (suc n) from to entry exit (m, b, c, d, e, f, g) (suc k) i j le (l, r, rs) =
    let p = h.by m entry c b e i l r in
    goes u ns entry (Split c exit) i c i exit j f (refl, inl refl)
    (reaches_then u ns p.0 c i b l exit j p.1 (options_pass u ns B R h n from m b exit d k l j (omega arith) rs))

loop_passes : (u : List ℕ) (ns : List Node) (B : Layout) (R : ℕ → ℕ → Type 0) → Passes u ns B R → (from to exit c : ℕ) → slice_get ns from ≡ Some (Split c exit) → B (from + 1) to c from → (k i j : ℕ) → Rounds R k i j → Reaches u ns from i exit j
loop_passes u ns B R h from to exit c f b zero i j r = goes u ns from (Split c exit) i exit i exit j f (refl, inr refl) (stays u ns exit exit i j refl r)
loop_passes u ns B R h from to exit c f b (suc k) i j (l, r, rs) =
    let p = h.by (from + 1) to c from b i l r in
    goes u ns from (Split c exit) i c i exit j f (refl, inl refl)
    (reaches_then u ns p.0 c i from l exit j p.1 (loop_passes u ns B R h from to exit c f b k l j rs))

rest_passes : (u : List ℕ) (ns : List Node) (B : Layout) (R : ℕ → ℕ → Type 0) → Passes u ns B R → (least : ℕ) (most : Option ℕ) (from to entry exit : ℕ) → Rest ns B least most from to entry exit → (k i j : ℕ) → IsAtMost (least + k) most → Rounds R k i j → Reaches u ns entry i exit j
rest_passes u ns B R h least None from to entry exit (c, e, f, b) k i j le r =
    subst (λ q. Reaches u ns q i exit j) (sym e) (loop_passes u ns B R h from to exit c f b k i j r)
rest_passes u ns B R h least (Some most) from to entry exit o k i j le r = options_pass u ns B R h (most - least) from to entry exit o k i j (omega arith) r

-- a node that takes what a relation says and goes on to the exit
pub record TakesAll (u : List ℕ) (node : Node) (exit : ℕ) (R : ℕ → ℕ → Type 0) : Type 0 where
  pub by : (i j : ℕ) → R i j → NodeGoes u (Some node) i exit j

pub record TakesOnly (u : List ℕ) (node : Node) (exit : ℕ) (R : ℕ → ℕ → Type 0) : Type 0 where
  pub by : (i r j : ℕ) → NodeGoes u (Some node) i r j → (r ≡ exit) × R i j

one_passes : (u : List ℕ) (ns : List Node) (R : ℕ → ℕ → Type 0) (node : Node) (from to entry exit : ℕ) → TakesAll u node exit R → Single ns node from to entry exit → (i j : ℕ) → R i j → Reaches u ns entry i exit j
one_passes u ns R node from to entry exit h (at, end, f) i j s =
    subst (λ q. Reaches u ns q i exit j) (sym at) (goes u ns from node i exit j exit j f (h.by i j s) (stays u ns exit exit j j refl refl))

-- what is in the expression is a path through its block
pub path_of : (u : List ℕ) → IsText u → (ns : List Node) (e : Expr) → Passes u ns (Block ns e) (Spans u e)
path_of u t ns (byte c) = record { by = λ from to entry exit b i j. one_passes u ns (Spans u (byte c)) (Byte c exit) from to entry exit (record { by = λ k l s. (refl, s.0, s.1, s.2) }) b i j }
path_of u t ns any = record { by = λ from to entry exit b i j. one_passes u ns (Spans u any) (Any exit) from to entry exit (record { by = λ k l s. (refl, s.0, s.1) }) b i j }
path_of u t ns (set n es) = record {
  by = λ from to entry exit (w, h, b) i j. one_passes u ns (Spans u (set n es)) (OneOf w exit) from to entry exit
      (record { by = λ k l s. (refl, s.0, s.1, h.by (slice_index u k) (t.by k s.1) ∙ s.2) }) b i j;
}
path_of u t ns at_begin = record { by = λ from to entry exit b i j. one_passes u ns (Spans u at_begin) (Begin exit) from to entry exit (record { by = λ k l s. (refl, s.0, s.1) }) b i j }
path_of u t ns at_end = record { by = λ from to entry exit b i j. one_passes u ns (Spans u at_end) (End exit) from to entry exit (record { by = λ k l s. (refl, s.0, s.1) }) b i j }
path_of u t ns (both x y) = record {
  by = λ from to entry exit (m, b, p, q) i j (l, s, r).
      let w = (path_of u t ns x).by m to entry b q i l s in
      reaches_then u ns w.0 entry i b l exit j w.1 ((path_of u t ns y).by from m b exit p l j r);
}
path_of u t ns (either x y) = record {
  by = λ from to entry exit (m, b, c, p, q, f, g) i j s. ⊎_elim
      (λ h. goes u ns entry (Split b c) i b i exit j f (refl, inl refl) ((path_of u t ns x).by from m b exit p i j h))
      (λ h. goes u ns entry (Split b c) i c i exit j f (refl, inr refl) ((path_of u t ns y).by m entry c exit q i j h))
      s;
}
path_of u t ns (repeat x least most) = record {
  by = λ from to entry exit (m, b, p, q) i j (n, l, a, r).
      let k = n - least in
      let sum : n ≡ least + k = omega arith in
      let w = rounds_cut (Spans u x) least k n i j sum r in
      let v = copies_pass u ns (Block ns x) (Spans u x) (path_of u t ns x) least m to entry b q i w.0 w.1 in
      reaches_then u ns v.0 entry i b w.0 exit j v.1
      (rest_passes u ns (Block ns x) (Spans u x) (path_of u t ns x) least most from m b exit p k w.0 j (subst (λ z. IsAtMost z most) sum a) w.2);
}

-- a path from the entry to a node below the block goes through its exit
pub record Leaves (u : List ℕ) (ns : List Node) (R : ℕ → ℕ → Type 0) (exit target n i j : ℕ) : Type 0 where
  pub at : ℕ
  pub taken : R i at
  pub left : ℕ
  pub fewer : left ≤ n
  pub others : Path u ns left exit at target j

pub record Holds (u : List ℕ) (ns : List Node) (B : Layout) (R : ℕ → ℕ → Type 0) : Type 0 where
  pub by : (from to entry exit : ℕ) → B from to entry exit → (target : ℕ) → target < from → (n i j : ℕ) → Path u ns n entry i target j → Leaves u ns R exit target n i j

-- the node at the start of a path that is not at its target
first_move : (u : List ℕ) (ns : List Node) (q : ℕ) (node : Node) (n i r j : ℕ) → slice_get ns q ≡ Some node → r < q → Path u ns n q i r j → (m s l : ℕ) × (n ≡ suc m) × NodeGoes u (Some node) i s l × Path u ns m s l r j
first_move u ns q node zero i r j e lt p = absurd (omega (arith, p.0))
first_move u ns q node (suc n) i r j e lt (s, l, g, p) = (n, s, l, refl, subst (λ o. NodeGoes u o i s l) e g, p)

copies_hold : (u : List ℕ) (ns : List Node) (B : Layout) (R : ℕ → ℕ → Type 0) (z : ℕ) → Takes B z → Holds u ns B R → (k from to entry exit : ℕ) → Copies B k from to entry exit → (target : ℕ) → target < from → (n i j : ℕ) → Path u ns n entry i target j → Leaves u ns (Rounds R k) exit target n i j
copies_hold u ns B R z t h zero from to entry exit c target lt n i j p =
    record { at = i; taken = refl; left = n; fewer = omega arith; others = subst (λ q. Path u ns n q i target j) c.1 p }
copies_hold u ns B R z t h (suc k) from to entry exit (m, b, c, d) target lt n i j p =
    let up : target < m = omega (arith, copies_take B z t k from m b exit c) in
    let v = h.by m to entry b d target up n i j p in
    let w = copies_hold u ns B R z t h k from m b exit c target lt v.left v.at j v.others in
    record { at = w.at; taken = (v.at, v.taken, w.taken); left = w.left; fewer = omega (arith, v.fewer, w.fewer); others = w.others }

-- at most so many rounds
abbrev pub UpTo : (ℕ → ℕ → Type 0) → ℕ → ℕ → ℕ → Type 0
UpTo R n i j = (k : ℕ) × (k ≤ n) × Rounds R k i j

options_hold : (u : List ℕ) (ns : List Node) (B : Layout) (R : ℕ → ℕ → Type 0) (z : ℕ) → Takes B z → Holds u ns B R → (k from to entry exit : ℕ) → Options ns B k from to entry exit → (target : ℕ) → target < from → (n i j : ℕ) → Path u ns n entry i target j → Leaves u ns (UpTo R k) exit target n i j
options_hold u ns B R z t h zero from to entry exit c target lt n i j p =
    record { at = i; taken = (0, omega arith, refl); left = n; fewer = omega arith; others = subst (λ q. Path u ns n q i target j) c.1 p }
options_hold u ns B R z t h (suc k) from to entry exit (m, b, c, d, e, f, g) target lt n i j p =
    let up : target < m = omega (arith, options_take ns B z t k from m b exit d) in
    let high : target < entry = omega (arith, t.by m entry c b e) in
    let w = first_move u ns entry (Split c exit) n i target j f high p in
    ⊎_elim
    (λ into.
    let start = subst (λ q. Path u ns w.0 q w.2 target j) into w.5 in
    let v = h.by m entry c b e target up w.0 w.2 j start in
    let r = options_hold u ns B R z t h k from m b exit d target lt v.left v.at j v.others in
    record {
      at = r.at;
      taken = (suc r.taken.0, omega (arith, r.taken.1), subst (λ x. Rounds R (suc r.taken.0) x r.at) w.4.0 (v.at, v.taken, r.taken.2));
      left = r.left;
      fewer = omega (arith, v.fewer, r.fewer, w.3);
      others = r.others;
    })
    (λ out. record {
      at = i;
      taken = (0, omega arith, refl);
      left = w.0;
      fewer = omega (arith, w.3);
      others = subst (λ x. Path u ns w.0 exit x target j) w.4.0 (subst (λ q. Path u ns w.0 q w.2 target j) out w.5);
    })
    w.4.1

abbrev pub Some_rounds : (ℕ → ℕ → Type 0) → ℕ → ℕ → Type 0
Some_rounds R i j = (k : ℕ) × Rounds R k i j

loop_holds : (u : List ℕ) (ns : List Node) (B : Layout) (R : ℕ → ℕ → Type 0) → Holds u ns B R → (from to exit c : ℕ) → slice_get ns from ≡ Some (Split c exit) → B (from + 1) to c from → (target : ℕ) → target < from → (fuel n i j : ℕ) → n ≤ fuel → Path u ns n from i target j → Leaves u ns (Some_rounds R) exit target n i j
loop_holds u ns B R h from to exit c f b target lt zero n i j le p =
    let w = first_move u ns from (Split c exit) n i target j f lt p in absurd (omega (arith, w.3))
loop_holds u ns B R h from to exit c f b target lt (suc fuel) n i j le p =
    let w = first_move u ns from (Split c exit) n i target j f lt p in
    ⊎_elim
    (λ into.
    let start = subst (λ q. Path u ns w.0 q w.2 target j) into w.5 in
    let v = h.by (from + 1) to c from b target (omega arith) w.0 w.2 j start in
    let r = loop_holds u ns B R h from to exit c f b target lt fuel v.left v.at j (omega (arith, v.fewer, w.3)) v.others in
    record {
      at = r.at;
      taken = (suc r.taken.0, subst (λ x. Rounds R (suc r.taken.0) x r.at) w.4.0 (v.at, v.taken, r.taken.1));
      left = r.left;
      fewer = omega (arith, v.fewer, r.fewer, w.3);
      others = r.others;
    })
    (λ out. record {
      at = i;
      taken = (0, refl);
      left = w.0;
      fewer = omega (arith, w.3);
      others = subst (λ x. Path u ns w.0 exit x target j) w.4.0 (subst (λ q. Path u ns w.0 q w.2 target j) out w.5);
    })
    w.4.1

abbrev pub RestRounds : (ℕ → ℕ → Type 0) → ℕ → Option ℕ → ℕ → ℕ → Type 0
RestRounds R least most i j = (k : ℕ) × IsAtMost (least + k) most × Rounds R k i j

rest_holds : (u : List ℕ) (ns : List Node) (B : Layout) (R : ℕ → ℕ → Type 0) (z : ℕ) → Takes B z → Holds u ns B R → (least : ℕ) (most : Option ℕ) → IsAtMost least most → (from to entry exit : ℕ) → Rest ns B least most from to entry exit → (target : ℕ) → target < from → (n i j : ℕ) → Path u ns n entry i target j → Leaves u ns (RestRounds R least most) exit target n i j
rest_holds u ns B R z t h least None ok from to entry exit (c, e, f, b) target lt n i j p =
    let w = loop_holds u ns B R h from to exit c f b target lt n n i j (omega arith) (subst (λ q. Path u ns n q i target j) e p) in
    record { at = w.at; taken = (w.taken.0, tt, w.taken.1); left = w.left; fewer = w.fewer; others = w.others }
rest_holds u ns B R z t h least (Some most) ok from to entry exit o target lt n i j p =
    let w = options_hold u ns B R z t h (most - least) from to entry exit o target lt n i j p in
    record { at = w.at; taken = (w.taken.0, omega (arith, w.taken.1), w.taken.2); left = w.left; fewer = w.fewer; others = w.others }

one_holds : (u : List ℕ) (ns : List Node) (R : ℕ → ℕ → Type 0) (node : Node) (from to entry exit : ℕ) → TakesOnly u node exit R → Single ns node from to entry exit → (target : ℕ) → target < from → (n i j : ℕ) → Path u ns n entry i target j → Leaves u ns R exit target n i j
one_holds u ns R node from to entry exit h (at, end, f) target lt n i j p =
    let w = first_move u ns from node n i target j f lt (subst (λ q. Path u ns n q i target j) at p) in
    let v = h.by i w.1 w.2 w.4 in
    record { at = w.2; taken = v.1; left = w.0; fewer = omega (arith, w.3); others = subst (λ q. Path u ns w.0 q w.2 target j) v.0 w.5 }

-- a rest begins below where it ends
rest_up : (ns : List Node) (B : Layout) (s : ℕ) → Takes B s → (least : ℕ) (most : Option ℕ) (from to entry exit : ℕ) → Rest ns B least most from to entry exit → (target : ℕ) → target < from → target < to
rest_up ns B s h least None from to entry exit (c, d, e, f) target lt = omega (arith, h.by (from + 1) to c from f)
rest_up ns B s h least (Some most) from to entry exit r target lt = omega (arith, options_take ns B s h (most - least) from to entry exit r)

-- a path out of the block has gone through what is in the expression
pub spans_of_path : (u : List ℕ) → IsText u → (ns : List Node) (e : Expr) → IsInOrder e → Holds u ns (Block ns e) (Spans u e)
spans_of_path u text ns (byte c) ok = record { by = λ from to entry exit b. one_holds u ns (Spans u (byte c)) (Byte c exit) from to entry exit (record { by = λ i r j s. (s.0, (s.1, s.2, s.3)) }) b }
spans_of_path u text ns any ok = record { by = λ from to entry exit b. one_holds u ns (Spans u any) (Any exit) from to entry exit (record { by = λ i r j s. (s.0, (s.1, s.2)) }) b }
spans_of_path u text ns (set n es) ok = record {
  by = λ from to entry exit (w, h, b). one_holds u ns (Spans u (set n es)) (OneOf w exit) from to entry exit
      (record { by = λ i r j s. (s.0, (s.1, s.2, sym (h.by (slice_index u i) (text.by i s.2)) ∙ s.3)) }) b;
}
spans_of_path u text ns at_begin ok = record { by = λ from to entry exit b. one_holds u ns (Spans u at_begin) (Begin exit) from to entry exit (record { by = λ i r j s. (s.0, (s.1, s.2)) }) b }
spans_of_path u text ns at_end ok = record { by = λ from to entry exit b. one_holds u ns (Spans u at_end) (End exit) from to entry exit (record { by = λ i r j s. (s.0, (s.1, s.2)) }) b }
spans_of_path u text ns (both x y) ok = record {
  by = λ from to entry exit (m, b, p, q) target lt n i j path.
      let up : target < m = omega (arith, (block_takes ns y).by from m b exit p) in
      let v = (spans_of_path u text ns x ok.0).by m to entry b q target up n i j path in
      let w = (spans_of_path u text ns y ok.1).by from m b exit p target lt v.left v.at j v.others in
      record { at = w.at; taken = (v.at, v.taken, w.taken); left = w.left; fewer = omega (arith, v.fewer, w.fewer); others = w.others };
}
spans_of_path u text ns (either x y) ok = record {
  by = λ from to entry exit (m, b, c, p, q, f, t) target lt n i j path.
      let up : target < m = omega (arith, (block_takes ns x).by from m b exit p) in
      let high : target < entry = omega (arith, (block_takes ns y).by m entry c exit q) in
      let w = first_move u ns entry (Split b c) n i target j f high path in
      ⊎_elim
      (λ into.
      let v = (spans_of_path u text ns x ok.0).by from m b exit p target lt w.0 w.2 j (subst (λ z. Path u ns w.0 z w.2 target j) into w.5) in
      record { at = v.at; taken = inl (subst (λ z. Spans u x z v.at) w.4.0 v.taken); left = v.left; fewer = omega (arith, v.fewer, w.3); others = v.others })
      (λ into.
      let v = (spans_of_path u text ns y ok.1).by m entry c exit q target up w.0 w.2 j (subst (λ z. Path u ns w.0 z w.2 target j) into w.5) in
      record { at = v.at; taken = inr (subst (λ z. Spans u y z v.at) w.4.0 v.taken); left = v.left; fewer = omega (arith, v.fewer, w.3); others = v.others })
      w.4.1;
}
spans_of_path u text ns (repeat x least most) ok = record {
  by = λ from to entry exit (m, b, p, q) target lt n i j path.
      let R = Spans u x in
      let takes = block_takes ns x in
      let h = spans_of_path u text ns x ok.1 in
      let up : target < m = rest_up ns (Block ns x) (nodes_of x) takes least most from m b exit p target lt in
      let v = copies_hold u ns (Block ns x) R (nodes_of x) takes h least m to entry b q target up n i j path in
      let w = rest_holds u ns (Block ns x) R (nodes_of x) takes h least most ok.0 from m b exit p target lt v.left v.at j v.others in
      record {
        at = w.at;
        taken = (least + w.taken.0, omega arith, w.taken.1, rounds_append R least w.taken.0 (least + w.taken.0) i v.at w.at refl v.taken w.taken.2);
        left = w.left;
        fewer = omega (arith, v.fewer, w.fewer);
        others = w.others;
      };
}
