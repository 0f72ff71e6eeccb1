-- How a text is searched.
use Rattle.std.proofs.Common.{◌≡◌, ◌≢◌, ℕ, zero, suc, ◌+◌, ◌-◌, ◌<◌, ◌≤◌, ◌⊎◌, ◌||◌, ◌&&◌, inl, inr, refl, sym, ap, ◌∙◌, subst, arith, List, [], ◌∷◌, ◌++◌, Bool, true, false, eq-eqb, length, get_or, drop, take, Option, Some, None, drop-cons, ⊎_elim}
use Rattle.std.specs.Prelude.{slice_get, slice_index, nat_eq, nat_lt}
use Rattle.std.proofs.lemmas.Bool.{cases_eq, cases_lt, true≢false}
use Rattle.std.proofs.lemmas.Option.{slice_get-get_or}
use Rattle.usp_ere.specs.declared.bytes.ByteSet.{ByteSet}
use Rattle.usp_ere.specs.declared.class.Element.{Element}
use Rattle.usp_ere.specs.declared.nodes.Node.{Node}
use Rattle.usp_ere.specs.declared.nodes.Node.TheVariants.{Accept, Byte, Any, OneOf, Begin, End, Split}
use Rattle.usp_ere.specs.declared.course.Places.{Places}
use Rattle.usp_ere.specs.declared.course.Places.TheVariants.{At, Before, Anywhere}
use Rattle.usp_ere.specs.declared.course.Start.{Start}
use Rattle.usp_ere.specs.Bytes.{holds, Holds}
use Rattle.usp_ere.specs.Expression.{Expr, byte, any, set, at_begin, at_end, both, either, repeat, Finds, size_of}
use Rattle.usp_ere.specs.Built.{IsBuilt}
use Rattle.usp_ere.specs.Nodes.{IsText, NodeGoes, Path, Options, Block, Implements}
use Rattle.usp_ere.specs.Places.{Rounds, Spans}
use Rattle.usp_ere.specs.Plans.{IsFront, IsCovered, Leads, IsLed, are_optional, is_optional, IsPart, FindAlike, IsPlanned}
use Rattle.usp_ere.specs.SetText.{begins}
use Rattle.usp_ere.specs.Starts.{starts_at}
use Rattle.usp_ere.specs.Walk.{IsBelow, AreBelow, IsCourse, Accepts}
use Rattle.std.proofs.lemmas.Bool.Decides.{Decides-eqb}
use Rattle.std.proofs.lemmas.List.{length-drop, length-append}
use Rattle.std.proofs.lemmas.Option.{slice_get_within}
use Rattle.std.proofs.lemmas.Slice.Eq.{starts_is}
use Rattle.usp_ere.proofs.BelowLemmas.{below_of, entry_below}
use Rattle.usp_ere.proofs.NodeLemmas.{block_takes}
use Rattle.usp_ere.proofs.PlaceLemmas.{finds_at, places_of}
use Rattle.usp_ere.proofs.RepeatLemmas.{spans_forward, repeats_none}
use Rattle.usp_ere.proofs.NodesFind.{Enters, enters_of, found_of, length_of_nodes, Tells}

-- With what the texts begin

pub front_byte : (bs : ByteSet) (c : ℕ) → holds bs c ≡ true → IsFront false bs (byte c)
front_byte bs c h = record { by = λ u t i j s. inr (s.1, ap (holds bs) s.2 ∙ h) }

pub front_any : (bs : ByteSet) → ((b : ℕ) → b < 256 → holds bs b ≡ true) → IsFront false bs any
front_any bs h = record { by = λ u t i j s. inr (s.1, h (slice_index u i) (t.by i s.1)) }

pub front_set : (bs : ByteSet) (negated : Bool) (es : List Element) → Holds bs negated es → IsFront false bs (set negated es)
front_set bs negated es h = record { by = λ u t i j s. inr (s.1, h.by (slice_index u i) (t.by i s.1) ∙ s.2) }

pub front_begin : (empty : Bool) (bs : ByteSet) → empty ≡ true → IsFront empty bs at_begin
front_begin empty bs e = record { by = λ u t i j s. inl (s.0, e) }

pub front_end : (empty : Bool) (bs : ByteSet) → empty ≡ true → IsFront empty bs at_end
front_end empty bs e = record { by = λ u t i j s. inl (s.0, e) }

pub front_first : (empty : Bool) (bs : ByteSet) (x y : Expr) → empty ≡ false → IsFront empty bs x → IsFront empty bs (both x y)
front_first empty bs x y e f = record {
  by = λ u t i j (m, p, q). elim (f.by u t i m p) [
    | inl none ↦ absurd (true≢false (sym none.1 ∙ e))
    | inr some ↦ inr some
  ];
}

-- the bytes of both
pub record Joins (a b c : ByteSet) : Type 0 where
  pub first : (d : ℕ) → holds a d ≡ true → holds c d ≡ true
  pub second : (d : ℕ) → holds b d ≡ true → holds c d ≡ true

both_joined : (xe ye : Bool) (a b c : ByteSet) (x y : Expr) → Joins a b c → IsFront xe a x → IsFront ye b y → IsFront ye c (both x y)
both_joined xe ye a b c x y k f g = record {
  by = λ u t i j (m, p, q). elim (f.by u t i m p) [
    | inl none ↦ elim (g.by u t m j q) [
      | inl rest ↦ inl (rest.0 ∙ none.0, rest.1)
      | inr some ↦ inr (subst (λ n. (n < length u) × (holds c (slice_index u n) ≡ true)) none.0 (some.0, k.second (slice_index u m) some.1))
    ]
    | inr some ↦ inr (some.0, k.first (slice_index u i) some.1)
  ];
}

pub front_both : (xe ye : Bool) (a b c : ByteSet) (x y : Expr) → ((d : ℕ) → holds a d ≡ true → holds c d ≡ true) → ((d : ℕ) → holds b d ≡ true → holds c d ≡ true)
    → IsFront xe a x → IsFront ye b y → IsFront ye c (both x y)
front_both xe ye a b c x y first second f g = both_joined xe ye a b c x y (record { first = first; second = second }) f g

or_left : (a b : Bool) → a ≡ true → a || b ≡ true
or_left a b e = rw e refl

or_right : (a b : Bool) → b ≡ true → a || b ≡ true
or_right true b e = refl
or_right false b e = e

pub front_either : (xe ye : Bool) (a b c : ByteSet) (x y : Expr) → ((d : ℕ) → holds a d ≡ true → holds c d ≡ true) → ((d : ℕ) → holds b d ≡ true → holds c d ≡ true)
    → IsFront xe a x → IsFront ye b y → IsFront (xe || ye) c (either x y)
front_either xe ye a b c x y first second f g = record {
  by = λ u t i j s. ⊎_elim
      (λ p. elim (f.by u t i j p) [ inl none ↦ inl (none.0, or_left xe ye none.1) | inr some ↦ inr (some.0, first (slice_index u i) some.1) ])
      (λ q. elim (g.by u t i j q) [ inl none ↦ inl (none.0, or_right xe ye none.1) | inr some ↦ inr (some.0, second (slice_index u i) some.1) ])
      s;
}

rounds_front : (empty : Bool) (bs : ByteSet) (x : Expr) → IsFront empty bs x → (u : List ℕ) → IsText u → (n i j : ℕ) → Rounds (Spans u x) n i j
    → ((j ≡ i) × ((empty ≡ true) ⊎ (n ≡ 0))) ⊎ ((i < length u) × (holds bs (slice_index u i) ≡ true))
rounds_front empty bs x f u t zero i j r = inl (sym r, inr refl)
rounds_front empty bs x f u t (suc n) i j (m, p, rs) = elim (f.by u t i m p) [
  | inl none ↦ elim (rounds_front empty bs x f u t n m j rs) [
    | inl rest ↦ inl (rest.0 ∙ none.0, inl none.1)
    | inr some ↦ inr (subst (λ k. (k < length u) × (holds bs (slice_index u k) ≡ true)) none.0 some)
  ]
  | inr some ↦ inr some
]

pub front_repeat : (empty : Bool) (bs : ByteSet) (x : Expr) (least : ℕ) (most : Option ℕ) → IsFront empty bs x → IsFront (empty || nat_eq least 0) bs (repeat x least most)
front_repeat empty bs x least most f = record {
  by = λ u t i j (n, l, a, r). elim (rounds_front empty bs x f u t n i j r) [
    | inl none ↦ inl (none.0, ⊎_elim (λ e. or_left empty (nat_eq least 0) e) (λ z. or_right empty (nat_eq least 0) (eq-eqb least 0 (omega arith))) none.1)
    | inr some ↦ inr some
  ];
}

-- Where they begin

pub covered_once : (e : Expr) → ((u : List ℕ) (i j : ℕ) → Spans u e i j → i ≡ 0) → IsCovered (At 0) e
covered_once e h = record { by = λ u t i j le s. eq-eqb i 0 (h u i j s) }

pub covered_anywhere : (e : Expr) → IsCovered Anywhere e
covered_anywhere e = record { by = λ u t i j le s. refl }

pub covered_before : (empty : Bool) (bs : ByteSet) (e : Expr) → empty ≡ false → IsFront empty bs e → IsCovered (Before bs) e
covered_before empty bs e never f = record {
  by = λ u t i j le s. elim (f.by u t i j s) [
    | inl none ↦ absurd (true≢false (sym none.1 ∙ never))
    | inr some ↦ ap (starts_at (Before bs) i) (slice_get-get_or u i 0 some.0) ∙ some.1
  ];
}

-- A literal

-- the node at the start of a path to the node 0
moved : (u : List ℕ) (ns : List Node) (q : ℕ) (node : Node) (n i j : ℕ) → slice_get ns 0 ≡ Some Accept → slice_get ns q ≡ Some node → (node ≡ Accept → ⊥) → Path u ns n q i 0 j
    → (m s l : ℕ) × NodeGoes u (Some node) i s l × Path u ns m s l 0 j
moved u ns q node zero i j acc is ne p =
    let e : slice_get ns 0 ≡ Some node = subst (λ k. slice_get ns k ≡ Some node) p.0 is in
    let h : node ≡ Accept = cc in absurd (ne h)
moved u ns q node (suc n) i j acc is ne (s, l, g, p) = (n, s, l, subst (λ o. NodeGoes u o i s l) is g, p)

byte_no_accept : (c s : ℕ) → Byte c s ≡ Accept → ⊥
byte_no_accept c s e = cc

begin_no_accept : (s : ℕ) → Begin s ≡ Accept → ⊥
begin_no_accept s e = cc

-- what a path takes, and where it is then
record Taken (u : List ℕ) (ns : List Node) (i : ℕ) (bytes : List ℕ) (r j : ℕ) : Type 0 where
  moves : ℕ
  same : drop i u ≡ bytes ++ drop (i + length bytes) u
  path : Path u ns moves r (i + length bytes) 0 j

taken : (u : List ℕ) (ns : List Node) → slice_get ns 0 ≡ Some Accept → (bytes : List ℕ) (q r n i j : ℕ) → Leads ns q bytes r → Path u ns n q i 0 j → Taken u ns i bytes r j
taken u ns acc [] q r n i j led p =
    let e : i ≡ i + 0 = omega arith in
    record { moves = n; same = ap (λ k. drop k u) e; path = subst (λ k. Path u ns n r k 0 j) e (subst (λ k. Path u ns n k i 0 j) led p) }
taken u ns acc (c ∷ cs) q r n i j (s, is, led) p =
    let w = moved u ns q (Byte c s) n i j acc is (byte_no_accept c s) p in
    let next = subst (λ k. Path u ns w.0 k (i + 1) 0 j) w.3.0 (subst (λ k. Path u ns w.0 w.1 k 0 j) w.3.1 w.4) in
    let v = taken u ns acc cs s r w.0 (i + 1) j led next in
    let sum : i + 1 + length cs ≡ i + suc (length cs) = omega arith in
    let up : suc i ≡ i + 1 = omega arith in
    record {
      moves = v.moves;
      same = drop-cons u i 0 w.3.2 ∙ ap (λ x. x ∷ drop (suc i) u) w.3.3 ∙ ap (λ l. c ∷ l) (ap (λ k. drop k u) up ∙ v.same ∙ ap (λ k. cs ++ drop k u) sum);
      path = subst (λ k. Path u ns v.moves r k 0 j) sum v.path;
    }

-- the first byte of what is left of a text
record Front (u : List ℕ) (i c : ℕ) (rest : List ℕ) : Type 0 where
  lt : i < length u
  is : slice_index u i ≡ c
  left : drop (i + 1) u ≡ rest

front_at : (u : List ℕ) (i c : ℕ) (rest : List ℕ) → drop i u ≡ c ∷ rest → Front u i c rest
front_at u i c rest e = elim (cases_lt i (length u)) [
  | inl lt ↦
      let f : get_or u i 0 ∷ drop (suc i) u ≡ c ∷ rest = sym (drop-cons u i 0 lt) ∙ e in
      let up : i + 1 ≡ suc i = omega arith in
      let first : get_or u i 0 ≡ c = cc in
      let others : drop (suc i) u ≡ rest = cc in
      record { lt = lt; is = first; left = ap (λ k. drop k u) up ∙ others }
  | inr past ↦ absurd (omega (arith, length-drop i u, ap length e))
]

-- the path back from behind the bytes
back : (u : List ℕ) (ns : List Node) (bytes : List ℕ) (q r n i j : ℕ) (rest : List ℕ) → Leads ns q bytes r → drop i u ≡ bytes ++ rest → Path u ns n r (i + length bytes) 0 j → (m : ℕ) × Path u ns m q i 0 j
back u ns [] q r n i j rest led e p =
    let none : i + 0 ≡ i = omega arith in
    (n, subst (λ k. Path u ns n k i 0 j) (sym led) (subst (λ k. Path u ns n r k 0 j) none p))
back u ns (c ∷ cs) q r n i j rest (s, is, led) e p =
    let f = front_at u i c (cs ++ rest) e in
    let sum : i + suc (length cs) ≡ i + 1 + length cs = omega arith in
    let v = back u ns cs s r n (i + 1) j rest led f.left (subst (λ k. Path u ns n r k 0 j) sum p) in
    (suc v.0, (s, i + 1, subst (λ o. NodeGoes u o i s (i + 1)) (sym is) (refl, refl, f.lt, f.is), v.1))

leads_more : (ns : List Node) (bytes : List ℕ) (q r c s : ℕ) → Leads ns q bytes r → slice_get ns r ≡ Some (Byte c s) → Leads ns q (bytes ++ c ∷ []) s
leads_more ns [] q r c s led is = (s, subst (λ k. slice_get ns k ≡ Some (Byte c s)) (sym led) is, refl)
leads_more ns (d ∷ bytes) q r c s (t, at, led) is = (t, at, leads_more ns bytes t r c s led is)

pub led_none : (ns : List Node) (q : ℕ) → q < length ns → IsLed ns q [] q
led_none ns q lt = record { leads = refl; within = lt }

pub led_more : (ns : List Node) (q r c s : ℕ) (bytes : List ℕ) → AreBelow ns → IsLed ns q bytes r → slice_get ns r ≡ Some (Byte c s) → IsLed ns q (bytes ++ c ∷ []) s
led_more ns q r c s bytes below led is = record { leads = leads_more ns bytes q r c s led.leads is; within = below.by r (Byte c s) is }

-- The plan

begins_of : (u literal rest : List ℕ) → u ≡ literal ++ rest → begins u literal ≡ true
begins_of u literal rest e = (starts_is Decides-eqb u literal (begins u literal) refl).1 rest e

begun_by : (u literal : List ℕ) → begins u literal ≡ true → u ≡ literal ++ drop (length literal) u
begun_by u literal h = (starts_is Decides-eqb u literal (begins u literal) refl).0 h

equal : (a b : ℕ) → nat_eq a b ≡ true → a ≡ b
equal a b e = (Decides-eqb a b).0 e

-- the nodes of the whole expression are those of a part
pub part_of : (ns : List Node) (e : Expr) (node : ℕ) → IsBuilt ns e node → IsPart ns e node
part_of ns e node b = record { accepting = b.implements.accepting; to = length ns; block = b.implements.block; within = omega arith; ordered = b.ordered }

pub part_below : (ns : List Node) (e : Expr) (node : ℕ) → IsPart ns e node → node < length ns
part_below ns e node p = entry_below ns e p.to node (slice_get_within ns 0 Accept p.accepting) p.within p.block

pub alike_same : (e : Expr) → FindAlike e e
alike_same e = record { forth = λ u f. f; back = λ u f. f }

pub alike_on : (e f g : Expr) → FindAlike e f → FindAlike f g → FindAlike e g
alike_on e f g h k = record { forth = λ u x. k.forth u (h.forth u x); back = λ u x. h.back u (k.back u x) }

no_least : (least : ℕ) (most : Option ℕ) → are_optional least most ≡ true → least ≡ 0
no_least least None h = (Decides-eqb least 0).0 h
no_least least (Some most) h = (Decides-eqb least 0).0 (first (nat_eq least 0) (nat_lt 0 most) h)
  where
    first : (a b : Bool) → a && b ≡ true → a ≡ true
    first true b e = refl
    first false b e = e

-- what may be left out at the front
alike_behind : (x y : Expr) (least : ℕ) (most : Option ℕ) → are_optional least most ≡ true → FindAlike (both (repeat x least most) y) y
alike_behind x y least most h = record {
  forth = λ u f.
      let p = places_of u (both (repeat x least most) y) f in
      finds_at u y p.4.0 p.1 ((spans_forward u y).by p.4.0 p.1 p.4.2) p.3 p.4.2;
  back = λ u f.
      let p = places_of u y f in
      finds_at u (both (repeat x least most) y) p.0 p.1 p.2 p.3 (p.0, repeats_none (Spans u x) least most p.0 p.0 (no_least least most h) refl, p.4);
}

pub alike_optional : (e y : Expr) → is_optional e ≡ true → FindAlike (both e y) y
alike_optional (byte c) y h = absurd (true≢false (sym h))
alike_optional any y h = absurd (true≢false (sym h))
alike_optional (set n es) y h = absurd (true≢false (sym h))
alike_optional at_begin y h = absurd (true≢false (sym h))
alike_optional at_end y h = absurd (true≢false (sym h))
alike_optional (both a b) y h = absurd (true≢false (sym h))
alike_optional (either a b) y h = absurd (true≢false (sym h))
alike_optional (repeat x least most) y h = alike_behind x y least most h

-- the node of such a repeat leads to what stands behind it
exit_zero : (ns : List Node) (x : Expr) (most : Option ℕ) (from to entry exit c b : ℕ) → are_optional 0 most ≡ true → Block ns (repeat x 0 most) from to entry exit → slice_get ns entry ≡ Some (Split c b) → exit ≡ b
exit_zero ns x None from to entry exit c b h (m, d, (e, at, split, rest), copies) is =
    let same : slice_get ns from ≡ Some (Split c b) = subst (λ k. slice_get ns k ≡ Some (Split c b)) (copies.1 ∙ at) is in
    let goes : Split e exit ≡ Split c b = cc in cc
exit_zero ns x (Some zero) from to entry exit c b h block is = absurd (true≢false (sym h))
exit_zero ns x (Some (suc n)) from to entry exit c b h (m, d, rest, copies) is =
    let all : suc n - 0 ≡ suc n = omega arith in
    let options = subst (λ k. Options ns (Block ns x) k from m d exit) all rest in
    let split : slice_get ns d ≡ Some (Split options.2 exit) = options.5 in
    let same : slice_get ns d ≡ Some (Split c b) = subst (λ q. slice_get ns q ≡ Some (Split c b)) copies.1 is in
    let goes : Split options.2 exit ≡ Split c b = cc in cc

exit_at : (ns : List Node) (x : Expr) (least : ℕ) (most : Option ℕ) (from to entry exit c b : ℕ) → are_optional least most ≡ true → Block ns (repeat x least most) from to entry exit → slice_get ns entry ≡ Some (Split c b) → exit ≡ b
exit_at ns x least most from to entry exit c b h block is =
    let none : least ≡ 0 = no_least least most h in
    exit_zero ns x most from to entry exit c b (subst (λ k. are_optional k most ≡ true) none h) (subst (λ k. Block ns (repeat x k most) from to entry exit) none block) is

part_behind : (ns : List Node) (x y : Expr) (least : ℕ) (most : Option ℕ) (node c b : ℕ) → are_optional least most ≡ true → IsPart ns (both (repeat x least most) y) node
    → slice_get ns node ≡ Some (Split c b) → IsPart ns y b
part_behind ns x y least most node c b h p is =
    let m = p.block.0 in
    let d = p.block.1 in
    let over = (block_takes ns (repeat x least most)).by m p.to node d p.block.3 in
    record {
      accepting = p.accepting;
      to = m;
      block = subst (λ q. Block ns y 1 m q 0) (exit_at ns x least most m p.to node d c b h p.block.3 is) p.block.2;
      within = omega (arith, over, p.within);
      ordered = p.ordered.1;
    }

pub part_optional : (ns : List Node) (e y : Expr) (node c b : ℕ) → is_optional e ≡ true → IsPart ns (both e y) node → slice_get ns node ≡ Some (Split c b) → IsPart ns y b
part_optional ns (byte d) y node c b h p is = absurd (true≢false (sym h))
part_optional ns any y node c b h p is = absurd (true≢false (sym h))
part_optional ns (set n es) y node c b h p is = absurd (true≢false (sym h))
part_optional ns at_begin y node c b h p is = absurd (true≢false (sym h))
part_optional ns at_end y node c b h p is = absurd (true≢false (sym h))
part_optional ns (both v w) y node c b h p is = absurd (true≢false (sym h))
part_optional ns (either v w) y node c b h p is = absurd (true≢false (sym h))
part_optional ns (repeat x least most) y node c b h p is = part_behind ns x y least most node c b h p is

pub planned_first : (ns : List Node) (e f : Expr) (whole node first : ℕ) (literal : List ℕ) (start : Start) → IsBuilt ns e whole → IsPart ns f node → FindAlike e f
    → slice_get ns node ≡ Some (Begin first) → IsLed ns first literal start.node → start.places ≡ At (length literal) → IsPlanned ns e literal start
planned_first ns e f whole node first literal start b p alike is led at = record {
  size = length_of_nodes ns e whole b.implements;
  course = record { accepting = p.accepting; below = below_of ns e whole b.implements; starts = led.within };
  finds = λ u t found.
      let w = enters_of ns f node p.to u t p.block (alike.forth u found) in
      let g = moved u ns node (Begin first) w.moves w.from w.to p.accepting is (begin_no_accept first) w.path in
      let origin : g.2 ≡ 0 = g.3.1 ∙ g.3.2 in
      let path = subst (λ k. Path u ns g.0 first k 0 w.to) origin (subst (λ k. Path u ns g.0 k g.2 0 w.to) g.3.0 g.4) in
      let v = taken u ns p.accepting literal first start.node g.0 0 w.to led.leads path in
      let len : length u ≡ length literal + length (drop (0 + length literal) u) = ap length v.same ∙ length-append literal (drop (0 + length literal) u) in
      let zero_sum : 0 + length literal ≡ length literal = omega arith in (
        begins_of u literal (drop (0 + length literal) u) v.same,
        record {
          from = length literal;
          to = w.to;
          moves = v.moves;
          within = omega (arith, len);
          starts = subst (λ q. starts_at q (length literal) (slice_get u (length literal)) ≡ true) (sym at) (eq-eqb (length literal) (length literal) refl);
          path = subst (λ k. Path u ns v.moves start.node k 0 w.to) zero_sum v.path;
        },
      );
  only = λ u t h a.
      let here : a.from ≡ length literal = equal a.from (length literal) (subst (λ q. starts_at q a.from (slice_get u a.from) ≡ true) at a.starts) in
      let zero_sum : length literal ≡ 0 + length literal = omega arith in
      let path = subst (λ k. Path u ns a.moves start.node k 0 a.to) (here ∙ zero_sum) a.path in
      let v = back u ns literal first start.node a.moves 0 a.to (drop (length literal) u) led.leads (begun_by u literal h) path in
      alike.back u (found_of ns f node p.to u t p.block p.ordered 0 (suc v.0) a.to (omega arith)
      (first, 0, subst (λ o. NodeGoes u o 0 first 0) (sym is) (refl, refl, refl), v.1));
}

pub planned_all : (ns : List Node) (e f : Expr) (whole : ℕ) (literal : List ℕ) (start : Start) → IsBuilt ns e whole → IsPart ns f start.node → FindAlike e f
    → literal ≡ [] → IsCovered start.places f → IsPlanned ns e literal start
planned_all ns e f whole literal start b p alike none c = record {
  size = length_of_nodes ns e whole b.implements;
  course = record { accepting = p.accepting; below = below_of ns e whole b.implements; starts = part_below ns f start.node p };
  finds = λ u t found.
      let w = enters_of ns f start.node p.to u t p.block (alike.forth u found) in (
        subst (λ l. begins u l ≡ true) (sym none) refl,
        record { from = w.from; to = w.to; moves = w.moves; within = w.within; starts = c.by u t w.from w.until w.within w.spans; path = w.path },
      );
  only = λ u t h a. alike.back u (found_of ns f start.node p.to u t p.block p.ordered a.from a.moves a.to a.within a.path);
}

-- what the walk answers behind the literal
pub told_by : (ns : List Node) (e : Expr) (literal : List ℕ) (start : Start) (u : List ℕ) (answer : Bool) → IsText u → IsPlanned ns e literal start → begins u literal ≡ true
    → (answer ≡ true → Accepts ns start u) → (answer ≡ false → Accepts ns start u → ⊥) → Tells e u answer
told_by ns e literal start u true t p h hit never = record { found = λ yes. p.only u t h (hit refl); told = λ f. refl }
told_by ns e literal start u false t p h hit never = record { found = λ yes. cc; told = λ f. absurd (never refl (p.finds u t f).1) }

pub told_not : (ns : List Node) (e : Expr) (literal : List ℕ) (start : Start) (u : List ℕ) → IsText u → IsPlanned ns e literal start → begins u literal ≡ false → Tells e u false
told_not ns e literal start u t p h = record { found = λ yes. cc; told = λ f. absurd (true≢false (sym (p.finds u t f).0 ∙ h)) }

pub ruleset covering_rules = (covered_once, covered_anywhere, covered_before)
