-- What the walk over the text needs of the nodes.
use Rattle.std.proofs.Common.{ℕ, zero, suc, ◌+◌, ◌⊎◌, inl, inr, subst, ⊎_elim, List, Option, Some, None}
use Rattle.std.proofs.Common.{◌≡◌, ◌<◌, ◌≤◌, [], ◌∷◌, ◌++◌, ◌||◌, ◌∙◌, Bool, true, false, nat_eq, refl, sym, ap, arith, length, get_or, eq-eqb, ne_eqb, if◌then◌else◌}
use Rattle.std.specs.Prelude.{slice_get, slice_index, take}
use Rattle.std.proofs.Common.{◌*◌}
use Rattle.std.proofs.Math.Nat.{suc-mul}
use Rattle.std.proofs.lemmas.Nat.{mul-le}
use Rattle.std.proofs.lemmas.Bool.{cases_eq, cases_lt, true≢false}
use Rattle.std.proofs.lemmas.Option.{slice_get_past, slice_get_within, slice_get-get_or}
use Rattle.usp_ere.specs.Bytes.{holds}
use Rattle.usp_ere.specs.NodeSets.{has, with_one, with_all}
use Rattle.usp_ere.specs.Walk.{stays, goes, IsBelow, AreBelow, IsReached, AreReached, IsDone, IsWalked, LeadsOn, StartsLater, IsLive, IsCourse, IsOn, Accepts, Grows, IsBegun, Spends}
use Rattle.usp_ere.specs.declared.course.Start.{Start}
use Rattle.usp_ere.specs.declared.course.Places.{Places}
use Rattle.usp_ere.specs.declared.course.Places.TheVariants.{At, Before, Anywhere}
use Rattle.usp_ere.specs.Starts.{starts_at, IsPassedOver}
use Rattle.usp_ere.proofs.NodeSetLemmas.{has_kept, has_added, has_kept_all, has_added_all, has_cases, all_cases, take_with_all, take_next, has_at}
use Rattle.usp_ere.specs.declared.nodes.Node.{Node}
use Rattle.usp_ere.specs.declared.nodes.Node.TheVariants.{Accept, Byte, Any, OneOf, Begin, End, Split}
use Rattle.usp_ere.specs.Nodes.{NodeGoes, Path}

-- each move stays at its place or goes to the next one
pub record IsShort (u : List ℕ) (ns : List Node) : Type 0 where
  pub by : (q i s l : ℕ) → NodeGoes u (slice_get ns q) i s l → (l ≡ i) ⊎ (l ≡ i + 1)

-- each move of a marked node that stays at the place leads to a marked node
pub record IsClosed (u : List ℕ) (ns : List Node) (Marked : ℕ → Type 0) (i : ℕ) : Type 0 where
  pub by : (q s : ℕ) → Marked q → NodeGoes u (slice_get ns q) i s i → Marked s

-- a path from a marked node to a target: the target is marked, or a marked node goes on to the next place
pub record GoesOn (u : List ℕ) (ns : List Node) (Marked : ℕ → Type 0) (i target j : ℕ) : Type 0 where
  pub from : ℕ
  pub to : ℕ
  pub left : ℕ
  pub marked : Marked from
  pub move : NodeGoes u (slice_get ns from) i to (i + 1)
  pub others : Path u ns left to (i + 1) target j

pub ahead : (u : List ℕ) (ns : List Node) → IsShort u ns → (Marked : ℕ → Type 0) (i : ℕ) → IsClosed u ns Marked i → (target n q j : ℕ) → Marked q → Path u ns n q i target j → Marked target ⊎ GoesOn u ns Marked i target j
ahead u ns short M i closed target zero q j m p = inl (subst M p.0 m)
ahead u ns short M i closed target (suc n) q j m (s, l, go, p) =
    ⊎_elim
    (λ stay. ahead u ns short M i closed target n s j (closed.by q s m (subst (λ x. NodeGoes u (slice_get ns q) i s x) stay go)) (subst (λ x. Path u ns n s x target j) stay p))
    (λ on. inr (record { from = q; to = s; left = n; marked = m; move = subst (λ x. NodeGoes u (slice_get ns q) i s x) on go; others = subst (λ x. Path u ns n s x target j) on p }))
    (short.by q i s l go)

pub node_short : (u : List ℕ) (o : Option Node) (i s l : ℕ) → NodeGoes u o i s l → (l ≡ i) ⊎ (l ≡ i + 1)
node_short u None i s l g = absurd g
node_short u (Some Accept) i s l g = absurd g
node_short u (Some (Byte c next)) i s l g = inr g.1
node_short u (Some (Any next)) i s l g = inr g.1
node_short u (Some (OneOf w next)) i s l g = inr g.1
node_short u (Some (Begin next)) i s l g = inl g.1
node_short u (Some (End next)) i s l g = inl g.1
node_short u (Some (Split a b)) i s l g = inl g.0

pub all_short : (u : List ℕ) (ns : List Node) → IsShort u ns
all_short u ns = record { by = λ q i s l g. node_short u (slice_get ns q) i s l g }

-- Moves and the lists that say them

none_some : (x : ℕ) (o : Option ℕ) → o ≡ None → o ≡ Some x → ⊥
none_some x o e f = cc

eq_bytes : (d c : ℕ) (o : Option ℕ) (next s : ℕ) → d ≡ c → s ≡ next → has s (if nat_eq d c then next ∷ [] else []) ≡ true
eq_bytes d c o next s e f = rw (eq-eqb d c e) (rw (eq-eqb next s (sym f)) refl)

here : (next s : ℕ) → s ≡ next → has s (next ∷ []) ≡ true
here next s e = rw (eq-eqb next s (sym e)) refl

equal : (a b : ℕ) → nat_eq a b ≡ true → a ≡ b
equal a b e = elim (cases_eq a b) [ inl same ↦ same | inr other ↦ absurd (true≢false (sym e ∙ ne_eqb a b other)) ]

pub only : (next s : ℕ) → has s (next ∷ []) ≡ true → s ≡ next
only next s h = elim (cases_eq next s) [ inl same ↦ sym same | inr other ↦ absurd (true≢false (sym h ∙ ap (λ b. b || false) (ne_eqb next s other))) ]

pub stays_all : (u : List ℕ) (node : Node) (i s : ℕ) → NodeGoes u (Some node) i s i → has s (stays node (nat_eq i 0) (slice_get u i)) ≡ true
stays_all u Accept i s g = absurd g
stays_all u (Byte c next) i s g = absurd (omega (arith, g.1))
stays_all u (Any next) i s g = absurd (omega (arith, g.1))
stays_all u (OneOf w next) i s g = absurd (omega (arith, g.1))
stays_all u (Begin next) i s g = rw (eq-eqb i 0 g.2) (here next s g.0)
stays_all u (End next) i s g = rw (slice_get_past u i (omega (arith, g.2))) (here next s g.0)
stays_all u (Split a b) i s g = elim g.1 [
  | inl e ↦ rw (eq-eqb a s (sym e)) refl
  | inr e ↦ or_later (nat_eq a s) _ (here b s e)
]
  where
    or_later : (x y : Bool) → y ≡ true → x || y ≡ true
    or_later true y e = refl
    or_later false y e = e

pub stays_only : (u : List ℕ) (node : Node) (i s : ℕ) → i ≤ length u → has s (stays node (nat_eq i 0) (slice_get u i)) ≡ true → NodeGoes u (Some node) i s i
stays_only u Accept i s le h = absurd (true≢false (sym h))
stays_only u (Byte c next) i s le h = absurd (true≢false (sym h))
stays_only u (Any next) i s le h = absurd (true≢false (sym h))
stays_only u (OneOf w next) i s le h = absurd (true≢false (sym h))
stays_only u (Begin next) i s le h = go (nat_eq i 0) refl h
  where
    go : (b : Bool) → nat_eq i 0 ≡ b → has s (stays (Begin next) b (slice_get u i)) ≡ true → (s ≡ next) × (i ≡ i) × (i ≡ 0)
    go true e h = (only next s h, refl, equal i 0 e)
    go false e h = absurd (true≢false (sym h))
stays_only u (End next) i s le h = go (slice_get u i) refl h
  where
    go : (o : Option ℕ) → slice_get u i ≡ o → has s (stays (End next) (nat_eq i 0) o) ≡ true → (s ≡ next) × (i ≡ i) × (i ≡ length u)
    go None e h = (
      only next s h,
      refl,
      elim (cases_lt i (length u)) [
        | inl lt ↦ absurd (none_some (slice_index u i) (slice_get u i) e (slice_get-get_or u i 0 lt))
        | inr past ↦ omega arith
      ],
    )
    go (Some c) e h = absurd (true≢false (sym h))
stays_only u (Split a b) i s le h = (refl, go (nat_eq a s) refl h)
  where
    go : (x : Bool) → nat_eq a s ≡ x → x || has s (b ∷ []) ≡ true → (s ≡ a) ⊎ (s ≡ b)
    go true e h = inl (sym (equal a s e))
    go false e h = inr (only b s h)

pub byte_there : (u : List ℕ) (i : ℕ) → i < length u → slice_get u i ≡ Some (slice_index u i)
byte_there u i lt = slice_get-get_or u i 0 lt

pub goes_all : (u : List ℕ) (node : Node) (i s : ℕ) → NodeGoes u (Some node) i s (i + 1) → has s (goes node (slice_get u i)) ≡ true
goes_all u Accept i s g = absurd g
goes_all u (Byte c next) i s g = rw (byte_there u i g.2) (rw (eq-eqb (slice_index u i) c g.3) (here next s g.0))
goes_all u (Any next) i s g = rw (byte_there u i g.2) (here next s g.0)
goes_all u (OneOf w next) i s g = rw (byte_there u i g.2) (rw g.3 (here next s g.0))
goes_all u (Begin next) i s g = absurd (omega (arith, g.1))
goes_all u (End next) i s g = absurd (omega (arith, g.1))
goes_all u (Split a b) i s g = absurd (omega (arith, g.0))

pub goes_only : (u : List ℕ) (node : Node) (i s : ℕ) → has s (goes node (slice_get u i)) ≡ true → NodeGoes u (Some node) i s (i + 1)
goes_only u node i s h = elim (cases_lt i (length u)) [
  | inl lt ↦ by_node node lt (sym (ap (λ o. has s (goes node o)) (byte_there u i lt)) ∙ h)
  | inr past ↦ absurd (true≢false (sym (sym (ap (λ o. has s (goes node o)) (slice_get_past u i past)) ∙ h)))
]
  where
    test : (b : Bool) (next : ℕ) → has s (if b then next ∷ [] else []) ≡ true → (s ≡ next) × (b ≡ true)
    test true next h = (only next s h, refl)
    test false next h = absurd (true≢false (sym h))

    by_node : (node : Node) → i < length u → has s (goes node (Some (slice_index u i))) ≡ true → NodeGoes u (Some node) i s (i + 1)
    by_node Accept lt h = absurd (true≢false (sym h))
    by_node (Byte c next) lt h = let t = test (nat_eq (slice_index u i) c) next h in (t.0, refl, lt, equal (slice_index u i) c t.1)
    by_node (Any next) lt h = (only next s h, refl, lt)
    by_node (OneOf w next) lt h = let t = test (holds w (slice_index u i)) next h in (t.0, refl, lt, t.1)
    by_node (Begin next) lt h = absurd (true≢false (sym h))
    by_node (End next) lt h = absurd (true≢false (sym h))
    by_node (Split a b) lt h = absurd (true≢false (sym h))

-- one move more
path_then : (u : List ℕ) (ns : List Node) (n q i r j s l : ℕ) → Path u ns n q i r j → NodeGoes u (slice_get ns r) j s l → Path u ns (suc n) q i s l
path_then u ns zero q i r j s l p g = (s, l, subst (λ z. NodeGoes u (slice_get ns z) i s l) (sym p.0) (subst (λ z. NodeGoes u (slice_get ns r) z s l) (sym p.1) g), (refl, refl))
path_then u ns (suc n) q i r j s l (t, k, go, p) g = (t, k, go, path_then u ns n t k r j s l p g)

reached_then : (u : List ℕ) (ns : List Node) (start : Start) (i q s l : ℕ) → i ≤ l → IsReached u ns start i q → NodeGoes u (slice_get ns q) i s l → IsReached u ns start l s
reached_then u ns start i q s l le r g = record { from = r.from; moves = suc r.moves; before = omega (arith, r.before); within = r.within; starts = r.starts; path = path_then u ns r.moves start.node r.from q i s l r.path g }

-- the next node of a place was worked
pub walked_more : (u : List ℕ) (ns : List Node) (start : Start) (i k : ℕ) (now next : List ℕ) (q : ℕ) (node : Node) → i ≤ length u
    → slice_get now k ≡ Some q → slice_get ns q ≡ Some node → (q ≡ 0 → ⊥) → IsWalked u ns start i k now next
    → IsWalked u ns start i (k + 1) (with_all now (stays node (nat_eq i 0) (slice_get u i))) (with_all next (goes node (slice_get u i)))
walked_more u ns start i k now next q node le at is ne w =
    let first = stays node (nat_eq i 0) (slice_get u i) in
    let second = goes node (slice_get u i) in
    let member : has q now ≡ true = has_at now k q at in
    let from = w.reached.by q member in
    let goes_at : (s l : ℕ) → NodeGoes u (Some node) i s l → NodeGoes u (slice_get ns q) i s l = λ s l g. subst (λ o. NodeGoes u o i s l) (sym is) g in
    let back : (s l : ℕ) → NodeGoes u (slice_get ns q) i s l → NodeGoes u (Some node) i s l = λ s l g. subst (λ o. NodeGoes u o i s l) is g in
    let lt : k < length now = slice_get_within now k q at in
    record {
      reached = record {
        by = λ s h. elim (all_cases s now first h) [
          | inl old ↦ w.reached.by s old
          | inr new ↦ reached_then u ns start i q s i (omega arith) from (goes_at s i (stays_only u node i s le new))
        ];
      };
      ahead = record {
        by = λ s h. elim (all_cases s next second h) [
          | inl old ↦ w.ahead.by s old
          | inr new ↦ reached_then u ns start i q s (i + 1) (omega arith) from (goes_at s (i + 1) (goes_only u node i s new))
        ];
      };
      done = λ p h.
          let same : take (k + 1) (with_all now first) ≡ take k now ++ q ∷ [] = take_with_all (k + 1) now first (omega arith) ∙ take_next k q now at in
          elim (has_cases p q (take k now) (sym (ap (has p) same) ∙ h)) [
            | inl old ↦ done_more p first second (w.done p old)
            | inr new ↦ subst (λ z. IsDone u ns i (with_all now first) (with_all next second) z) new (record {
              other = ne;
              stay = λ s g. has_added_all s now first (stays_all u node i s (back s i g));
              on = λ s g. has_added_all s next second (goes_all u node i s (back s (i + 1) g));
            })
          ];
    }
  where
    done_more : (p : ℕ) (first second : List ℕ) → IsDone u ns i now next p → IsDone u ns i (with_all now first) (with_all next second) p
    done_more p first second d = record {
      other = d.other;
      stay = λ s g. has_kept_all s now first (d.stay s g);
      on = λ s g. has_kept_all s next second (d.on s g);
    }

pub below_at : (ns : List Node) (k : ℕ) (d : Node) (n : ℕ) → AreBelow ns → k < length ns → n ≡ length ns → IsBelow (get_or ns k d) n
below_at ns k d n b lt e = subst (IsBelow (get_or ns k d)) (sym e) (b.by k (get_or ns k d) (slice_get-get_or ns k d lt))

pub walked_on : (u : List ℕ) (ns : List Node) (start : Start) (i k : ℕ) (now next : List ℕ) (q : ℕ) (node : Node) (byte : Option ℕ) (nows nexts : List ℕ) → i ≤ length u
    → slice_get now k ≡ Some q → slice_get ns q ≡ Some node → (q ≡ 0 → ⊥) → byte ≡ slice_get u i
    → nows ≡ with_all now (stays node (nat_eq i 0) byte) → nexts ≡ with_all next (goes node byte)
    → IsWalked u ns start i k now next → IsWalked u ns start i (k + 1) nows nexts
walked_on u ns start i k now next q node byte nows nexts le at is ne b e f w =
    let first : nows ≡ with_all now (stays node (nat_eq i 0) (slice_get u i)) = e ∙ ap (λ o. with_all now (stays node (nat_eq i 0) o)) b in
    let second : nexts ≡ with_all next (goes node (slice_get u i)) = f ∙ ap (λ o. with_all next (goes node o)) b in
    subst (λ l. IsWalked u ns start i (k + 1) l nexts) (sym first)
    (subst (λ l. IsWalked u ns start i (k + 1) (with_all now (stays node (nat_eq i 0) (slice_get u i))) l) (sym second)
    (walked_more u ns start i k now next q node le at is ne w))

-- From place to place

path_within : (u : List ℕ) (ns : List Node) (n q i r j : ℕ) → i ≤ length u → Path u ns n q i r j → j ≤ length u
path_within u ns zero q i r j le p = omega (arith, p.1)
path_within u ns (suc n) q i r j le (s, l, g, p) = path_within u ns n s l r j (move_within (slice_get ns q) g) p
  where
    move_within : (o : Option Node) → NodeGoes u o i s l → l ≤ length u
    move_within None g = absurd g
    move_within (Some Accept) g = absurd g
    move_within (Some (Byte c next)) g = omega (arith, g.1, g.2)
    move_within (Some (Any next)) g = omega (arith, g.1, g.2)
    move_within (Some (OneOf w next)) g = omega (arith, g.1, g.2)
    move_within (Some (Begin next)) g = omega (arith, g.1)
    move_within (Some (End next)) g = omega (arith, g.1)
    move_within (Some (Split a b)) g = omega (arith, g.0)

-- nothing is reached behind the end
pub none_behind : (u : List ℕ) (ns : List Node) (start : Start) (at : ℕ) (list : List ℕ) → length u < at → AreReached u ns start at list → length list ≡ 0
none_behind u ns start at [] lt r = refl
none_behind u ns start at (q ∷ list) lt r =
    let w = r.by q (ap (λ b. b || has q list) (eq-eqb q q refl)) in
    absurd (omega (arith, path_within u ns w.moves start.node w.from q at w.within w.path))

none_listed : (list : List ℕ) (q : ℕ) → length list ≡ 0 → has q list ≡ true → ⊥
none_listed [] q e h = true≢false (sym h)
none_listed (x ∷ list) q e h = absurd (omega arith)

whole_taken : (list : List ℕ) → take (length list) list ≡ list
whole_taken [] = refl
whole_taken (x ∷ list) = ap (λ l. x ∷ l) (whole_taken list)

-- all nodes of the place were worked
done_all : (u : List ℕ) (ns : List Node) (start : Start) (i : ℕ) (now next : List ℕ) → IsWalked u ns start i (length now) now next → (q : ℕ) → has q now ≡ true → IsDone u ns i now next q
done_all u ns start i now next w q h = w.done q (ap (has q) (whole_taken now) ∙ h)

from_listed : (u : List ℕ) (ns : List Node) (start : Start) (i : ℕ) (now next : List ℕ) → IsWalked u ns start i (length now) now next → (q n j : ℕ) → has q now ≡ true → Path u ns n q i 0 j → LeadsOn u ns (i + 1) next
from_listed u ns start i now next w q n j h p =
    let closed : IsClosed u ns (λ s. has s now ≡ true) i = record { by = λ k s m g. (done_all u ns start i now next w k m).stay s g } in
    elim (ahead u ns (all_short u ns) (λ s. has s now ≡ true) i closed 0 n q j h p) [
      | inl accepting ↦ absurd ((done_all u ns start i now next w 0 accepting).other refl)
      | inr on ↦ record { node = on.to; moves = on.left; to = j; listed = (done_all u ns start i now next w on.from on.marked).on on.to on.move; path = on.others }
    ]

pub live_next : (u : List ℕ) (ns : List Node) (start : Start) (i : ℕ) (old now next : List ℕ) → Grows old now → IsBegun u start i now → IsWalked u ns start i (length now) now next → IsLive u ns start i old → IsLive u ns start (i + 1) next
live_next u ns start i old now next grows begun w (inl l) = inl (from_listed u ns start i now next w l.node l.moves l.to (grows.by l.node l.listed) l.path)
live_next u ns start i old now next grows begun w (inr l) = elim (cases_eq l.from i) [
  | inl same ↦
      let path = subst (λ k. Path u ns l.moves start.node k 0 l.to) same l.path in
      elim begun [
        | inl entered ↦ inl (from_listed u ns start i now next w start.node l.moves l.to entered path)
        | inr never ↦ absurd (true≢false (sym (subst (λ k. starts_at start.places k (slice_get u k) ≡ true) same l.starts) ∙ never))
      ]
  | inr other ↦ inr (record { from = l.from; moves = l.moves; to = l.to; later = omega (arith, l.later); within = l.within; starts = l.starts; path = l.path })
]

pub live_first : (u : List ℕ) (ns : List Node) (start : Start) (at : ℕ) → IsPassedOver start.places u 0 at → Accepts ns start u → IsLive u ns start at []
live_first u ns start at over a = elim (cases_lt a.from at) [
  | inl before ↦ absurd (true≢false (sym a.starts ∙ over.by a.from (omega arith) before a.within))
  | inr later ↦ inr (record { from = a.from; moves = a.moves; to = a.to; later = later; within = a.within; starts = a.starts; path = a.path })
]

-- at the end nothing is left
pub live_never : (u : List ℕ) (ns : List Node) (start : Start) (at : ℕ) (list : List ℕ) → length list ≡ 0 → length u < at → IsLive u ns start at list → ⊥
live_never u ns start at list none lt (inl l) = none_listed list l.node none l.listed
live_never u ns start at list none lt (inr l) = absurd (omega (arith, l.later, l.within))

-- where no node is left, the walk goes on where it starts again
live_over : (u : List ℕ) (ns : List Node) (start : Start) (at to : ℕ) (list : List ℕ) → length list ≡ 0 → IsPassedOver start.places u at to → IsLive u ns start at list → IsLive u ns start to list
live_over u ns start at to list none over (inl l) = absurd (none_listed list l.node none l.listed)
live_over u ns start at to list none over (inr l) = elim (cases_lt l.from to) [
  | inl before ↦ absurd (true≢false (sym l.starts ∙ over.by l.from l.later before l.within))
  | inr later ↦ inr (record { from = l.from; moves = l.moves; to = l.to; later = later; within = l.within; starts = l.starts; path = l.path })
]

reached_over : (u : List ℕ) (ns : List Node) (start : Start) (at to : ℕ) (list : List ℕ) → length list ≡ 0 → AreReached u ns start at list → AreReached u ns start to list
reached_over u ns start at to list none r = record { by = λ q h. absurd (none_listed list q none h) }

-- what is reached and accepts
pub accepts_reached : (u : List ℕ) (ns : List Node) (start : Start) (at : ℕ) → IsReached u ns start at 0 → Accepts ns start u
accepts_reached u ns start at r = record { from = r.from; to = at; moves = r.moves; within = r.within; starts = r.starts; path = r.path }

reached_start : (u : List ℕ) (ns : List Node) (start : Start) (at : ℕ) → at ≤ length u → starts_at start.places at (slice_get u at) ≡ true → IsReached u ns start at start.node
reached_start u ns start at le s = record { from = at; moves = 0; before = omega arith; within = le; starts = s; path = (refl, refl) }

pub reached_begun : (u : List ℕ) (ns : List Node) (start : Start) (at : ℕ) (list : List ℕ) → at ≤ length u → starts_at start.places at (slice_get u at) ≡ true → AreReached u ns start at list → AreReached u ns start at (with_one list start.node)
reached_begun u ns start at list le s r = record {
  by = λ q h. elim (all_cases q list (start.node ∷ []) h) [
    | inl old ↦ r.by q old
    | inr new ↦ subst (IsReached u ns start at) (sym (only start.node q new)) (reached_start u ns start at le s)
  ];
}

pub reached_none : (u : List ℕ) (ns : List Node) (start : Start) (at : ℕ) → AreReached u ns start at []
reached_none u ns start at = record { by = λ q h. absurd (true≢false (sym h)) }

pub grows_one : (list : List ℕ) (q : ℕ) → Grows list (with_one list q)
grows_one list q = record { by = λ s h. has_kept s q list h }

pub grows_all : (list qs : List ℕ) → Grows list (with_all list qs)
grows_all list qs = record { by = λ s h. has_kept_all s list qs h }

pub grows_same : (list : List ℕ) → Grows list list
grows_same list = record { by = λ s h. h }

pub grows_on : (a b c : List ℕ) → Grows a b → Grows b c → Grows a c
grows_on a b c g h = record { by = λ s k. h.by s (g.by s k) }

begun_on : (u : List ℕ) (start : Start) (at : ℕ) (a b : List ℕ) → Grows a b → IsBegun u start at a → IsBegun u start at b
begun_on u start at a b g (inl h) = inl (g.by start.node h)
begun_on u start at a b g (inr never) = inr never

pub begun_start : (u : List ℕ) (start : Start) (at : ℕ) (list : List ℕ) → IsBegun u start at (with_one list start.node)
begun_start u start at list = inl (has_added start.node list)

pub begun_not : (u : List ℕ) (start : Start) (at : ℕ) (list : List ℕ) → starts_at start.places at (slice_get u at) ≡ false → IsBegun u start at list
begun_not u start at list never = inr never

-- the walk begins
pub on_first : (u : List ℕ) (ns : List Node) (start : Start) (at : ℕ) → IsPassedOver start.places u 0 at → IsOn u ns start at []
on_first u ns start at over = record { reached = reached_none u ns start at; live = live_first u ns start at over }

-- and with the start beside them
pub on_begun : (u : List ℕ) (ns : List Node) (start : Start) (at : ℕ) (old begun : List ℕ) → Grows old begun → AreReached u ns start at begun → IsOn u ns start at old → IsOn u ns start at begun
on_begun u ns start at old begun g r on = record { reached = r; live = λ all. grown (on.live all) }
  where
    grown : IsLive u ns start at old → IsLive u ns start at begun
    grown (inl l) = inl (record { node = l.node; moves = l.moves; to = l.to; listed = g.by l.node l.listed; path = l.path })
    grown (inr l) = inr l

-- it goes on at the next place
pub on_next : (u : List ℕ) (ns : List Node) (start : Start) (i : ℕ) (old begun now next : List ℕ) → Grows old begun → Grows begun now → IsBegun u start i begun
    → IsWalked u ns start i (length now) now next → IsOn u ns start i old → IsOn u ns start (i + 1) next
on_next u ns start i old begun now next g h b w on = record {
  reached = w.ahead;
  live = λ all. live_next u ns start i old now next (grows_on old begun now g h) (begun_on u start i begun now h b) w (on.live all);
}

-- or where it starts again
pub on_over : (u : List ℕ) (ns : List Node) (start : Start) (at to : ℕ) (list : List ℕ) → length list ≡ 0 → IsPassedOver start.places u at to → IsOn u ns start at list → IsOn u ns start to list
on_over u ns start at to list none over on = record {
  reached = reached_over u ns start at to list none on.reached;
  live = λ all. live_over u ns start at to list none over (on.live all);
}

-- behind the end nothing accepts
pub on_never : (u : List ℕ) (ns : List Node) (start : Start) (at : ℕ) (list : List ℕ) → length u < at → IsOn u ns start at list → Accepts ns start u → ⊥
on_never u ns start at list past on all = live_never u ns start at list (none_behind u ns start at list past on.reached) past (on.live all)

-- How many steps

pub next_times : (n s : ℕ) → (n + 1) * s ≡ n * s + s
next_times n s = let e : n + 1 ≡ suc n = omega arith in ap (λ k. k * s) e ∙ suc-mul n s

fewer_times : (n m s : ℕ) → n ≤ m → n * s ≤ m * s
fewer_times n m s le = mul-le n s m s le (omega arith)

pub spends_next : (size old at now new entered coming : ℕ) → new + now ≡ old + entered + coming → entered ≤ size → Spends size old at now new (at + 1) coming
spends_next size old at now new entered coming e le = record { by = λ n h. omega (arith, next_times at size) }

pub spends_over : (size old at now new stop to next : ℕ) → stop ≤ to → Spends size old at now new stop next → Spends size old at now new to next
spends_over size old at now new stop to next le s = record { by = λ n h. omega (arith, s.by n h, fewer_times stop to size le) }

-- the start was entered before
pub spends_begun : (size old at now begun steps new to next : ℕ) → begun + now ≡ old + steps → Spends size begun at steps new to next → Spends size old at now new to next
spends_begun size old at now begun steps new to next e s = record { by = λ n h. s.by n (omega arith) }

-- where a node accepts, at the end or before it
pub spends_last : (size old at now new entered coming len : ℕ) → new + now ≡ old + entered + coming → entered ≤ size → coming ≤ size → at ≤ len → (at ≡ len → coming ≡ 0) → Spends size old at now new (len + 1) 0
spends_last size old at now new entered coming len e few few_next le ends = record {
  by = λ n h. elim (cases_eq at len) [
    | inl same ↦ let none = ends same in omega (arith, next_times at size, fewer_times (at + 1) (len + 1) size (omega arith))
    | inr other ↦ omega (arith, next_times at size, next_times (at + 1) size, fewer_times (at + 1 + 1) (len + 1) size (omega arith))
  ];
}

-- behind the end no step is left over
pub spent_all : (size old new at len now : ℕ) → new ≤ old + at * size + now → now ≡ 0 → at ≤ len + 1 → new ≤ old + (len + 1) * size
spent_all size old new at len now h none le = omega (arith, fewer_times at (len + 1) size le)

-- one after the other
pub spends_then : (size old at now steps middle coming new to next : ℕ) → Spends size old at now steps middle coming → Spends size steps middle coming new to next → Spends size old at now new to next
spends_then size old at now steps middle coming new to next s r = record { by = λ n h. r.by n (s.by n h) }

pub ruleset begin_rules = (reached_begun, grows_one, grows_same, begun_start, begun_not)

pub ruleset advance_rules = (on_begun, spends_begun, spends_over, spends_then)
