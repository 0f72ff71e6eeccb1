-- A node that stands alone at a place.
use Rattle.std.proofs.Common.{◌≡◌, ◌≢◌, ℕ, zero, suc, ◌+◌, ◌*◌, ◌<◌, ◌≤◌, inl, inr, refl, sym, ap, ◌∙◌, subst, arith, List, [], ◌∷◌, ◌++◌, ◌||◌, Bool, true, false, nat_eq, eq-eqb, ne_eqb, if◌then◌else◌, length, Option, Some, None}
use Rattle.std.specs.Prelude.{IfNone, IfSome, slice_get, slice_index, take}
use Rattle.std.proofs.lemmas.Bool.{true≢false}
use Rattle.std.proofs.lemmas.Option.{slice_get-get_or}
use Rattle.usp_ere.specs.declared.nodes.Node.{Node}
use Rattle.usp_ere.specs.declared.nodes.Node.TheVariants.{Accept, Byte, Any, OneOf, Begin, End, Split}
use Rattle.usp_ere.specs.declared.course.Start.{Start}
use Rattle.usp_ere.specs.Alone.{takes, listed, Follows, IsBehind, IsInside, IsNext}
use Rattle.usp_ere.specs.declared.alone.Behind.{Behind}
use Rattle.usp_ere.specs.declared.alone.Behind.TheVariants.{Nothing, One, More}
use Rattle.usp_ere.specs.Bytes.{holds}
use Rattle.usp_ere.proofs.NodeSetLemmas.{all_cases}
use Rattle.usp_ere.specs.NodeSets.{has, with_one, with_all}
use Rattle.usp_ere.specs.Walk.{stays, goes, IsBegun, IsBelow, IsOn, IsWalked, Grows, Spends}
use Rattle.usp_ere.proofs.WalkLemmas.{grows_all, grows_same, next_times, on_next, only, reached_none, spends_begun, spends_then, walked_more}

-- a node that takes a byte stays nowhere, and does not accept
stays_none : (node : Node) (first : Bool) (byte : Option ℕ) → takes node ≡ true → stays node first byte ≡ []
stays_none Accept first byte h = absurd (true≢false (sym h))
stays_none (Byte c next) first byte h = refl
stays_none (Any next) first byte h = refl
stays_none (OneOf s next) first byte h = refl
stays_none (Begin next) first byte h = absurd (true≢false (sym h))
stays_none (End next) first byte h = absurd (true≢false (sym h))
stays_none (Split a b) first byte h = absurd (true≢false (sym h))

takes_no_accept : (ns : List Node) (q : ℕ) (node : Node) → slice_get ns 0 ≡ Some Accept → slice_get ns q ≡ Some node → takes node ≡ true → q ≡ 0 → ⊥
takes_no_accept ns q node acc is h z =
    let e : slice_get ns 0 ≡ Some node = subst (λ k. slice_get ns k ≡ Some node) z is in
    let same : node ≡ Accept = cc in true≢false (sym h ∙ ap takes same)

split_no_accept : (ns : List Node) (q a b : ℕ) → slice_get ns 0 ≡ Some Accept → slice_get ns q ≡ Some (Split a b) → q ≡ 0 → ⊥
split_no_accept ns q a b acc is z =
    let e : slice_get ns 0 ≡ Some (Split a b) = subst (λ k. slice_get ns k ≡ Some (Split a b)) z is in cc

takes_no_split : (ns : List Node) (q s : ℕ) (node : Node) (a b : ℕ) → slice_get ns q ≡ Some (Split a b) → slice_get ns s ≡ Some node → takes node ≡ true → q ≢ s
takes_no_split ns q s node a b is at h z =
    let e : slice_get ns q ≡ Some node = subst (λ k. slice_get ns k ≡ Some node) (sym z) at in
    let same : node ≡ Split a b = cc in true≢false (sym h ∙ ap takes same)

-- no node of the place was worked
walked_none : (u : List ℕ) (ns : List Node) (start : Start) (at : ℕ) (list : List ℕ) → IsOn u ns start at list → IsWalked u ns start at 0 list []
walked_none u ns start at list on = record { reached = on.reached; ahead = reached_none u ns start (at + 1); done = λ q h. absurd (true≢false (sym h)) }

-- one that takes a byte was worked
walked_taker : (u : List ℕ) (ns : List Node) (start : Start) (at k : ℕ) (now next : List ℕ) (q : ℕ) (node : Node) → at ≤ length u → slice_get ns 0 ≡ Some Accept
    → slice_get now k ≡ Some q → slice_get ns q ≡ Some node → takes node ≡ true → IsWalked u ns start at k now next
    → IsWalked u ns start at (k + 1) now (with_all next (goes node (slice_get u at)))
walked_taker u ns start at k now next q node le acc listed is h w =
    subst (λ l. IsWalked u ns start at (k + 1) (with_all now l) (with_all next (goes node (slice_get u at)))) (stays_none node (nat_eq at 0) (slice_get u at) h)
    (walked_more u ns start at k now next q node le listed is (takes_no_accept ns q node acc is h) w)

all_listed : (m : Option ℕ) → with_all [] (listed m) ≡ listed m
all_listed None = refl
all_listed (Some q) = refl

pub follows_taker : (u : List ℕ) (ns : List Node) (start : Start) (at q d : ℕ) (node : Node) (m : Option ℕ) → at < length u → slice_get ns 0 ≡ Some Accept
    → slice_index u at ≡ d → slice_get ns q ≡ Some node → takes node ≡ true → listed m ≡ goes node (Some d) → Follows u ns start at q (listed m)
follows_taker u ns start at q d node m lt acc byte is h e = record {
  by = λ begun on.
      let here : slice_get u at ≡ Some d = slice_get-get_or u at 0 lt ∙ ap (λ x. Some x) byte in
      let goes_to : goes node (slice_get u at) ≡ listed m = ap (goes node) here ∙ sym e in
      let w : IsWalked u ns start at (0 + 1) (q ∷ []) (with_all [] (goes node (slice_get u at))) = walked_taker u ns start at 0 (q ∷ []) [] q node (omega arith) acc refl is h (walked_none u ns start at (q ∷ []) on) in
      let v : IsWalked u ns start at 1 (q ∷ []) (listed m) = subst (λ l. IsWalked u ns start at 1 (q ∷ []) l) (ap (with_all []) goes_to ∙ all_listed m) w in
      on_next u ns start at (q ∷ []) (q ∷ []) (q ∷ []) (listed m) (grows_same (q ∷ [])) (grows_same (q ∷ [])) begun v on;
}

-- three different nodes
three : (q a b : ℕ) → q ≢ a → q ≢ b → a ≢ b → with_all (q ∷ []) (a ∷ b ∷ []) ≡ q ∷ a ∷ b ∷ []
three q a b qa qb ab =
    let first : with_one (q ∷ []) a ≡ q ∷ a ∷ [] = ap (λ t. if t || false then q ∷ [] else q ∷ a ∷ []) (ne_eqb q a qa) in
    let second : with_one (q ∷ a ∷ []) b ≡ q ∷ a ∷ b ∷ [] = ap (λ t. if t || (nat_eq a b || false) then q ∷ a ∷ [] else q ∷ a ∷ b ∷ []) (ne_eqb q b qb) ∙ ap (λ t. if t || false then q ∷ a ∷ [] else q ∷ a ∷ b ∷ []) (ne_eqb a b ab) in
    ap (λ l. with_one l b) first ∙ second

pub follows_fork : (u : List ℕ) (ns : List Node) (start : Start) (at q a b d : ℕ) (x y : Node) (m n : Option ℕ) → at < length u → slice_get ns 0 ≡ Some Accept
    → slice_index u at ≡ d → slice_get ns q ≡ Some (Split a b) → slice_get ns a ≡ Some x → slice_get ns b ≡ Some y → takes x ≡ true → takes y ≡ true → a ≢ b
    → listed m ≡ goes x (Some d) → listed n ≡ goes y (Some d) → Follows u ns start at q (with_all (listed m) (listed n))
follows_fork u ns start at q a b d x y m n lt acc byte is left right h k ab e f = record {
  by = λ begun on.
      let here : slice_get u at ≡ Some d = slice_get-get_or u at 0 lt ∙ ap (λ z. Some z) byte in
      let goes_to : goes x (slice_get u at) ≡ listed m = ap (goes x) here ∙ sym e in
      let goes_too : goes y (slice_get u at) ≡ listed n = ap (goes y) here ∙ sym f in
      let all : with_all (q ∷ []) (a ∷ b ∷ []) ≡ q ∷ a ∷ b ∷ [] = three q a b (takes_no_split ns q a x a b is left h) (takes_no_split ns q b y a b is right k) ab in
      let none : with_all [] (goes (Split a b) (slice_get u at)) ≡ [] = ap (λ o. with_all [] (goes (Split a b) o)) here in
      let w = walked_more u ns start at 0 (q ∷ []) [] q (Split a b) (omega arith) refl is (split_no_accept ns q a b acc is) (walked_none u ns start at (q ∷ []) on) in
      let v : IsWalked u ns start at 1 (q ∷ a ∷ b ∷ []) [] = subst (λ l. IsWalked u ns start at 1 l []) all (subst (λ l. IsWalked u ns start at 1 (with_all (q ∷ []) (a ∷ b ∷ [])) l) none w) in
      let v2 : IsWalked u ns start at 2 (q ∷ a ∷ b ∷ []) (with_all [] (goes x (slice_get u at))) = walked_taker u ns start at 1 (q ∷ a ∷ b ∷ []) [] a x (omega arith) acc refl left h v in
      let v3 : IsWalked u ns start at 3 (q ∷ a ∷ b ∷ []) (with_all (with_all [] (goes x (slice_get u at))) (goes y (slice_get u at))) = walked_taker u ns start at 2 (q ∷ a ∷ b ∷ []) _ b y (omega arith) acc refl right k v2 in
      let whole : with_all (with_all [] (goes x (slice_get u at))) (goes y (slice_get u at)) ≡ with_all (listed m) (listed n) =
      ap (λ l. with_all (with_all [] l) (goes y (slice_get u at))) goes_to ∙ ap (λ l. with_all l (goes y (slice_get u at))) (all_listed m) ∙ ap (with_all (listed m)) goes_too in
      on_next u ns start at (q ∷ []) (q ∷ []) (q ∷ a ∷ b ∷ []) (with_all (listed m) (listed n)) (grows_same (q ∷ []))
      (subst (Grows (q ∷ [])) all (grows_all (q ∷ []) (a ∷ b ∷ []))) begun (subst (λ l. IsWalked u ns start at 3 (q ∷ a ∷ b ∷ []) l) whole v3) on;
}

pub next_one : (u : List ℕ) (ns : List Node) (start : Start) (at q : ℕ) (b : Behind) (list : List ℕ) → IsBehind b list → Follows u ns start at q list → IsNext u ns start at q b
next_one u ns start at q Nothing list e f = subst (Follows u ns start at q) e f
next_one u ns start at q (One r) list e f = subst (Follows u ns start at q) e f
next_one u ns start at q More list e f = tt

-- what a node leads to is a node

from_if : (t : Bool) (next n q : ℕ) → next < n → has q (if t then next ∷ [] else []) ≡ true → q < n
from_if true next n q lt h = subst (λ k. k < n) (sym (only next q h)) lt
from_if false next n q lt h = absurd (true≢false (sym h))

goes_below : (node : Node) (byte : Option ℕ) (n q : ℕ) → IsBelow node n → has q (goes node byte) ≡ true → q < n
goes_below node None n q b h = absurd (true≢false (sym h))
goes_below Accept (Some d) n q b h = absurd (true≢false (sym h))
goes_below (Byte c next) (Some d) n q b h = from_if (nat_eq d c) next n q b h
goes_below (Any next) (Some d) n q b h = subst (λ k. k < n) (sym (only next q h)) b
goes_below (OneOf s next) (Some d) n q b h = from_if (holds s d) next n q b h
goes_below (Begin next) (Some d) n q b h = absurd (true≢false (sym h))
goes_below (End next) (Some d) n q b h = absurd (true≢false (sym h))
goes_below (Split v w) (Some d) n q b h = absurd (true≢false (sym h))

-- the members are below a number
record AreInside (list : List ℕ) (n : ℕ) : Type 0 where
  by : (q : ℕ) → has q list ≡ true → q < n

inside_by : (b : Behind) (list : List ℕ) (n : ℕ) → IsBehind b list → AreInside list n → IsInside b n
inside_by Nothing list n e a = tt
inside_by (One q) list n e a = a.by q (subst (λ l. has q l ≡ true) (sym e) (ap (λ t. t || false) (eq-eqb q q refl)))
inside_by More list n e a = tt

pub inside_one : (b : Behind) (node : Node) (byte : Option ℕ) (list : List ℕ) (n : ℕ) → IsBehind b list → list ≡ goes node byte → IsBelow node n → IsInside b n
inside_one b node byte list n e same below = inside_by b list n e (record { by = λ q h. goes_below node byte n q below (subst (λ l. has q l ≡ true) same h) })

pub inside_both : (b : Behind) (x y : Node) (byte : Option ℕ) (first second : List ℕ) (n : ℕ) → IsBehind b (with_all first second) → first ≡ goes x byte → second ≡ goes y byte
    → IsBelow x n → IsBelow y n → IsInside b n
inside_both b x y byte first second n e same other below under = inside_by b (with_all first second) n e (record {
  by = λ q h. elim (all_cases q first second h) [
    | inl old ↦ goes_below x byte n q below (subst (λ l. has q l ≡ true) same old)
    | inr new ↦ goes_below y byte n q under (subst (λ l. has q l ≡ true) other new)
  ];
})

-- one place more
pub spends_one : (size old from steps at new next : ℕ) → Spends size old from 1 steps at 1 → new + 1 ≤ steps + size + next → Spends size old from 1 new (at + 1) next
spends_one size old from steps at new next s le = record { by = λ n h. omega (arith, s.by n h, next_times at size) }

-- the start was entered before
pub begun_none : (size old at now begun entered new to next : ℕ) (r : Option ℕ) → begun + now ≡ old + entered → IfNone r (Spends size begun at entered new to next) → IfNone r (Spends size old at now new to next)
begun_none size old at now begun entered new to next None e s = spends_begun size old at now begun entered new to next e s
begun_none size old at now begun entered new to next (Some x) e s = tt

-- a node that was not followed
lone_length : (m : Option ℕ) (a b : ℕ) → IfNone m (a < b) → b ≡ a → length (listed m) ≡ 1
lone_length None a b lt e = absurd (omega (arith, lt))
lone_length (Some q) a b lt e = refl

pub still : (size old at now begun steps stop : ℕ) (m : Option ℕ) → begun + now ≡ old + 1 → IfNone m (at < stop) → stop ≡ at → Spends size begun at 1 steps stop (length (listed m)) → Spends size old at now steps at 1
still size old at now begun steps stop m e f same s =
    spends_begun size old at now begun 1 steps at 1 e
    (subst (λ k. Spends size begun at 1 steps k 1) same (subst (λ k. Spends size begun at 1 steps stop k) (lone_length m at stop f same) s))

pub still_some : (size old at now steps entered new next : ℕ) (r : Option ℕ) → entered ≡ 1 → Spends size old at now steps at 1 → IfSome r (λ to. Spends size steps at entered new to next) → IfSome r (λ to. Spends size old at now new to next)
still_some size old at now steps entered new next None one s r = tt
still_some size old at now steps entered new next (Some to) one s r = spends_then size old at now steps at 1 new to next s (subst (λ k. Spends size steps at k new to next) one r)

pub still_none : (size old at now steps entered new to next : ℕ) (r : Option ℕ) → entered ≡ 1 → Spends size old at now steps at 1 → IfNone r (Spends size steps at entered new to next) → IfNone r (Spends size old at now new to next)
still_none size old at now steps entered new to next None one s r = spends_then size old at now steps at 1 new to next s (subst (λ k. Spends size steps at k new to next) one r)
still_none size old at now steps entered new to next (Some x) one s r = tt
