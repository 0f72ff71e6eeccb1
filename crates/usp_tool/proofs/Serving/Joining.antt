-- Seats that were taken back into one.
use Rattle.std.proofs.Common.{◌≡◌, refl, sym, ap, ◌∙◌, subst, ℕ, zero, suc, ◌+◌, ◌<◌, List, [], ◌∷◌, ◌++◌, length, map, take, append-nil, append_assoc, Option, Some, None, arith}
use Rattle.std.specs.Prelude.{slice_index_or}
use mathlib.Core.List.{IsPrefix}
use Rattle.usp_nonce.specs.History.{Call}
use Rattle.usp_shared.specs.Seats.{Seated}
use Rattle.usp_shared.proofs.Fronts.{prefix_trans}
use Rattle.usp_tool.specs.Edge.Joins.{Took, TakenIn, next, start}

abbrev pub places_in : Option Seated → List ℕ
places_in None = []
places_in (Some s) = s.places

abbrev pub left_in : Option Seated → ℕ
left_in None = 0
left_in (Some s) = s.left

abbrev pub all_places : List (Option Seated) → List ℕ
all_places [] = []
all_places (s ∷ seats) = places_in s ++ all_places seats

abbrev pub all_left : List (Option Seated) → ℕ
all_left [] = 0
all_left (s ∷ seats) = left_in s + all_left seats

-- each seat that there is has seen a beginning of the history
abbrev pub SeenBy : List Call → Option Seated → Type 0
SeenBy history None = Unit {0}
SeenBy history (Some s) = IsPrefix s.seen history

abbrev pub AllSeen : List Call → List (Option Seated) → Type 0
AllSeen history [] = Unit {0}
AllSeen history (s ∷ seats) = SeenBy history s × AllSeen history seats

seen_longer : (a b : List Call) (s : Option Seated) → IsPrefix a b → SeenBy a s → SeenBy b s
seen_longer a b None more seen = tt
seen_longer a b (Some s) more seen = prefix_trans s.seen a b seen more

all_longer : (a b : List Call) (seats : List (Option Seated)) → IsPrefix a b → AllSeen a seats → AllSeen b seats
all_longer a b [] more seen = tt
all_longer a b (s ∷ seats) more (here, seen) = (seen_longer a b s more here, all_longer a b seats more seen)

all_more : (a : List Call) (seats : List (Option Seated)) (s : Option Seated) → AllSeen a seats → SeenBy a s → AllSeen a (seats ++ s ∷ [])
all_more a [] s seen last = (last, tt)
all_more a (t ∷ seats) s (here, seen) last = (here, all_more a seats s seen last)

places_more : (seats : List (Option Seated)) (s : Option Seated) → all_places (seats ++ s ∷ []) ≡ all_places seats ++ places_in s
places_more [] s = append-nil (places_in s)
places_more (t ∷ seats) s = ap (λ ps. places_in t ++ ps) (places_more seats s) ∙ sym (append_assoc (places_in t) (all_places seats) (places_in s))

left_more : (seats : List (Option Seated)) (s : Option Seated) → all_left (seats ++ s ∷ []) ≡ all_left seats + left_in s
left_more [] s = let is : left_in s + 0 ≡ 0 + left_in s = omega arith in is
left_more (t ∷ seats) s = let below = left_more seats s in let is : left_in t + all_left (seats ++ s ∷ []) ≡ (left_in t + all_left seats) + left_in s = omega (arith, below) in is

-- What the seat has that others were taken into.
pub record HasAll (old new : Seated) (seats : List (Option Seated)) : Type 0 where
  pub table : new.table ≡ old.table
  pub places : new.places ≡ old.places ++ all_places seats
  pub left : new.left ≡ old.left + all_left seats
  pub seen : AllSeen new.seen seats

has_next : (old mid new : Seated) (seats : List (Option Seated)) (s : Option Seated) → HasAll old mid seats → Took mid s new → HasAll old new (seats ++ s ∷ [])
has_next old mid new seats None had is = record {
  table = ap (λ (s : Seated). s.table) is ∙ had.table;
  places = ap (λ (s : Seated). s.places) is ∙ (had.places ∙ ap (λ ps. old.places ++ ps) (sym (places_more seats None ∙ append-nil (all_places seats))));
  left = let m = left_more seats None in (let l : new.left ≡ mid.left = ap (λ (s : Seated). s.left) is in omega (arith, had.left, m, l));
  seen = all_more new.seen seats None (subst (λ (s : Seated). AllSeen s.seen seats) (sym is) had.seen) tt;
}
has_next old mid new seats (Some other) had took = record {
  table = took.table ∙ had.table;
  places = took.places ∙ (ap (λ ps. ps ++ other.places) had.places ∙ (append_assoc old.places (all_places seats) other.places
      ∙ ap (λ ps. old.places ++ ps) (sym (places_more seats (Some other)))));
  left = let m = left_more seats (Some other) in omega (arith, had.left, m, took.left);
  seen = all_more new.seen seats (Some other) (all_longer mid.seen new.seen seats took.more had.seen) took.seen;
}

pub has_all : (old new : Seated) (seats : List (Option Seated)) → TakenIn old seats new → HasAll old new seats
has_all old new _ (start old1 new1 is) = record {
  table = ap (λ (s : Seated). s.table) is;
  places = ap (λ (s : Seated). s.places) is ∙ sym (append-nil old.places);
  left = let l : new.left ≡ old.left = ap (λ (s : Seated). s.left) is in (let e : new.left ≡ old.left + 0 = omega (arith, l) in e);
  seen = tt;
}
has_all old new _ (next old1 mid new1 seats seat so took) = has_next old mid new seats seat (has_all old mid seats so) took

take_next : {A B : Type 0} (f : A → B) (xs : List A) (i : ℕ) (d : A) → i < length xs → take (suc i) (map f xs) ≡ take i (map f xs) ++ f (slice_index_or xs i d) ∷ []
take_next f [] i d lt = absurd (omega (arith, lt))
take_next f (x ∷ xs) zero d lt = refl
take_next f (x ∷ xs) (suc i) d lt = ap (λ l. f x ∷ l) (take_next f xs i d (omega (arith, lt)))

-- one more worker's seat is taken
pub taken_next : {W : Type 0} (f : W → Option Seated) (old mid new : Seated) (xs now : List W) (i : ℕ) (d : W) → i < length xs → slice_index_or now i d ≡ slice_index_or xs i d
    → TakenIn old (take i (map f xs)) mid → Took mid (f (slice_index_or now i d)) new → TakenIn old (take (i + 1) (map f xs)) new
taken_next f old mid new xs now i d lt same so took =
    subst (λ n. TakenIn old (take n (map f xs)) new) (let e : suc i ≡ i + 1 = omega arith in e)
    (subst (λ l. TakenIn old l new) (sym (take_next f xs i d lt)) (next old mid new (take i (map f xs)) (f (slice_index_or xs i d)) so
    (subst (λ w. Took mid (f w) new) same took)))

pub none_taken : (a : Seated) → TakenIn a [] a
none_taken a = start a a refl
