-- Seats that were taken into one.
use Rattle.std.proofs.Common.{◌≡◌, refl, sym, ap, ◌∙◌, subst, ℕ, zero, suc, ◌+◌, ◌-◌, ◌≤◌, ◌<◌, List, [], ◌∷◌, ◌++◌, length, map, take, append-nil, append_assoc, length-append, arith}
use Rattle.std.specs.List.{AllByRecursion}
use Rattle.std.specs.Prelude.{slice_index_or}
use mathlib.Core.List.{IsPrefix}
use Rattle.usp_edge.specs.SeatLaws.{stand_later}
use Rattle.usp_shared.proofs.Fronts.{prefix_length, prefix_self, prefix_trans}
use Rattle.usp_edge.specs.Calls.{Placed}
use Rattle.usp_edge.specs.Seats.{Rise, SeatGains}
use Rattle.usp_lab.specs.Shares.{TakenIn, next, start}
use Rattle.usp_lab.specs.Tables.{Gets, kept_of, part_of}
use Rattle.usp_nonce.specs.History.{Call}
use Rattle.usp_shared.specs.Places.{times}
use Rattle.usp_shared.specs.Seats.{Seated}
use Rattle.usp_lab.proofs.Rounds.Calling.{rise_wider, times_both}
use Rattle.usp_lab.proofs.Rounds.Summing.{weigh}

abbrev pub all_places : List Seated → List ℕ
all_places [] = []
all_places (seat ∷ seats) = seat.places ++ all_places seats

abbrev pub SeenBy : List Call → Seated → Type 0
SeenBy history seat = IsPrefix seat.seen history

seen_longer : (a b : List Call) (seats : List Seated) → IsPrefix a b → AllByRecursion (SeenBy a) seats → AllByRecursion (SeenBy b) seats
seen_longer a b [] more seen = tt
seen_longer a b (seat ∷ seats) more (here, seen) = (prefix_trans seat.seen a b here more, seen_longer a b seats more seen)

seen_more : (a : List Call) (seats : List Seated) (seat : Seated) → AllByRecursion (SeenBy a) seats → SeenBy a seat → AllByRecursion (SeenBy a) (seats ++ seat ∷ [])
seen_more a [] seat seen last = (last, tt)
seen_more a (other ∷ seats) seat (here, seen) last = (here, seen_more a seats seat seen last)

places_more : (seats : List Seated) (seat : Seated) → all_places (seats ++ seat ∷ []) ≡ all_places seats ++ seat.places
places_more [] seat = append-nil seat.places
places_more (other ∷ seats) seat = ap (λ ps. other.places ++ ps) (places_more seats seat) ∙ sym (append_assoc other.places (all_places seats) seat.places)

weigh_more : (h : Seated → ℕ) (seats : List Seated) (seat : Seated) → weigh h (seats ++ seat ∷ []) ≡ weigh h seats + h seat
weigh_more h [] seat = let is : h seat + 0 ≡ 0 + h seat = omega arith in is
weigh_more h (other ∷ seats) seat = let below = weigh_more h seats seat in omega (arith, below)

abbrev pub left_of : Seated → ℕ
left_of seat = seat.left

-- what the seat has that others were taken into
pub record HasAll (old new : Seated) (seats : List Seated) : Type 0 where
  pub table : new.table ≡ old.table
  pub places : new.places ≡ old.places ++ all_places seats
  pub left : new.left ≡ old.left + weigh left_of seats
  pub more : IsPrefix old.seen new.seen
  pub seen : AllByRecursion (SeenBy new.seen) seats

has_next : (old mid new other : Seated) (seats : List Seated) → HasAll old mid seats → Gets mid other new → HasAll old new (seats ++ other ∷ [])
has_next old mid new other seats had got = record {
  table = got.table ∙ had.table;
  places = got.places ∙ (ap (λ ps. ps ++ other.places) had.places ∙ (append_assoc old.places (all_places seats) other.places
      ∙ ap (λ ps. old.places ++ ps) (sym (places_more seats other))));
  left = let m = weigh_more left_of seats other in omega (arith, had.left, m, got.left);
  more = prefix_trans old.seen mid.seen new.seen had.more got.more;
  seen = seen_more new.seen seats other (seen_longer mid.seen new.seen seats got.more had.seen) got.seen;
}

pub has_all : (old new : Seated) (seats : List Seated) → TakenIn old seats new → HasAll old new seats
has_all old new _ (start old1 new1 is) = record {
  table = ap (λ (s : Seated). s.table) is;
  places = ap (λ (s : Seated). s.places) is ∙ sym (append-nil old.places);
  left = let l : new.left ≡ old.left = ap (λ (s : Seated). s.left) is in (let e : new.left ≡ old.left + 0 = omega (arith, l) in e);
  more = subst (λ (s : Seated). IsPrefix old.seen s.seen) (sym is) (prefix_self old.seen);
  seen = tt;
}
has_all old new _ (next old1 mid new1 other seats so got) = has_next old mid new other seats (has_all old mid seats so) got

pub seen_at : (history : List Call) (seats : List Seated) (w : ℕ) (d : Seated) → w < length seats → AllByRecursion (SeenBy history) seats
    → IsPrefix (slice_index_or seats w d).seen history
seen_at history [] w d lt seen = absurd (omega (arith, lt))
seen_at history (seat ∷ seats) zero d lt (here, seen) = here
seen_at history (seat ∷ seats) (suc w) d lt (here, seen) = seen_at history seats w d (omega (arith, lt)) seen

pub times_all : (x : ℕ) (seats : List Seated) → times x (all_places seats) ≡ weigh (λ seat. times x seat.places) seats
times_all x [] = refl
times_all x (seat ∷ seats) = times_both x seat.places (all_places seats) ∙ ap (λ n. times x seat.places + n) (times_all x seats)

pub long_all : (seats : List Seated) → length (all_places seats) ≡ weigh (λ seat. length seat.places) seats
long_all [] = refl
long_all (seat ∷ seats) = length-append seat.places (all_places seats) ∙ ap (λ n. length seat.places + n) (long_all seats)

-- A seat that gave a part, took it back when that had made calls, and so made them.
pub gains_by_part : (old kept over new : Seated) (part : ℕ) (calls : List Placed) → kept ≡ kept_of part old → part ≤ old.left
    → SeatGains (part_of part old) over calls → Gets kept over new → SeatGains old new calls
gains_by_part old kept over new part calls is le gains got = record {
  table = got.table ∙ ap (λ (s : Seated). s.table) is;
  places = got.places ∙ (ap (λ (s : Seated). s.places ++ over.places) is ∙ ap (λ ps. old.places ++ ps) gains.places);
  stand = stand_later over.seen new.seen calls got.seen gains.stand;
  rise = rise_wider (length old.seen) (length over.seen) (length new.seen) calls (prefix_length over.seen new.seen got.seen) gains.rise;
  more = prefix_trans old.seen over.seen new.seen gains.more got.seen;
  fallen =
      let l : kept.left ≡ old.left - part = ap (λ (s : Seated). s.left) is in
      omega (arith, le, l, got.left, gains.fallen);
}
