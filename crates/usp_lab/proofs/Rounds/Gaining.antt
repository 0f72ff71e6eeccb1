-- What the seat of an edge gains in a round.
use Rattle.std.proofs.Common.{◌≡◌, ◌≢◌, refl, sym, ap, ◌∙◌, subst, ℕ, zero, suc, ◌+◌, ◌-◌, ◌*◌, ◌≤◌, ◌<◌, ◌⊎◌, inl, inr, Bool, true, false, List, [], ◌∷◌, ◌++◌, length, map, suc-mul, length-append, if◌then◌else◌, arith}
use Rattle.std.specs.List.{AllByRecursion}
use Rattle.std.specs.Prelude.{slice_index_or, nat_lt}
use Rattle.std.proofs.lemmas.Bool.{ltb-true, ltb-false}
use mathlib.Core.List.{IsPrefix}
use Rattle.usp_edge.specs.SeatLaws.{stand_later}
use Rattle.usp_shared.proofs.Fronts.{prefix_length}
use Rattle.usp_edge.specs.Calls.{Placed}
use Rattle.usp_edge.specs.Seats.{Rise, SeatGains, StandIn, places_of}
use Rattle.usp_lab.specs.Gains.{GainsRound}
use Rattle.usp_lab.specs.Rounds.{Served, calls_at}
use Rattle.usp_lab.specs.Shares.{TakenIn}
use Rattle.usp_lab.specs.Tables.{kept_of, part_of}
use Rattle.usp_lab.specs.Turns.{IsRoundAt}
use Rattle.usp_nonce.specs.History.{Call}
use Rattle.usp_shared.specs.Places.{times}
use Rattle.usp_shared.specs.Seats.{Seated}
use Rattle.usp_lab.specs.Shares.{share_of}
use Rattle.usp_lab.specs.Turns.{one_in}
use Rattle.usp_lab.proofs.Rounds.Calling.{calls_here, calls_knowing, knowing, many_calls, rise_wider, stand_all, stand_each, times_both, times_calls}
use Rattle.usp_lab.proofs.Rounds.Dealing.{mapped_in, none_in, share_first, short_in}
use Rattle.usp_lab.proofs.Rounds.Joining.{HasAll, all_places, has_all, left_of, long_all, seen_at, times_all}
use Rattle.usp_lab.proofs.Rounds.Summing.{every_part, sum_of, sum_same, sum_to, weigh, weigh_parts}

sum_each : (n part : ℕ) (f g : ℕ → ℕ) → ((k : ℕ) → k < n → f k + g k ≡ part) → sum_to n f + sum_to n g ≡ n * part
sum_each zero part f g each = let is : 0 + 0 ≡ 0 * part = omega arith in is
sum_each (suc n) part f g each =
    let here = each 0 (omega arith) in
    let below = sum_each n part (λ k. f (suc k)) (λ k. g (suc k)) (λ k lt. each (suc k) (omega (arith, lt))) in
    let more = suc-mul n part in
    omega (arith, here, below, more)

mapped_many : {X Y : Type 0} (f : X → Y) (xs : List X) → length (map f xs) ≡ length xs
mapped_many f [] = refl
mapped_many f (x ∷ xs) = ap suc (mapped_many f xs)

-- Each of so many workers had a part of the seat, and made the calls of its asks with it. All parts were taken back.
module _ (count edge part : ℕ) (some : 0 < count) (old new d : Seated) (seats : List Seated) (all : List Served)
    (fits : count * part ≤ old.left) (taken : TakenIn (kept_of (count * part) old) seats new) (many : length seats ≡ count)
    (gains : (w : ℕ) → w < count → SeatGains (part_of part old) (slice_index_or seats w d) (calls_at edge (share_of count 0 w all))) where
  has : HasAll (kept_of (count * part) old) new seats
  has = has_all (kept_of (count * part) old) new seats taken

  its_sum : (h : Seated → ℕ) → weigh h seats ≡ sum_to count (λ w. h (slice_index_or seats w d))
  its_sum h = sum_of h seats d ∙ ap (λ n. sum_to n (λ w. h (slice_index_or seats w d))) many

  its_times : (x : ℕ) → times x (all_places seats) ≡ times x (places_of (calls_at edge all))
  its_times x =
      let h = λ (served : Served). times x (places_of (calls_here edge served)) in
      times_all x seats ∙ (its_sum (λ seat. times x seat.places)
      ∙ (sum_same count (λ w. weigh h (share_of count 0 w all)) (λ w. times x (slice_index_or seats w d).places)
      (λ w lt. ap (times x) (gains w lt).places ∙ times_calls x edge (share_of count 0 w all))
      ∙ (weigh_parts count some h 0 all ∙ sym (times_calls x edge all))))

  its_many : sum_to count (λ w. length (calls_at edge (share_of count 0 w all))) ≡ length (calls_at edge all)
  its_many =
      let h = λ (served : Served). length (calls_here edge served) in
      sum_same count (λ w. weigh h (share_of count 0 w all)) (λ w. length (calls_at edge (share_of count 0 w all)))
      (λ w lt. many_calls edge (share_of count 0 w all))
      ∙ (weigh_parts count some h 0 all ∙ sym (many_calls edge all))

  its_long : length (all_places seats) ≡ length (calls_at edge all)
  its_long =
      long_all seats ∙ (its_sum (λ seat. length seat.places)
      ∙ (sum_same count (λ w. length (calls_at edge (share_of count 0 w all))) (λ w. length (slice_index_or seats w d).places)
      (λ w lt. ap length (gains w lt).places ∙ mapped_many (λ (of : Placed). of.place) (calls_at edge (share_of count 0 w all)))
      ∙ its_many))

  its_left : new.left + length (calls_at edge all) ≡ old.left
  its_left =
      let l = has.left in
      let s = its_sum left_of in
      let each = sum_each count part (λ w. left_of (slice_index_or seats w d)) (λ w. length (calls_at edge (share_of count 0 w all))) (λ w lt. (gains w lt).fallen) in
      let m = its_many in
      let e : new.left + length (calls_at edge all) ≡ old.left = omega (arith, l, s, each, m, fits) in e

  its_whole : new.left + length new.places ≡ old.left + length old.places
  its_whole =
      let p : length new.places ≡ length old.places + length (all_places seats) = ap length has.places ∙ length-append old.places (all_places seats) in
      let m = its_long in
      let l = its_left in
      omega (arith, p, m, l)

  stands_in : (w : ℕ) → w < count → AllByRecursion (λ served. StandIn new.seen (calls_here edge served)) (share_of count 0 w all)
  stands_in w lt =
      stand_each new.seen edge (share_of count 0 w all)
      (stand_later (slice_index_or seats w d).seen new.seen (calls_at edge (share_of count 0 w all))
      (seen_at new.seen seats w d (let m = many in omega (arith, lt, m)) has.seen) (gains w lt).stand)

  rises_in : IsRoundAt count edge (length old.seen) (length new.seen) all
  rises_in w lt =
      subst (λ l. Rise (length old.seen) (length new.seen) (calls_at edge l)) (share_first count w all)
      (rise_wider (length old.seen) (length (slice_index_or seats w d).seen) (length new.seen) (calls_at edge (share_of count 0 w all))
      (prefix_length (slice_index_or seats w d).seen new.seen (seen_at new.seen seats w d (let m = many in omega (arith, lt, m)) has.seen)) (gains w lt).rise)

  pub gains_round : GainsRound count edge old new all
  gains_round = record {
    table = has.table;
    places = λ x. ap (times x) has.places ∙ (times_both x old.places (all_places seats) ∙ ap (λ n. times x old.places + n) (its_times x));
    stand = stand_all new.seen edge all (every_part count some (λ served. StandIn new.seen (calls_here edge served)) 0 all stands_in);
    more = has.more;
    turns = rises_in;
    fallen = its_left;
    whole = its_whole;
  }

-- ---- as many workers as there are, of whom only so many have asks

rises_by : (count workers edge first last : ℕ) (all : List Served) → 0 < count → count ≤ workers → length all ≤ count → first ≤ last
    → IsRoundAt count edge first last all → (w : ℕ) (less : Bool) → nat_lt w count ≡ less → w < workers → Rise first last (calls_at edge (one_in workers w all))
rises_by count workers edge first last all some le short order rises w true is lt =
    subst (λ l. Rise first last (calls_at edge l)) (short_in count workers w all some (omega (arith, some, le)) (omega (arith, short)) (omega (arith, short, le)))
    (rises w (ltb-true w count is))
rises_by count workers edge first last all some le short order rises w false is lt =
    subst (λ l. Rise first last (calls_at edge l)) (sym (none_in workers w all (let above = ltb-false w count is in omega (arith, short, above)))) order

pub round_of_more : (count workers edge : ℕ) (old new : Seated) (all : List Served) → 0 < count → count ≤ workers → length all ≤ count
    → GainsRound count edge old new all → GainsRound workers edge old new all
round_of_more count workers edge old new all some le short gains = record {
  table = gains.table;
  places = gains.places;
  stand = gains.stand;
  more = gains.more;
  turns = λ w lt. rises_by count workers edge (length old.seen) (length new.seen) all some le short (prefix_length old.seen new.seen gains.more) gains.turns w (nat_lt w count) refl lt;
  fallen = gains.fallen;
  whole = gains.whole;
}

-- ---- however many tokens the ledger had

pub round_knowing : (known workers edge : ℕ) (old new : Seated) (all : List Served) → GainsRound workers edge old new all
    → GainsRound workers edge old new (map (knowing known) all)
round_knowing known workers edge old new all gains = record {
  table = gains.table;
  places = λ x. gains.places x ∙ ap (λ calls. times x old.places + times x (places_of calls)) (sym (calls_knowing known edge all));
  stand = subst (StandIn new.seen) (sym (calls_knowing known edge all)) gains.stand;
  more = gains.more;
  turns = λ w lt. subst (λ l. Rise (length old.seen) (length new.seen) (calls_at edge l)) (sym (mapped_in (knowing known) workers w all))
      (subst (Rise (length old.seen) (length new.seen)) (sym (calls_knowing known edge (one_in workers w all))) (gains.turns w lt));
  fallen = ap (λ calls. new.left + length calls) (calls_knowing known edge all) ∙ gains.fallen;
  whole = gains.whole;
}
