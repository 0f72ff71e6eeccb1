-- What the seats of tables have, round after round, and the histories that come of it.
use Rattle.std.proofs.Common.{◌≡◌, map, refl, sym, ap, ◌∙◌, subst, ℕ, zero, suc, ◌+◌, ◌*◌, ◌≤◌, ◌<◌, List, [], ◌∷◌, ◌++◌, length, length-append, append_assoc, append-nil, Option, Some, None, Bool, true, false, if◌then◌else◌, ◌==◌, arith}
use Rattle.std.specs.Prelude.{All, slice_get}
use Rattle.std.specs.Option.{option_map}
use Rattle.std.proofs.lemmas.List.{map-append}
use Rattle.std.proofs.lemmas.Option.{get_or_from_slice_get, slice_get-map, slice_get_within}
use Rattle.usp_conf.specs.Values.{ConfValue}
use Rattle.usp_edge.specs.Calls.{Placed}
use Rattle.usp_edge.specs.SeatLaws.{stand_both, stand_later}
use Rattle.usp_edge.specs.Seats.{StandIn, places_of}
use Rattle.usp_nonce.specs.History.{IsLegal}
use Rattle.usp_shared.proofs.Counts.{times_append}
use Rattle.usp_shared.specs.Places.{AreAllBelow, times}
use Rattle.usp_shared.specs.Seats.{Seated, Shared}
use Rattle.usp_script.specs.declared.ask.Round.{Round}
use Rattle.usp_lab.specs.Entries.{Run, nothing_run, served_in, with_round}
use Rattle.usp_lab.specs.Gains.{GainsRound, HaveGained}
use Rattle.usp_lab.specs.Rounds.{Served, all_of, calls_at}
use Rattle.usp_lab.specs.Turns.{AreInTurn, HasHistory, IsRoundAt, ends, goes_on}
use Rattle.usp_lab.specs.Tables.{IsFresh, IsWhole, TableValue, seat_of, shared_of}
use Rattle.usp_lab.specs.UnderWay.{AreFresh, HasMade, HaveMade, IsOneHistory, calls_made, table_share}

-- ---- rounds and calls

pub all_more : {X : Type 0} (rounds : List (List X)) (round : List X) → all_of (rounds ++ round ∷ []) ≡ all_of rounds ++ round
all_more [] round = append-nil round
all_more (first ∷ rounds) round =
    ap (λ rest. first ++ rest) (all_more rounds round) ∙ sym (append_assoc first (all_of rounds) round)

pub calls_both : (place : ℕ) (xs ys : List Served) → calls_at place (xs ++ ys) ≡ calls_at place xs ++ calls_at place ys
calls_both place [] ys = refl
calls_both place (served ∷ xs) ys =
    let own : List Placed = if served.ask.edge == place then served.calls else [] in
    ap (λ rest. own ++ rest) (calls_both place xs ys) ∙ sym (append_assoc own (calls_at place xs) (calls_at place ys))

pub calls_more : (place : ℕ) (rounds : List (List Served)) (round : List Served)
    → calls_at place (all_of (rounds ++ round ∷ [])) ≡ calls_at place (all_of rounds) ++ calls_at place round
calls_more place rounds round =
    ap (calls_at place) (all_more rounds round) ∙ calls_both place (all_of rounds) round

-- ---- turns

turns_more : (workers edge first between last : ℕ) (rounds : List (List Served)) (round : List Served)
    → AreInTurn workers edge first rounds between → IsRoundAt workers edge between last round
    → AreInTurn workers edge first (rounds ++ round ∷ []) last
turns_more workers edge first between last _ round (ends first1 last1 is) turn =
    goes_on first last last round [] (subst (λ n. IsRoundAt workers edge n last round) is turn) (ends last last refl)
turns_more workers edge first between last _ round (goes_on first1 mid last1 here rounds at behind) turn =
    goes_on first mid last here (rounds ++ round ∷ []) at
    (turns_more workers edge mid between last rounds round behind turn)

-- ---- one seat

stand_more : (place : ℕ) (rounds : List (List Served)) (all : List Served) (old new : Seated) (workers : ℕ)
    → StandIn old.seen (calls_at place (all_of rounds)) → GainsRound workers place old new all
    → StandIn new.seen (calls_at place (all_of (rounds ++ all ∷ [])))
stand_more place rounds all old new workers stand gains =
    let earlier = calls_at place (all_of rounds) in
    subst (StandIn new.seen) (sym (calls_more place rounds all))
    (stand_both new.seen earlier (calls_at place all) (stand_later old.seen new.seen earlier gains.more stand) gains.stand)

times_both : (x : ℕ) (a b : List Placed) → times x (places_of (a ++ b)) ≡ times x (places_of a) + times x (places_of b)
times_both x a b =
    ap (times x) (map-append (λ (of : Placed). of.place) a b) ∙ times_append x (places_of a) (places_of b)

places_more : (x place : ℕ) (rounds : List (List Served)) (all : List Served) (old new : Seated) (workers : ℕ)
    → times x old.places ≡ times x (places_of (calls_at place (all_of rounds))) → GainsRound workers place old new all
    → times x new.places ≡ times x (places_of (calls_at place (all_of (rounds ++ all ∷ []))))
places_more x place rounds all old new workers had gains =
    let both = times_both x (calls_at place (all_of rounds)) (calls_at place all) in
    let more : times x (places_of (calls_at place (all_of (rounds ++ all ∷ []))))
    ≡ times x (places_of (calls_at place (all_of rounds) ++ calls_at place all)) =
    ap (λ calls. times x (places_of calls)) (calls_more place rounds all) in
    let gained = gains.places x in
    omega (arith, both, more, gained, had)

fallen_more : (place : ℕ) (rounds : List (List Served)) (all : List Served) (old new : Seated) (workers : ℕ)
    → old.left + length (calls_at place (all_of rounds)) ≡ table_share → GainsRound workers place old new all
    → new.left + length (calls_at place (all_of (rounds ++ all ∷ []))) ≡ table_share
fallen_more place rounds all old new workers had gains =
    let more : length (calls_at place (all_of (rounds ++ all ∷ [])))
    ≡ length (calls_at place (all_of rounds) ++ calls_at place all) =
    ap (λ calls. length calls) (calls_more place rounds all) in
    let both = length-append (calls_at place (all_of rounds)) (calls_at place all) in
    let fallen = gains.fallen in
    omega (arith, more, both, fallen, had)

made_more : (workers place : ℕ) (run : Run) (round : Round) (all : List Served) (old new : TableValue)
    → HasMade workers place run old → new.shared ≡ old.shared → GainsRound workers place old.seat new.seat all
    → HasMade workers place (with_round run round all) new
made_more workers place run round all old new made same gains = record {
  stand = stand_more place run.rounds all old.seat new.seat workers made.stand gains;
  places = λ x. places_more x place run.rounds all old.seat new.seat workers (made.places x) gains;
  turns = turns_more workers place 0 (length old.seat.seen) (length new.seat.seen) run.rounds all made.turns gains.turns;
  share = ap (λ (shared : Shared). shared.share) same ∙ made.share;
  fallen = fallen_more place run.rounds all old.seat new.seat workers made.fallen gains;
}

-- ---- all tables

there : {X : Type 0} (xs : List X) (place : ℕ) → place < length xs → (x : X) × (slice_get xs place ≡ Some x)
there [] place below = absurd (omega (arith, below))
there (x ∷ xs) zero below = (x, refl)
there (x ∷ xs) (suc place) below = there xs place (omega (arith, below))

pub length_map : {X Y : Type 0} (f : X → Y) (xs : List X) → length (map f xs) ≡ length xs
length_map f [] = refl
length_map f (x ∷ xs) = ap suc (length_map f xs)

pub mapped_at : {X Y : Type 0} (f : X → Y) (xs : List X) (place : ℕ) (x : X) → slice_get xs place ≡ Some x
    → slice_get (map f xs) place ≡ Some (f x)
mapped_at f xs place x at = slice_get-map f xs place ∙ ap (option_map f) at

rooms_same : (old new : List TableValue) → map shared_of new ≡ map shared_of old
    → map (λ (table : TableValue). table.shared.room) new ≡ map (λ (table : TableValue). table.shared.room) old
rooms_same old new same = rooms_of new ∙ (ap (map (λ (shared : Shared). shared.room)) same ∙ sym (rooms_of old))
  where
    rooms_of : (tables : List TableValue)
        → map (λ (table : TableValue). table.shared.room) tables ≡ map (λ (shared : Shared). shared.room) (map shared_of tables)
    rooms_of [] = refl
    rooms_of (table ∷ tables) = ap (λ rooms. table.shared.room ∷ rooms) (rooms_of tables)

shared_at : (old new : List TableValue) (place : ℕ) (before after : TableValue) → map shared_of new ≡ map shared_of old
    → slice_get old place ≡ Some before → slice_get new place ≡ Some after → after.shared ≡ before.shared
shared_at old new place before after same was at =
    some_same after.shared before.shared
    (sym (mapped_at shared_of new place after at)
    ∙ (ap (λ shared. slice_get shared place) same ∙ mapped_at shared_of old place before was))
  where
    some_same : (a b : Shared) → Some a ≡ Some b → a ≡ b
    some_same a b is = cc

pub have_more : (edges : List ConfValue) (workers : ℕ) (run : Run) (round : Round) (all : List Served)
    (old new : List TableValue) → HaveMade edges workers run old → map shared_of new ≡ map shared_of old
    → All IsWhole new → HaveGained workers (map seat_of old) (map seat_of new) all
    → HaveMade edges workers (with_round run round all) new
have_more edges workers run round all old new made same whole gained = record {
  rooms = rooms_same old new same ∙ made.rooms;
  whole = whole;
  each = λ place table at.
      let below : place < length old =
      let b = slice_get_within new place table at in
      omega (arith, b, gained.many, length_map seat_of old, length_map seat_of new) in
      let was = there old place below in
      made_more workers place run round all was.0 table (made.each place was.0 was.1)
      (shared_at old new place was.0 table same was.1 at)
      (gained.each place was.0.seat table.seat (mapped_at seat_of old place was.0 was.1)
      (mapped_at seat_of new place table at));
}

-- ---- before the first round, and behind the last

made_nothing : (workers place : ℕ) (room : ℕ) (table : TableValue) → IsFresh room table_share table
    → HasMade workers place nothing_run table
made_nothing workers place room table fresh =
    let seen : table.seat.seen ≡ [] = ap (λ (seat : Seated). seat.seen) fresh.seat in
    let places : table.seat.places ≡ [] = ap (λ (seat : Seated). seat.places) fresh.seat in
    let left : table.seat.left ≡ table_share = ap (λ (seat : Seated). seat.left) fresh.seat in
    record {
      stand = tt;
      places = λ x. ap (times x) places;
      turns = ends 0 (length table.seat.seen) (ap length seen);
      share = fresh.share;
      fallen = let e : table.seat.left + 0 ≡ table_share = omega (arith, left) in e;
    }

fresh_whole : (room : ℕ) (table : TableValue) → IsFresh room table_share table → IsWhole table
fresh_whole room table fresh =
    let places : length table.seat.places ≡ 0 = ap (λ (seat : Seated). length seat.places) fresh.seat in
    let left : table.seat.left ≡ table_share = ap (λ (seat : Seated). seat.left) fresh.seat in
    let share : table.shared.share ≡ table_share = fresh.share in
    record { whole = omega (arith, places, left, share) }

fresh_rooms : (edges : List ConfValue) (tables : List TableValue) → AreFresh edges tables
    → map (λ (table : TableValue). table.shared.room) tables ≡ map (λ (edge : ConfValue). edge.room) edges
fresh_rooms [] [] fresh = refl
fresh_rooms [] (table ∷ tables) fresh = absurd fresh
fresh_rooms (edge ∷ edges) [] fresh = absurd fresh
fresh_rooms (edge ∷ edges) (table ∷ tables) (here, fresh) =
    ap (λ room. room ∷ map (λ (table : TableValue). table.shared.room) tables) here.room
    ∙ ap (λ rooms. edge.room ∷ rooms) (fresh_rooms edges tables fresh)

fresh_wholes : (edges : List ConfValue) (tables : List TableValue) → AreFresh edges tables → All IsWhole tables
fresh_wholes [] [] fresh k d lt = absurd (omega (arith, lt))
fresh_wholes [] (table ∷ tables) fresh k d lt = absurd fresh
fresh_wholes (edge ∷ edges) [] fresh k d lt = absurd fresh
fresh_wholes (edge ∷ edges) (table ∷ tables) (here, fresh) zero d lt = fresh_whole edge.room table here
fresh_wholes (edge ∷ edges) (table ∷ tables) (here, fresh) (suc k) d lt =
    fresh_wholes edges tables fresh k d (omega (arith, lt))

fresh_at : (edges : List ConfValue) (tables : List TableValue) → AreFresh edges tables → (place : ℕ)
    (table : TableValue) → slice_get tables place ≡ Some table → (room : ℕ) × IsFresh room table_share table
fresh_at [] [] fresh place table at = absurd (cc at)
fresh_at [] (first ∷ tables) fresh place table at = absurd fresh
fresh_at (edge ∷ edges) [] fresh place table at = absurd fresh
fresh_at (edge ∷ edges) (first ∷ tables) (here, fresh) zero table at =
    (edge.room, subst (IsFresh edge.room table_share) (some_same first table at) here)
  where
    some_same : (a b : TableValue) → Some a ≡ Some b → a ≡ b
    some_same a b is = cc
fresh_at (edge ∷ edges) (first ∷ tables) (here, fresh) (suc place) table at = fresh_at edges tables fresh place table at

pub nothing_made : (edges : List ConfValue) (workers : ℕ) (tables : List TableValue) → AreFresh edges tables
    → HaveMade edges workers nothing_run tables
nothing_made edges workers tables fresh = record {
  rooms = fresh_rooms edges tables fresh;
  whole = fresh_wholes edges tables fresh;
  each = λ place table at.
      let was = fresh_at edges tables fresh place table at in
      made_nothing workers place was.0 table was.1;
}

-- the calls of an edge by its table, that was closed
module _ (edges : List ConfValue) (workers : ℕ) (run : Run) (tables : List TableValue)
    (made : HaveMade edges workers run tables) (one : All IsOneHistory tables) where
  pub has_table : (place : ℕ) → place < length edges → (table : TableValue) × (slice_get tables place ≡ Some table)
  has_table place below =
      let many : length tables ≡ length edges =
      sym (length_map (λ (table : TableValue). table.shared.room) tables)
      ∙ (ap length made.rooms ∙ length_map (λ (edge : ConfValue). edge.room) edges) in
      there tables place (omega (arith, below, many))

  one_at : (place : ℕ) (table : TableValue) → slice_get tables place ≡ Some table → IsOneHistory table
  one_at place table at =
      subst IsOneHistory (get_or_from_slice_get tables place table table at)
      (one place table (slice_get_within tables place table at))

  whole_at : (place : ℕ) (table : TableValue) → slice_get tables place ≡ Some table → IsWhole table
  whole_at place table at =
      subst IsWhole (get_or_from_slice_get tables place table table at)
      (made.whole place table (slice_get_within tables place table at))

  room_at : (place : ℕ) (edge : ConfValue) (table : TableValue) → slice_get edges place ≡ Some edge
      → slice_get tables place ≡ Some table → table.shared.room ≡ edge.room
  room_at place edge table edge_at at =
      some_same table.shared.room edge.room
      (sym (mapped_at (λ (table : TableValue). table.shared.room) tables place table at)
      ∙ (ap (λ rooms. slice_get rooms place) made.rooms
      ∙ mapped_at (λ (edge : ConfValue). edge.room) edges place edge edge_at))
    where
      some_same : (a b : ℕ) → Some a ≡ Some b → a ≡ b
      some_same a b is = cc

  pub has_history : (place : ℕ) (edge : ConfValue) → slice_get edges place ≡ Some edge
      → HasHistory workers run place edge
  has_history place edge edge_at =
      let of = has_table place (slice_get_within edges place edge edge_at) in
      let table = of.0 in
      let has = made.each place table of.1 in
      let closed = one_at place table of.1 in
      record {
        history = table.seat.seen;
        legal = subst (λ room. IsLegal room table.seat.seen) (room_at place edge table edge_at of.1) closed.legal;
        stand = has.stand;
        all = record { just = λ x. sym (has.places x) ∙ closed.all.just x };
        turns = has.turns;
      }

  -- as many calls were made at each edge as its table has got
  pub counts : (place : ℕ) (table : TableValue) → slice_get tables place ≡ Some table
      → calls_made table ≡ length (calls_at place (served_in run))
  counts place table at =
      let has = made.each place table at in
      let closed = one_at place table at in
      let whole = whole_at place table at in
      omega (arith, has.fallen, has.share, closed.counted, whole.whole)
