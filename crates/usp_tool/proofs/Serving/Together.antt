-- The calls of all workers are one history.
use Rattle.std.proofs.Common.{◌≡◌, refl, sym, ap, ◌∙◌, subst, ℕ, zero, suc, ◌+◌, ◌*◌, ◌<◌, List, [], ◌∷◌, ◌++◌, length, length-append, map, Option, Some, IfSome, suc-mul, arith}
use Rattle.std.specs.Prelude.{All, slice_index_or}
use Rattle.atomic_table.specs.Seated.{TableId}
use Rattle.usp_conf.specs.Values.{ConfValue}
use Rattle.usp_edge.specs.SeatLaws.{stand_later}
use Rattle.usp_edge.specs.Seats.{places_of}
use Rattle.usp_nonce.specs.History.{Call, IsLegal}
use Rattle.usp_shared.specs.Places.{AreAllBelow}
use Rattle.usp_shared.specs.Seats.{Seated}
use Rattle.usp_tool.specs.Edge.Joins.{TakenIn}
use Rattle.usp_tool.specs.Edge.Desks.{Desk}
use Rattle.usp_tool.specs.Edge.Workers.{HasSat, HasServed, HaveServed, OneHistory, another, nobody}
use Rattle.usp_tool.proofs.Serving.Joining.{AllSeen, SeenBy, all_left, all_places, has_all, left_in, places_in}

some_same : {A : Type 0} (a b : A) → Some a ≡ Some b → a ≡ b
some_same a b is = cc

mapped_long : {A B : Type 0} (f : A → B) (xs : List A) → length (map f xs) ≡ length xs
mapped_long f [] = refl
mapped_long f (x ∷ xs) = ap suc (mapped_long f xs)

-- ---- one worker

-- a worker that sat with a seat without calls has its calls alone
module _ (conf : ConfValue) (most : ℕ) (old new : Desk) (seat : Option Seated) (first : Seated) (sat : HasSat conf most old new (Some first) seat) where
  same_first : sat.first ≡ first
  same_first = some_same sat.first first (sym sat.first_is)

  abbrev served : (history : List Call) → SeenBy history seat → HasServed conf most history old new
  served history seen = record {
    first = sat.first;
    last = sat.last;
    sits = sat.sits;
    stand = stand_later sat.last.seen history sat.sits.calls (subst (SeenBy history) sat.last_is seen) sat.sits.gained.stand;
  }

  its_places : first.places ≡ [] → places_of sat.sits.calls ≡ places_in seat
  its_places none =
      sym (ap places_in sat.last_is ∙ (sat.sits.gained.places ∙ ap (λ (ps : List ℕ). ps ++ places_of sat.sits.calls) (ap (λ (s : Seated). s.places) same_first ∙ none)))

  its_part : first.places ≡ [] → left_in seat + length (places_in seat) ≡ first.left
  its_part none =
      let l : left_in seat ≡ sat.last.left = ap left_in sat.last_is in
      let f : sat.first.left ≡ first.left = ap (λ (s : Seated). s.left) same_first in
      let p : length (places_in seat) ≡ length (places_of sat.sits.calls) = ap length (sym (its_places none)) in
      omega (arith, l, f, p, mapped_long (λ of. of.place) sat.sits.calls, sat.sits.gained.fallen)

  its_table : IfSome seat (λ (s : Seated). s.table ≡ first.table)
  its_table = subst (λ o. IfSome o (λ (s : Seated). s.table ≡ first.table)) (sym sat.last_is) (sat.sits.gained.table ∙ ap (λ (s : Seated). s.table) same_first)

-- ---- all workers

-- Of each worker its desk and its seat are known; `give` gives a seat to it, and `clear` takes it.
module _ {W : Type 0} (desk : W → Desk) (seat : W → Option Seated) (give clear : W → W) (first : Seated)
    (given : (w : W) → seat (give w) ≡ Some first) (same_given : (w : W) → desk (give w) ≡ desk w) (same_cleared : (w : W) → desk (clear w) ≡ desk w)
    (conf : ConfValue) (most : ℕ) where
  -- each worked, with the seat that it was given
  abbrev pub AllWorked : List W → List W → Type 0
  AllWorked [] [] = Unit {0}
  AllWorked (o ∷ os) (a ∷ ls) = HasSat conf most (desk o) (desk (clear a)) (Some first) (seat a) × AllWorked os ls
  AllWorked os ls = ⊥

  worked_one : (o a : W) → HasSat conf most (desk (give o)) (desk a) (seat (give o)) (seat a) → HasSat conf most (desk o) (desk (clear a)) (Some first) (seat a)
  worked_one o a sat =
      subst (λ s. HasSat conf most (desk o) (desk (clear a)) s (seat a)) (given o)
      (subst (λ d. HasSat conf most (desk o) d (seat (give o)) (seat a)) (sym (same_cleared a))
      (subst (λ d. HasSat conf most d (desk a) (seat (give o)) (seat a)) (same_given o) sat))

  all_worked : (olds afters : List W) → length afters ≡ length olds
      → ((i : ℕ) (d : W) → i < length olds → HasSat conf most (desk (slice_index_or (map give olds) i d)) (desk (slice_index_or afters i d))
      (seat (slice_index_or (map give olds) i d)) (seat (slice_index_or afters i d))) → AllWorked olds afters
  all_worked [] [] long each = tt
  all_worked [] (a ∷ ls) long each = absurd (omega (arith, long))
  all_worked (o ∷ os) [] long each = absurd (omega (arith, long))
  all_worked (o ∷ os) (a ∷ ls) long each = (
    worked_one o a (each zero o (omega arith)),
    all_worked os ls (omega (arith, long)) (λ i d lt. each (suc i) d (omega (arith, lt))),
  )

  -- the list before, with the seats given, is known by an equation
  pub worked_all : (olds mid afters : List W) → mid ≡ map give olds → length afters ≡ length mid
      → ((i : ℕ) (d : W) → i < length mid → HasSat conf most (desk (slice_index_or mid i d)) (desk (slice_index_or afters i d))
      (seat (slice_index_or mid i d)) (seat (slice_index_or afters i d))) → AllWorked olds afters
  worked_all olds mid afters is long each = all_worked olds afters (long ∙ (ap length is ∙ mapped_long give olds))
      (λ i d lt. subst (λ (ws : List W). HasSat conf most (desk (slice_index_or ws i d)) (desk (slice_index_or afters i d))
      (seat (slice_index_or ws i d)) (seat (slice_index_or afters i d))) is
      (each i d (let n : length mid ≡ length olds = ap length is ∙ mapped_long give olds in omega (arith, lt, n))))

  have_served : first.places ≡ [] → (history : List Call) (olds afters : List W) → AllWorked olds afters → AllSeen history (map seat afters)
      → HaveServed conf most history (map desk olds) (map desk (map clear afters)) (all_places (map seat afters))
  have_served none history [] [] worked seen = nobody
  have_served none history [] (a ∷ ls) worked seen = absurd worked
  have_served none history (o ∷ os) [] worked seen = absurd worked
  have_served none history (o ∷ os) (a ∷ ls) (sat, worked) (here, seen) =
      subst (λ ps. HaveServed conf most history (desk o ∷ map desk os) (desk (clear a) ∷ map desk (map clear ls)) (ps ++ all_places (map seat ls)))
      (its_places conf most (desk o) (desk (clear a)) (seat a) first sat none)
      (another (desk o) (desk (clear a)) (map desk os) (map desk (map clear ls)) (all_places (map seat ls))
      (served conf most (desk o) (desk (clear a)) (seat a) first sat history here) (have_served none history os ls worked seen))

  -- the seats have the calls of all, made and left
  have_parts : first.places ≡ [] → (olds afters : List W) → AllWorked olds afters → all_left (map seat afters) + length (all_places (map seat afters)) ≡ length olds * first.left
  have_parts none [] [] worked = let is : 0 ≡ 0 * first.left = omega arith in is
  have_parts none [] (a ∷ ls) worked = absurd worked
  have_parts none (o ∷ os) [] worked = absurd worked
  have_parts none (o ∷ os) (a ∷ ls) (sat, worked) =
      let here = its_part conf most (desk o) (desk (clear a)) (seat a) first sat none in
      let below = have_parts none os ls worked in
      let long = length-append (places_in (seat a)) (all_places (map seat ls)) in
      let more = suc-mul (length os) first.left in
      omega (arith, here, below, long, more)

  of_table : (olds afters : List W) → AllWorked olds afters → All (λ a. IfSome (seat a) (λ (s : Seated). s.table ≡ first.table)) afters
  of_table [] [] worked k d lt = absurd (omega (arith, lt))
  of_table [] (a ∷ ls) worked k d lt = absurd worked
  of_table (o ∷ os) [] worked k d lt = absurd worked
  of_table (o ∷ os) (a ∷ ls) (sat, worked) zero d lt = its_table conf most (desk o) (desk (clear a)) (seat a) first sat
  of_table (o ∷ os) (a ∷ ls) (sat, worked) (suc k) d lt = of_table os ls worked k d (omega (arith, lt))

  pub its_tables : (olds afters : List W) → AllWorked olds afters → (table : TableId) → first.table ≡ table → All (λ a. IfSome (seat a) (λ (s : Seated). s.table ≡ table)) afters
  its_tables olds afters worked table is = subst (λ t. All (λ a. IfSome (seat a) (λ (s : Seated). s.table ≡ t)) afters) is (of_table olds afters worked)

  module _ (olds afters : List W) (worked : AllWorked olds afters) (none : first.places ≡ []) (begun final : Seated) (taken : TakenIn begun (map seat afters) final)
      (fresh : begun.places ≡ []) where
    its_all : final.places ≡ all_places (map seat afters)
    its_all = (has_all begun final (map seat afters) taken).places ∙ ap (λ (ps : List ℕ). ps ++ all_places (map seat afters)) fresh

    -- The closing seat, into which all were taken, has the history of all.
    pub one_history : (n : ℕ) → IsLegal conf.room final.seen → length final.seen ≡ n → AreAllBelow (length final.seen) final.places
        → OneHistory conf most n (map desk olds) (map desk (map clear afters))
    one_history n legal count all = record {
      history = final.seen;
      legal = legal;
      count = count;
      places = all_places (map seat afters);
      served = have_served none final.seen olds afters worked (has_all begun final (map seat afters) taken).seen;
      all = subst (λ k. AreAllBelow k (all_places (map seat afters))) count (subst (AreAllBelow (length final.seen)) its_all all);
    }

    -- It has the whole share.
    pub whole_share : (share : ℕ) → begun.left + length olds * first.left ≡ share → final.left + length final.places ≡ share
    whole_share share kept =
        let has = has_all begun final (map seat afters) taken in
        let places : length final.places ≡ length (all_places (map seat afters)) = ap length its_all in
        omega (arith, has.left, places, have_parts none olds afters worked, kept)
