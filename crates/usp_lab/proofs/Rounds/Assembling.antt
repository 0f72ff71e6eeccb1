-- What all workers of a round did.
use Rattle.std.proofs.Common.{◌≡◌, refl, sym, ap, ◌∙◌, subst, ℕ, zero, suc, ◌+◌, ◌*◌, ◌≤◌, ◌<◌, ◌⊎◌, inl, inr, Bool, true, false, List, [], ◌∷◌, ◌++◌, length, map, Option, Some, arith}
use Rattle.std.specs.List.{AllByRecursion}
use Rattle.std.specs.Prelude.{All, slice_get, slice_index_or}
use Rattle.std.proofs.lemmas.List.{get_or-map, length-map}
use Rattle.std.proofs.lemmas.Option.{get_or_from_slice_get, slice_get_within}
use Rattle.atomic_table.specs.Seated.{TableId}
use Rattle.usp_edge.specs.Seats.{SeatGains}
use Rattle.usp_edge.specs.declared.limits.TheConstants.{MAX_HEADS}
use Rattle.usp_script.specs.Script.{IsAsk, ScriptValue}
use Rattle.usp_script.specs.declared.ask.LabAsk.{LabAsk}
use Rattle.usp_shared.specs.Seats.{Seated}
use Rattle.usp_lab.specs.Asked.{AreHeads}
use Rattle.usp_lab.specs.Benches.{Used, append_used}
use Rattle.usp_lab.specs.Gains.{Around, GainsRound, HaveGained, ServesRound}
use Rattle.usp_lab.specs.Jobs.{AreDone, Deed, IsOwn, IsReady, Task, note_of, tasks_from, used_of}
use Rattle.usp_lab.specs.Reports.{used_by}
use Rattle.usp_lab.specs.Rounds.{Served, calls_at}
use Rattle.usp_lab.specs.Shares.{AllGain, HasDone, HasWhole, HasWorked, IsReadyPart, Part, TakenIn, share_of, table_of}
use Rattle.usp_lab.specs.Tables.{HasRoom, IsWhole, TableValue, kept_of, lent, part_at, part_of, seat_of, shared_of, tables_of}
use Rattle.usp_lab.proofs.Rounds.Dealing.{fewer_in, mapped_in}
use Rattle.usp_lab.proofs.Rounds.Doing.{Couple, Coupled, Does, couple, deed_in, done_few, done_lines, done_many, done_notes, served_in, uncouple}
use Rattle.usp_lab.proofs.Rounds.Gaining.{gains_round, round_of_more}
use Rattle.usp_lab.proofs.Rounds.Holding.{from_first, heads_many, own_from, ready_all, served_from, tasks_many}
use Rattle.usp_lab.proofs.Rounds.Merging.{Merged, Pairs, merge}
use Rattle.usp_lab.proofs.Rounds.Picking.{each_below, every_in, first_of, get_any, of_below}

-- a share as its worker gets it
abbrev pub dealt_part : (count part : ℕ) → List TableValue → List Task → (w : ℕ) → Part
dealt_part count part tables tasks w = record {
  tasks = share_of count 0 w tasks;
  deeds = [];
  seats = map (part_at part) tables;
  whole = false;
}

-- ---- the deeds of all workers, put together

module _ (script : ScriptValue) (issued : List (Option (List ℕ))) (known : ℕ) (asks : List LabAsk)
    (count part : ℕ) (some : 0 < count) (tables : List TableValue) (tasks : List Task) (worked : ℕ → Part)
    (did : (w : ℕ) → w < count → HasDone script issued known asks (dealt_part count part tables tasks w) (worked w)) where
  record OfWorker (w : ℕ) (couples : List Couple) : Type 0 where
    pub pairs : Pairs (Does script issued known asks) (share_of count 0 w tasks) couples
    pub deeds : map deed_in couples ≡ (worked w).deeds
    pub gain : AllGain (map (part_at part) tables) (worked w).seats (map served_in couples)

  of_worker : (w : ℕ) (lt : w < count) → Coupled script issued known asks (share_of count 0 w tasks) (worked w).deeds (did w lt).all
  of_worker w lt = couple script issued known asks (share_of count 0 w tasks) (worked w).deeds (did w lt).all (did w lt).done

  abbrev couples_of : ℕ → List Couple
  couples_of = of_below count (λ w lt. (of_worker w lt).couples) []

  is_of : (w : ℕ) → w < count → OfWorker w (couples_of w)
  is_of = each_below OfWorker count (λ w lt. (of_worker w lt).couples) [] (λ w lt. record {
    pairs = (of_worker w lt).pairs;
    deeds = (of_worker w lt).deeds;
    gain = subst (AllGain (map (part_at part) tables) (worked w).seats) (sym (of_worker w lt).all) (did w lt).gain;
  })

  merged : Merged (Does script issued known asks) count 0 tasks couples_of
  merged = merge (Does script issued known asks) count some 0 tasks couples_of (λ w lt. (is_of w lt).pairs)

  pub record Together : Type 0 where
    pub deeds : List Deed
    pub all : List Served
    pub done : AreDone script issued known asks tasks deeds all
    pub shares : (w : ℕ) → w < count → (worked w).deeds ≡ share_of count 0 w deeds
    pub gains : (w : ℕ) → w < count → AllGain (map (part_at part) tables) (worked w).seats (share_of count 0 w all)

  pub together : Together
  together = record {
    deeds = map deed_in merged.all;
    all = map served_in merged.all;
    done = uncouple script issued known asks tasks merged.all merged.pairs;
    shares = λ w lt. sym (is_of w lt).deeds ∙ sym (mapped_in deed_in count _ merged.all ∙ ap (map deed_in) (merged.shares w lt));
    gains = λ w lt. subst (AllGain (map (part_at part) tables) (worked w).seats)
        (sym (mapped_in served_in count _ merged.all ∙ ap (map served_in) (merged.shares w lt))) (is_of w lt).gain;
  }

  -- ---- the seats of the tables

  -- the seat of each worker at an edge, joined into the table's
  module _ (after : List TableValue) (long : length after ≡ length tables) (fits : All (λ table. count * part ≤ table.seat.left) tables)
      (seats_at : (edge : ℕ) → Seated → List Seated) (many : (edge : ℕ) (e : Seated) → length (seats_at edge e) ≡ count)
      (which : (edge : ℕ) (e : Seated) (w : ℕ) → w < count → slice_index_or (seats_at edge e) w e ≡ slice_index_or (worked w).seats edge e)
      (taken : (edge : ℕ) (d : TableValue) (e : Seated) → edge < length tables
      → TakenIn (kept_of (count * part) (slice_index_or tables edge d).seat) (seats_at edge e) (slice_index_or after edge d).seat) where
    gains_one : (edge : ℕ) (d : TableValue) → edge < length tables
        → GainsRound count edge (slice_index_or tables edge d).seat (slice_index_or after edge d).seat together.all
    gains_one edge d lt =
        let old = (slice_index_or tables edge d).seat in
        gains_round count edge part some old (slice_index_or after edge d).seat old (seats_at edge old) together.all (fits edge d lt) (taken edge d old lt) (many edge old)
        (λ w less. subst (λ s. SeatGains (part_of part old) s (calls_at edge (share_of count 0 w together.all))) (sym (which edge old w less))
        (subst (λ s. SeatGains s (slice_index_or (worked w).seats edge old) (calls_at edge (share_of count 0 w together.all)))
        (get_or-map (part_at part) tables edge d old lt)
        (together.gains w less edge old (let l = length-map tables (part_at part) in omega (arith, lt, l)))))

    seat_found : (all : List TableValue) (edge : ℕ) (d : TableValue) (seat : Seated) → slice_get (map seat_of all) edge ≡ Some seat → (slice_index_or all edge d).seat ≡ seat
    seat_found all edge d seat at =
        let lt = slice_get_within (map seat_of all) edge seat at in
        sym (get_or-map seat_of all edge d seat (let l = length-map all seat_of in omega (arith, lt, l))) ∙ get_or_from_slice_get (map seat_of all) edge seat seat at

    pub have_gained : HaveGained count (map seat_of tables) (map seat_of after) together.all
    have_gained = record {
      many = length-map after seat_of ∙ (long ∙ sym (length-map tables seat_of));
      each = λ edge old new at_old at_new.
          let lt : edge < length tables = (let w = slice_get_within (map seat_of tables) edge old at_old in let l = length-map tables seat_of in omega (arith, w, l)) in
          let d = first_of tables (omega (arith, lt)) in
          subst (λ s. GainsRound count edge s new together.all) (seat_found tables edge d old at_old)
          (subst (λ s. GainsRound count edge (slice_index_or tables edge d).seat s together.all) (seat_found after edge d new at_new) (gains_one edge d lt));
    }

    -- ---- room, and the whole share

    pub whole_after : (edge : ℕ) (d : TableValue) → edge < length tables → (slice_index_or after edge d).shared ≡ (slice_index_or tables edge d).shared
        → IsWhole (slice_index_or tables edge d) → IsWhole (slice_index_or after edge d)
    whole_after edge d lt shared was = record {
      whole = (gains_one edge d lt).whole ∙ (was.whole ∙ sym (ap (λ s. s.share) shared));
    }

    pub room_after : (edge : ℕ) (d : TableValue) (more : ℕ) → edge < length tables → HasRoom (length tasks + more) (slice_index_or tables edge d)
        → HasRoom more (slice_index_or after edge d)
    room_after edge d more lt room =
        let few = done_few script issued known asks edge tasks together.deeds together.all together.done in
        let fallen = (gains_one edge d lt).fallen in
        omega (arith, room, few, fallen)

-- ---- as many workers as the round has of them

pub gained_of_more : (count workers : ℕ) (old new : List Seated) (all : List Served) → 0 < count → count ≤ workers → length all ≤ count
    → HaveGained count old new all → HaveGained workers old new all
gained_of_more count workers old new all some le short gained = record {
  many = gained.many;
  each = λ edge before after at_old at_new. round_of_more count workers edge before after all some le short (gained.each edge before after at_old at_new);
}

pub gained_by : (count workers : ℕ) (old new : List Seated) (all : List Served) → 0 < count → count ≤ workers → (count ≡ workers) ⊎ (length all ≤ count)
    → HaveGained count old new all → HaveGained workers old new all
gained_by count workers old new all some le (inl same) gained = subst (λ n. HaveGained n old new all) same gained
gained_by count workers old new all some le (inr short) gained = gained_of_more count workers old new all some le short gained
