-- A whole round: what its steps did, taken together.
use Rattle.std.proofs.Common.{◌≡◌, refl, sym, ap, ◌∙◌, subst, ℕ, zero, suc, ◌+◌, ◌*◌, ◌≤◌, ◌<◌, ◌%◌, ◌⊎◌, inl, inr, Bool, true, false, List, [], ◌∷◌, ◌++◌, length, map, Option, Some, arith}
use Rattle.std.specs.List.{AllByRecursion}
use Rattle.std.specs.Prelude.{All, slice_index_or}
use Rattle.std.proofs.lemmas.List.{get_or-map, length-map}
use Rattle.std.proofs.lemmas.List.Elements.{All-map}
use Rattle.atomic_table.specs.Seated.{TableId}
use Rattle.usp_edge.specs.declared.limits.TheConstants.{MAX_HEADS}
use Rattle.usp_script.specs.Script.{ScriptValue}
use Rattle.usp_script.specs.declared.ask.LabAsk.{LabAsk}
use Rattle.usp_shared.specs.Seats.{Seated}
use Rattle.usp_lab.specs.Jobs.{Deed, IsOwn, IsReady, Task, deed_by, task_by}
use Rattle.usp_lab.specs.Shares.{HasDone, HasWorked, IsFreshPart, IsReadyPart, Part, TakenIn, part_by, seat_in, share_of, skip_of, table_of}
use Rattle.usp_lab.specs.Tables.{TableValue, part_at, tables_of}
use Rattle.usp_lab.specs.declared.round.share.Share.{Share}
use Rattle.usp_lab.proofs.Rounds.Assembling.{dealt_part}
use Rattle.usp_lab.proofs.Rounds.Dealing.{fewer_in}
use Rattle.usp_lab.proofs.Rounds.Picking.{every_in, first_of, get_any}

module _ {L : Type 0} (left put : L → Option (List ℕ)) (script : ScriptValue) (asks : List LabAsk) (count part : ℕ) (tables : List TableValue) (tasks : List Task)
    (fresh dealt : List (Share L)) (many : length fresh ≡ count) (same : length dealt ≡ length fresh)
    (fresh_is : All (λ share. IsFreshPart (map (part_at part) tables) (part_by left put share)) fresh)
    (dealt_is : (w : ℕ) (d : Share L) → w < length fresh → part_by left put (slice_index_or dealt w d)
    ≡ record (part_by left put (slice_index_or fresh w d)) { tasks = share_of (length fresh) 0 w tasks }) where
  -- what a worker gets
  pub part_is : (w : ℕ) (d : Share L) → w < count → part_by left put (slice_index_or dealt w d) ≡ dealt_part count part tables tasks w
  part_is w d lt =
      let within : w < length fresh = omega (arith, lt, many) in
      dealt_is w d within
      ∙ (ap (λ (q : Part). record q { tasks = share_of (length fresh) 0 w tasks }) (fresh_is w d within)
      ∙ ap (λ n. dealt_part n part tables tasks w) many)

  -- each share may be served
  pub ready_dealt : (ids : List TableId) → All (λ share. map table_of share.seats.items ≡ ids) fresh → AllByRecursion (IsReady script asks) tasks
      → MAX_HEADS * length tasks ≤ part → All (λ share. IsReadyPart script asks ids (part_by left put share)) dealt
  ready_dealt ids of_ids ready fits w d lt =
      let within : w < length fresh = omega (arith, lt, same) in
      let below : w < count = omega (arith, lt, same, many) in
      let its : map table_of (map (part_at part) tables) ≡ ids = ap (λ (q : Part). map table_of q.seats) (sym (fresh_is w d within)) ∙ of_ids w d within in
      let few = fewer_in count (skip_of count (0 % count) w) tasks in
      subst (IsReadyPart script asks ids) (sym (part_is w d below)) (record {
        tasks = every_in (IsReady script asks) count _ tasks ready;
        deeds = refl;
        tables = its;
        enough = All-map (λ seat. MAX_HEADS * length (share_of count 0 w tasks) ≤ seat.left) (part_at part) tables (λ k e less. omega (arith, fits, few));
      })

  -- the seats are of the same tables still
  pub ids_worked : (worked : List (Share L)) (also : length worked ≡ length dealt)
      (works : (w : ℕ) (d : Share L) → w < length dealt → HasWorked script asks (part_by left put (slice_index_or dealt w d)) (part_by left put (slice_index_or worked w d)))
      (ids : List TableId) → All (λ share. map table_of share.seats.items ≡ ids) fresh → All (λ share. map table_of share.seats.items ≡ ids) worked
  ids_worked worked also works ids of_ids w d lt =
      let within : w < length fresh = omega (arith, lt, also, same) in
      let below : w < count = omega (arith, lt, also, same, many) in
      (works w d (omega (arith, lt, also))).tables
      ∙ (ap (λ (q : Part). map table_of q.seats) (part_is w d below)
      ∙ (ap (λ (q : Part). map table_of q.seats) (sym (fresh_is w d within)) ∙ of_ids w d within))

  -- The shares were served, and their seats taken back.
  module _ (worked joined : List (Share L)) (also : length worked ≡ length dealt)
      (works : (w : ℕ) (d : Share L) → w < length dealt → HasWorked script asks (part_by left put (slice_index_or dealt w d)) (part_by left put (slice_index_or worked w d)))
      (done_same : map (λ share. share.done) joined ≡ map (λ share. share.done) worked)
      (whole_same : map (λ share. share.whole) joined ≡ map (λ share. share.whole) worked)
      (whole : All (λ share. share.whole ≡ true) joined) where
    pub long_joined : length joined ≡ count
    long_joined =
        let a = length-map joined (λ share. share.whole) in
        let b = length-map worked (λ share. share.whole) in
        let m = ap length whole_same in
        omega (arith, a, b, m, also, same, many)

    whole_at : (w : ℕ) (d : Share L) → w < count → (slice_index_or worked w d).whole ≡ true
    whole_at w d lt =
        let in_joined : w < length joined = omega (arith, lt, long_joined) in
        let in_worked : w < length worked = omega (arith, lt, also, same, many) in
        sym (get_or-map (λ share. share.whole) worked w d true in_worked)
        ∙ (ap (λ l. slice_index_or l w true) (sym whole_same) ∙ (get_or-map (λ share. share.whole) joined w d true in_joined ∙ whole w d in_joined))

    pub deeds_at : (w : ℕ) (d : Share L) → w < count → (part_by left put (slice_index_or joined w d)).deeds ≡ (part_by left put (slice_index_or worked w d)).deeds
    deeds_at w d lt =
        let in_joined : w < length joined = omega (arith, lt, long_joined) in
        let in_worked : w < length worked = omega (arith, lt, also, same, many) in
        let one = (slice_index_or joined w d).done in
        ap (λ q. map (deed_by left put) q.items)
        (sym (get_or-map (λ share. share.done) joined w d one in_joined) ∙ (ap (λ l. slice_index_or l w one) done_same ∙ get_or-map (λ share. share.done) worked w d one in_worked))

    -- what a worker did, whatever was issued and known
    pub done_at : (issued : List (Option (List ℕ))) (known : ℕ) → AllByRecursion (IsOwn script issued asks) tasks → (w : ℕ) (d : Share L) → w < count
        → HasDone script issued known asks (dealt_part count part tables tasks w) (part_by left put (slice_index_or worked w d))
    done_at issued known own w d lt =
        let did = works w d (omega (arith, lt, same, many)) in
        subst (λ q. HasDone script issued known asks q (part_by left put (slice_index_or worked w d))) (part_is w d lt)
        (did.done (whole_at w d lt) issued known
        (subst (λ (q : Part). AllByRecursion (IsOwn script issued asks) q.tasks) (sym (part_is w d lt)) (every_in (IsOwn script issued asks) count _ tasks own)))

    -- the seat of a worker at an edge
    pub seat_at : (edge : ℕ) (e : Seated) (w : ℕ) (d : Share L) → w < count
        → slice_index_or (map (seat_in edge e) worked) w e ≡ slice_index_or (slice_index_or worked w d).seats.items edge e
    seat_at edge e w d lt = get_or-map (seat_in edge e) worked w d e (omega (arith, lt, also, same, many))

    pub many_seats : (edge : ℕ) (e : Seated) → length (map (seat_in edge e) worked) ≡ count
    many_seats edge e = length-map worked (seat_in edge e) ∙ (also ∙ (same ∙ many))
