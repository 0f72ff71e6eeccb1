-- What a round comes to.
use Rattle.std.proofs.Common.{◌≡◌, refl, sym, ap, ◌∙◌, subst, ℕ, ◌+◌, ◌*◌, ◌≤◌, ◌<◌, ◌⊎◌, Bool, true, false, List, [], ◌∷◌, length, map, Option, arith}
use Rattle.std.specs.List.{AllByRecursion}
use Rattle.std.specs.Prelude.{All, slice_index_or}
use Rattle.std.proofs.lemmas.List.{get_or-map, length-map}
use Rattle.usp_edge.specs.declared.note.Note.{Note}
use Rattle.usp_script.specs.Script.{ScriptValue}
use Rattle.usp_script.specs.declared.ask.LabAsk.{LabAsk}
use Rattle.usp_shared.specs.Seats.{Seated}
use Rattle.usp_lab.specs.Asked.{AreHeads}
use Rattle.usp_lab.specs.Benches.{Used, append_used}
use Rattle.usp_lab.specs.Gains.{ServesRound}
use Rattle.usp_lab.specs.Jobs.{Deed, IsOwn, Task, note_of, tasks_from, used_of}
use Rattle.usp_lab.specs.Shares.{HasDone, HasWorked, IsFreshPart, Part, TakenIn, part_by, seat_in, share_of}
use Rattle.usp_lab.specs.Tables.{HasRoom, IsWhole, TableValue, kept_of, lent, part_at, seat_of, shared_of}
use Rattle.usp_lab.specs.declared.round.share.Share.{Share}
use Rattle.usp_lab.proofs.Rounds.Assembling.{Together, dealt_part, gained_by, have_gained, room_after, together, whole_after}
use Rattle.usp_lab.proofs.Rounds.Doing.{done_lines, done_many, done_notes, served_many}
use Rattle.usp_lab.proofs.Rounds.Holding.{from_first, heads_many, own_from, served_from, tasks_many}
use Rattle.usp_lab.proofs.Rounds.Overall.{deeds_at, done_at, long_joined, many_seats, seat_at}
use Rattle.usp_lab.proofs.Rounds.Picking.{first_of, get_any}

module _ {L : Type 0} (left put : L → Option (List ℕ)) (script : ScriptValue) (asks : List LabAsk) (heads : List (List ℕ)) (count part workers : ℕ)
    (tables lent_tables after : List TableValue) (fresh dealt worked joined : List (Share L)) (some : 0 < count) (le : count ≤ workers)
    (cases : (count ≡ workers) ⊎ (length asks ≤ count)) (many : length fresh ≡ count) (same : length dealt ≡ length fresh) (also : length worked ≡ length dealt)
    (fresh_is : All (λ share. IsFreshPart (map (part_at part) tables) (part_by left put share)) fresh)
    (dealt_is : (w : ℕ) (d : Share L) → w < length fresh → part_by left put (slice_index_or dealt w d)
    ≡ record (part_by left put (slice_index_or fresh w d)) { tasks = share_of (length fresh) 0 w (tasks_from 0 heads) })
    (works : (w : ℕ) (d : Share L) → w < length dealt → HasWorked script asks (part_by left put (slice_index_or dealt w d)) (part_by left put (slice_index_or worked w d)))
    (done_same : map (λ share. share.done) joined ≡ map (λ share. share.done) worked) (whole_same : map (λ share. share.whole) joined ≡ map (λ share. share.whole) worked)
    (whole : All (λ share. share.whole ≡ true) joined) (fits : All (λ table. count * part ≤ table.seat.left) tables)
    (lent_is : lent_tables ≡ map (lent (count * part)) tables)
    (taken : (edge : ℕ) (d : TableValue) (e : Seated) → edge < length lent_tables → TakenIn (slice_index_or lent_tables edge d).seat (map (seat_in edge e) worked) (slice_index_or after edge d).seat)
    (shared : map shared_of after ≡ map shared_of tables)
    (issued : List (Option (List ℕ))) (known : ℕ) (are : AreHeads script issued asks heads) where
  abbrev pub tasks : List Task
  tasks = tasks_from 0 heads

  long_tasks : length tasks ≡ length asks
  long_tasks = tasks_many 0 heads ∙ heads_many script issued asks heads are

  pub d0 : Share L
  d0 = first_of worked (omega (arith, some, many, same, also))

  own : AllByRecursion (IsOwn script issued asks) tasks
  own = own_from script issued asks 0 asks heads (from_first asks) are

  abbrev pub by_worker : ℕ → Part
  by_worker w = part_by left put (slice_index_or worked w d0)

  pub done : (w : ℕ) → w < count → HasDone script issued known asks (dealt_part count part tables tasks w) (by_worker w)
  done w lt = done_at left put script asks count part tables tasks fresh dealt many same fresh_is dealt_is worked joined also works done_same whole_same whole issued known own w d0 lt

  abbrev pub all : Together script issued known asks count part some tables tasks by_worker done
  all = together script issued known asks count part some tables tasks by_worker done

  long_lent : length lent_tables ≡ length tables
  long_lent = ap length lent_is ∙ length-map tables (lent (count * part))

  long_after : length after ≡ length tables
  long_after = sym (length-map after shared_of) ∙ (ap length shared ∙ length-map tables shared_of)

  its_taken : (edge : ℕ) (d : TableValue) (e : Seated) → edge < length tables
      → TakenIn (kept_of (count * part) (slice_index_or tables edge d).seat) (map (seat_in edge e) worked) (slice_index_or after edge d).seat
  its_taken edge d e lt =
      subst (λ t. TakenIn t.seat (map (seat_in edge e) worked) (slice_index_or after edge d).seat)
      (ap (λ l. slice_index_or l edge d) lent_is ∙ get_or-map (lent (count * part)) tables edge d d lt) (taken edge d e (omega (arith, lt, long_lent)))

  abbrev pub round_deeds : List Deed
  round_deeds = all.deeds

  pub long_deeds : length all.deeds ≡ length asks
  long_deeds = done_many script issued known asks tasks all.deeds all.all all.done ∙ long_tasks

  -- the deeds of the shares are those of the round
  pub deeds_parted : (w : ℕ) (d : Share L) → w < length joined → (part_by left put (slice_index_or joined w d)).deeds ≡ share_of (length joined) 0 w all.deeds
  deeds_parted w d lt =
      let long = long_joined left put script asks count part tables tasks fresh dealt many same fresh_is dealt_is worked joined also works done_same whole_same whole in
      let below : w < count = omega (arith, lt, long) in
      deeds_at left put script asks count part tables tasks fresh dealt many same fresh_is dealt_is worked joined also works done_same whole_same whole w d below
      ∙ (ap (λ share. (part_by left put share).deeds) (get_any worked w d d0 (omega (arith, below, many, same, also))) ∙ (all.shares w below ∙ ap (λ n. share_of n 0 w all.deeds) (sym long)))

  pub serves : (notes : List Note) (lines lines_after : Option (List Used)) → notes ≡ map note_of all.deeds → lines_after ≡ append_used lines (map used_of all.deeds)
      → ServesRound script issued known workers asks (record { notes = notes; seats = map seat_of tables; seats_after = map seat_of after; lines = lines; lines_after = lines_after })
  serves notes lines lines_after noted given = record {
    all = all.all;
    served = served_from script issued asks known 0 asks heads all.deeds all.all (from_first asks) are all.done;
    notes = noted ∙ done_notes script issued known asks tasks all.deeds all.all all.done;
    gained = gained_by count workers (map seat_of tables) (map seat_of after) all.all some le
        (subst (λ n. (count ≡ workers) ⊎ (n ≤ count)) (sym (served_many script issued known asks tasks all.deeds all.all all.done ∙ long_tasks)) cases)
        (have_gained script issued known asks count part some tables tasks by_worker done after long_after fits (λ edge e. map (seat_in edge e) worked)
        (many_seats left put script asks count part tables tasks fresh dealt many same fresh_is dealt_is worked joined also works done_same whole_same whole)
        (λ edge e w lt. seat_at left put script asks count part tables tasks fresh dealt many same fresh_is dealt_is worked joined also works done_same whole_same whole edge e w d0 lt)
        its_taken);
    lines = given ∙ ap (append_used lines) (done_lines script issued known asks tasks all.deeds all.all all.done);
  }

  shared_at : (edge : ℕ) (d : TableValue) → edge < length tables → (slice_index_or after edge d).shared ≡ (slice_index_or tables edge d).shared
  shared_at edge d lt =
      sym (get_or-map shared_of after edge d d.shared (omega (arith, lt, long_after)))
      ∙ (ap (λ l. slice_index_or l edge d.shared) shared ∙ get_or-map shared_of tables edge d d.shared lt)

  pub whole_all : All IsWhole tables → All IsWhole after
  whole_all was edge d lt =
      let less : edge < length tables = omega (arith, lt, long_after) in
      whole_after script issued known asks count part some tables tasks by_worker done after long_after fits (λ edge e. map (seat_in edge e) worked)
      (many_seats left put script asks count part tables tasks fresh dealt many same fresh_is dealt_is worked joined also works done_same whole_same whole)
      (λ edge e w lt. seat_at left put script asks count part tables tasks fresh dealt many same fresh_is dealt_is worked joined also works done_same whole_same whole edge e w d0 lt)
      its_taken edge d less (shared_at edge d less) (was edge d less)

  pub room_all : (more : ℕ) → All (HasRoom (length asks + more)) tables → All (HasRoom more) after
  room_all more was edge d lt =
      let less : edge < length tables = omega (arith, lt, long_after) in
      room_after script issued known asks count part some tables tasks by_worker done after long_after fits (λ edge e. map (seat_in edge e) worked)
      (many_seats left put script asks count part tables tasks fresh dealt many same fresh_is dealt_is worked joined also works done_same whole_same whole)
      (λ edge e w lt. seat_at left put script asks count part tables tasks fresh dealt many same fresh_is dealt_is worked joined also works done_same whole_same whole edge e w d0 lt)
      its_taken edge d more less (subst (λ n. HasRoom (n + more) (slice_index_or tables edge d)) (sym long_tasks) (was edge d less))
