-- Rounds, one after the other.
use Rattle.std.proofs.Common.{◌≡◌, refl, sym, ap, ◌∙◌, subst, ℕ, zero, suc, ◌+◌, ◌*◌, ◌≤◌, ◌<◌, List, [], ◌∷◌, ◌++◌, length, length-append, append_assoc, append-nil, map, drop, Option, Some, None, arith}
use Rattle.std.specs.Prelude.{All, IfSome, slice_get, slice_index_or}
use Rattle.std.specs.Option.{option_map}
use Rattle.std.proofs.lemmas.List.{drop_all, map-append}
use Rattle.std.proofs.lemmas.Option.{slice_get-map}
use Rattle.usp_conf.specs.Values.{ConfValue}
use Rattle.usp_trace.specs.declared.issue.Issue.{Issue}
use Rattle.usp_script.specs.Script.{IsRound, IsScript, ScriptValue, asks_in}
use Rattle.usp_script.specs.declared.ask.Label.{Label}
use Rattle.usp_script.specs.declared.ask.LabAsk.{LabAsk}
use Rattle.usp_script.specs.declared.ask.Round.{Round}
use Rattle.usp_script.specs.declared.limits.TheConstants.{MAX_ASKS}
use Rattle.usp_lab.specs.Benches.{Used, append_used}
use Rattle.usp_lab.specs.Books.{Keeps}
use Rattle.usp_lab.specs.Entries.{Run, Runs, RunsFrom, ends, labels_of, ledger_of, nothing_run, runs, served_in, with_round}
use Rattle.usp_lab.specs.Reports.{HasRun, IsReport, used_by}
use Rattle.usp_lab.specs.Rounds.{AreServed, Served, another, calls_at, nothing}
use Rattle.usp_lab.specs.Tables.{HasRoom, IsFresh, TableValue}
use Rattle.usp_lab.specs.UnderWay.{AreFresh, AreRun, HasGoneOn, IsEmpty, IsModest, IsOneHistory, IsUnderWay, calls_made, table_share}
use Rattle.usp_lab.specs.declared.report.AskReport.{AskReport}
use Rattle.usp_lab.specs.declared.report.Report.{Report}
use Rattle.usp_lab.specs.declared.running.books.Books.{Books}
use Rattle.usp_lab.proofs.Heading.{drop_next}
use Rattle.usp_lab.proofs.Histories.{all_more, counts, has_history, has_table, length_map, mapped_at, nothing_made}

-- The run is so far, these rounds are left, and there is room for their asks.
pub record IsSoFar (script : ScriptValue) (workers : ℕ) (left : List Round) (books : Books) (tables : List TableValue)
    (before now : Option (List Used)) : Type 0 where
  pub run : Run
  pub so_far : (after : Run) → RunsFrom script run left after → Runs script after
  pub way : IsUnderWay script.edges workers run books tables
  pub lines : now ≡ append_used before (map used_by (served_in run))
  pub asks : length (served_in run) + asks_in left ≤ MAX_ASKS
  pub room : All (HasRoom (asks_in left)) tables

-- ---- before the first round

used_nothing : (lines : Option (List Used)) → lines ≡ append_used lines []
used_nothing None = refl
used_nothing (Some all) = ap Some (sym (append-nil all))

empty_keeps : (books : Books) → IsEmpty books → Keeps nothing_run books
empty_keeps books empty = record {
  entries = empty.entries;
  grants = empty.grants;
  asks = empty.asks;
  issued = empty.issued;
}

nothing_modest : IsModest nothing_run
nothing_modest = record {
  granted = omega arith;
  since = λ k d lt. absurd (omega (arith, lt));
  short = λ k d lt. absurd (omega (arith, lt));
}

room_at : (asks : ℕ) (room : ℕ) (table : TableValue) → asks ≤ MAX_ASKS → IsFresh room table_share table
    → HasRoom asks table
room_at asks room table few fresh =
    let left : table.seat.left ≡ table_share = ap (λ seat. seat.left) fresh.seat in
    let most : 1600 * asks ≤ 1600 * 100000 = omega (arith, few) in
    let is : 1600 * asks ≤ table.seat.left = omega (arith, left, most) in
    is

fresh_room : (asks : ℕ) (edges : List ConfValue) (tables : List TableValue) → asks ≤ MAX_ASKS → AreFresh edges tables
    → All (HasRoom asks) tables
fresh_room asks [] [] few fresh k d lt = absurd (omega (arith, lt))
fresh_room asks [] (table ∷ tables) few fresh k d lt = absurd fresh
fresh_room asks (edge ∷ edges) [] few fresh k d lt = absurd fresh
fresh_room asks (edge ∷ edges) (table ∷ tables) few (here, fresh) zero d lt = room_at asks edge.room table few here
fresh_room asks (edge ∷ edges) (table ∷ tables) few (here, fresh) (suc k) d lt =
    fresh_room asks edges tables few fresh k d (omega (arith, lt))

pub so_far_first : (script : ScriptValue) (workers : ℕ) (books : Books) (tables : List TableValue)
    (lines : Option (List Used)) → IsScript script → IsEmpty books → AreFresh script.edges tables
    → IsSoFar script workers script.rounds books tables lines lines
so_far_first script workers books tables lines is empty fresh = record {
  run = nothing_run;
  so_far = λ after from. from;
  way = record {
    keeps = empty_keeps books empty;
    made = nothing_made script.edges workers tables fresh;
    modest = nothing_modest;
  };
  lines = used_nothing lines;
  asks = let few = is.few in omega (arith, few);
  room = fresh_room (asks_in script.rounds) script.edges tables is.few fresh;
}

-- ---- one round more

pub served_long : (script : ScriptValue) (issued : List (Option (List ℕ))) (known : ℕ) (asks : List LabAsk)
    (all : List Served) → AreServed script issued known asks all → length all ≡ length asks
served_long script issued known _ _ nothing = refl
served_long script issued known _ _ (another ask asks served all is so) =
    ap suc (served_long script issued known asks all so)

used_both : (before : Option (List Used)) (x y : List Used)
    → append_used (append_used before x) y ≡ append_used before (x ++ y)
used_both None x y = refl
used_both (Some all) x y = ap Some (append_assoc all x y)

lines_next : (run : Run) (round : Round) (all : List Served) (before mid after : Option (List Used))
    → mid ≡ append_used before (map used_by (served_in run)) → after ≡ append_used mid (map used_by all)
    → after ≡ append_used before (map used_by (served_in (with_round run round all)))
lines_next run round all before mid after first second =
    second
    ∙ (ap (λ lines. append_used lines (map used_by all)) first
    ∙ (used_both before (map used_by (served_in run)) (map used_by all)
    ∙ ap (append_used before) (sym (map-append used_by (served_in run) all) ∙ ap (map used_by) (sym (all_more run.rounds all)))))

asks_next : (run : Run) (round : Round) (rounds : List Round) (all : List Served)
    → length (served_in run) + asks_in (round ∷ rounds) ≤ MAX_ASKS → length all ≡ length round.asks
    → length (served_in (with_round run round all)) + asks_in rounds ≤ MAX_ASKS
asks_next run round rounds all few long =
    let both = ap (λ (all : List Served). length all) (all_more run.rounds all) in
    let more = length-append (served_in run) all in
    omega (arith, few, long, both, more)

pub so_far_next : (script : ScriptValue) (workers : ℕ) (round : Round) (rounds : List Round) (old new : Books)
    (tables later : List TableValue) (before mid after : Option (List Used))
    → (far : IsSoFar script workers (round ∷ rounds) old tables before mid)
    → ((run : Run) → IsUnderWay script.edges workers run old tables
    → HasGoneOn script workers run round new later mid after)
    → ((more : ℕ) → All (HasRoom (length round.asks + more)) tables → All (HasRoom more) later)
    → IsSoFar script workers rounds new later before after
so_far_next script workers round rounds old new tables later before mid after far goes room =
    let gone = goes far.run far.way in
    record {
      run = with_round far.run round gone.all;
      so_far = λ last from. far.so_far last (runs far.run last round rounds gone.all gone.served from);
      way = gone.way;
      lines = lines_next far.run round gone.all before mid after far.lines gone.lines;
      asks = asks_next far.run round rounds gone.all far.asks (served_long script _ _ round.asks gone.all gone.served);
      room = room (asks_in rounds) far.room;
    }

-- the same of the round at a place
pub so_far_step : (script : ScriptValue) (workers : ℕ) (rounds : List Round) (i : ℕ) (round : Round) (old new : Books)
    (tables later : List TableValue) (before mid after : Option (List Used)) → i < length rounds
    → round ≡ slice_index_or rounds i round
    → IsSoFar script workers (drop i rounds) old tables before mid
    → ((run : Run) → IsUnderWay script.edges workers run old tables
    → HasGoneOn script workers run round new later mid after)
    → ((more : ℕ) → All (HasRoom (length round.asks + more)) tables → All (HasRoom more) later)
    → IsSoFar script workers (drop (i + 1) rounds) new later before after
so_far_step script workers rounds i round old new tables later before mid after below is far goes room =
    so_far_next script workers round (drop (i + 1) rounds) old new tables later before mid after
    (subst (λ (left : List Round). IsSoFar script workers left old tables before mid) (drop_next rounds i round below is) far)
    goes room

-- the round at a place is one of the script
pub round_at : (script : ScriptValue) (rounds : List Round) (i : ℕ) (round : Round) → IsScript script
    → rounds ≡ script.rounds → i < length rounds → round ≡ slice_index_or rounds i round → IsRound script.edges round
round_at script rounds i round is same below at =
    subst (IsRound script.edges) (sym at)
    (subst (λ (l : List Round). All (IsRound script.edges) l) (sym same) is.rounds i round below)

-- ---- behind the last round

pub are_run : (script : ScriptValue) (workers : ℕ) (books : Books) (tables : List TableValue)
    (before after : Option (List Used)) → IsSoFar script workers [] books tables before after
    → AreRun script workers books tables before after
are_run script workers books tables before after far = record {
  run = far.run;
  runs = far.so_far far.run (ends far.run far.run refl);
  way = far.way;
  lines = far.lines;
}

pub so_far_last : (script : ScriptValue) (workers : ℕ) (rounds : List Round) (i : ℕ) (books : Books)
    (tables : List TableValue) (before after : Option (List Used)) → length rounds ≤ i
    → IsSoFar script workers (drop i rounds) books tables before after
    → AreRun script workers books tables before after
so_far_last script workers rounds i books tables before after past far =
    are_run script workers books tables before after
    (subst (λ (left : List Round). IsSoFar script workers left books tables before after) (drop_all i rounds past) far)

-- ---- the report

-- what is reported is what the books keep
pub record Reports (books : Books) (counts : List ℕ) (report : Report) : Type 0 where
  pub asks : report.asks ≡ books.asks.items
  pub ledger : report.ledger ≡ ledger_of books.entries
  pub labels : report.labels ≡ labels_of books.entries
  pub calls : report.calls ≡ counts

module _ (script : ScriptValue) (workers : ℕ) (books : Books) (tables : List TableValue)
    (before after : Option (List Used)) (report : Report) (are : AreRun script workers books tables before after)
    (one : All IsOneHistory tables) (reports : Reports books (map calls_made tables) report) where
  many : length report.calls ≡ length script.edges
  many =
      let a = ap (λ (calls : List ℕ). length calls) reports.calls in
      let b = length_map calls_made tables in
      let c = ap (λ (rooms : List ℕ). length rooms) are.way.made.rooms in
      let d = length_map (λ (table : TableValue). table.shared.room) tables in
      let e = length_map (λ (edge : ConfValue). edge.room) script.edges in
      omega (arith, a, b, c, d, e)

  counted : (place : ℕ) → place < length script.edges
      → slice_get report.calls place ≡ Some (length (calls_at place (served_in are.run)))
  counted place below =
      let of = has_table script.edges workers are.run tables are.way.made one place below in
      ap (λ (calls : List ℕ). slice_get calls place) reports.calls
      ∙ (mapped_at calls_made tables place of.0 of.1
      ∙ ap Some (counts script.edges workers are.run tables are.way.made one place of.0 of.1))

  pub has_run : HasRun script workers before after report
  has_run = record {
    run = are.run;
    is = record {
      runs = are.runs;
      histories = λ place edge at. has_history script.edges workers are.run tables are.way.made one place edge at;
    };
    reports = record {
      asks = reports.asks ∙ are.way.keeps.asks;
      ledger = reports.ledger ∙ ap ledger_of are.way.keeps.entries;
      labels = reports.labels ∙ ap labels_of are.way.keeps.entries;
      many = many;
      calls = counted;
    };
    lines = are.lines;
  }
