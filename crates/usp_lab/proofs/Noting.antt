-- What asks bring to the ledger, by their notes.
use Rattle.std.proofs.Common.{◌≡◌, refl, sym, ap, ◌∙◌, subst, ℕ, zero, suc, ◌+◌, ◌≤◌, ◌<◌, List, [], ◌∷◌, ◌++◌, length, map, take, Option, Some, None, arith}
use Rattle.std.specs.Prelude.{All, slice_get}
use Rattle.std.specs.Option.{option_and_then, option_map}
use Rattle.std.proofs.lemmas.List.{map-append, take-append-le}
use Rattle.usp_conf.specs.Values.{ConfValue}
use Rattle.usp_edge.specs.declared.note.Note.{Note}
use Rattle.usp_script.specs.Script.{ScriptValue}
use Rattle.usp_script.specs.declared.ask.LabAsk.{LabAsk}
use Rattle.usp_trace.specs.Chains.{first_place}
use Rattle.usp_trace.specs.declared.issue.Issue.{Issue}
use Rattle.usp_lab.specs.Books.{issue_at, noted_entries, noted_reports, origin_in, report_at}
use Rattle.usp_lab.specs.Entries.{Entry, Run, content_of, entry_for, issue_by, issue_entries, issue_of, ledger_of, served_in}
use Rattle.usp_lab.specs.Reports.{report_of}
use Rattle.usp_lab.specs.Rounds.{AreServed, IsServed, Served, another, nothing}
use Rattle.usp_lab.specs.declared.report.AskReport.{AskReport}

-- ---- one ask

-- the two orders of asking what there is
module _ (ledger : List Issue) (place : ℕ) (edge : ConfValue) (note : Note) where
  abbrev brings : Option (List ℕ) → Option (List ℕ) → Option Issue
  brings issued presented =
      option_and_then (λ token.
      option_and_then (λ shown.
      option_and_then (λ parent.
      option_map (λ content. issue_by parent place content note.moment note.route token) (content_of edge note))
      (first_place shown ledger)) presented) issued

  abbrev brings_at : Option (List ℕ) → Option ℕ → Option Issue
  brings_at issued None = None
  brings_at issued (Some parent) =
      option_and_then (λ token.
      option_map (λ content. issue_by parent place content note.moment note.route token) (content_of edge note)) issued

  by_place : (token : List ℕ) (parent : Option ℕ)
      → option_and_then (λ parent.
      option_map (λ content. issue_by parent place content note.moment note.route token) (content_of edge note)) parent
      ≡ brings_at (Some token) parent
  by_place token None = refl
  by_place token (Some parent) = refl

  none_by : (parent : Option ℕ) → None ≡ brings_at None parent
  none_by None = refl
  none_by (Some parent) = refl

  brings_same : (issued presented : Option (List ℕ))
      → brings issued presented ≡ brings_at issued (option_and_then (λ shown. first_place shown ledger) presented)
  brings_same None presented = none_by (option_and_then (λ shown. first_place shown ledger) presented)
  brings_same (Some token) None = refl
  brings_same (Some token) (Some shown) = by_place token (first_place shown ledger)

at_same : (place : ℕ) (edge : ConfValue) (note : Note) (origin : Option ℕ) (ledger : List Issue)
    → brings_at ledger place edge note note.issued origin ≡ issue_at origin place edge note
at_same place edge note None ledger = refl
at_same place edge note (Some parent) ledger = refl

issue_same : (ledger : List Issue) (served : Served)
    → issue_of ledger served ≡ issue_at (origin_in ledger served.note) served.ask.edge served.edge served.note
issue_same ledger served =
    brings_same ledger served.ask.edge served.edge served.note served.note.issued served.note.token
    ∙ at_same served.ask.edge served.edge served.note (origin_in ledger served.note) ledger

-- ---- a round

-- what is known of an ask that was served, by plain equations
pub record IsNoted (edges : List ConfValue) (known : ℕ) (ask : LabAsk) (served : Served) : Type 0 where
  pub is : served.ask ≡ ask
  pub at : slice_get edges ask.edge ≡ Some served.edge
  pub since : served.known ≡ known

pub data AreNoted (edges : List ConfValue) (known : ℕ) : List LabAsk → List Served → Type 0 where
  no_asks : AreNoted edges known [] []
  one_more : (ask : LabAsk) (asks : List LabAsk) (served : Served) (all : List Served) → IsNoted edges known ask served
      → AreNoted edges known asks all → AreNoted edges known (ask ∷ asks) (served ∷ all)

pub are_noted : (script : ScriptValue) (issued : List (Option (List ℕ))) (known : ℕ) (asks : List LabAsk)
    (all : List Served) → AreServed script issued known asks all → AreNoted script.edges known asks all
are_noted script issued known _ _ nothing = no_asks
are_noted script issued known _ _ (another ask asks served all is so) =
    one_more ask asks served all (record { is = is.is; at = is.at; since = is.since })
    (are_noted script issued known asks all so)

entry_same : (number : ℕ) (ledger : List Issue) (edges : List ConfValue) (known : ℕ) (ask : LabAsk) (served : Served)
    → IsNoted edges known ask served
    → entry_for number (issue_of ledger served)
    ≡ entry_for number (option_and_then (λ edge. issue_at (origin_in ledger served.note) ask.edge edge served.note)
    (slice_get edges ask.edge))
entry_same number ledger edges known ask served is =
    ap (entry_for number)
    (issue_same ledger served
    ∙ (ap (λ (a : LabAsk). issue_at (origin_in ledger served.note) a.edge served.edge served.note) is.is
    ∙ sym (ap (option_and_then (λ edge. issue_at (origin_in ledger served.note) ask.edge edge served.note)) is.at)))

pub entries_same : (ledger : List Issue) (edges : List ConfValue) (known number : ℕ) (asks : List LabAsk)
    (all : List Served) → AreNoted edges known asks all
    → issue_entries number ledger all ≡ noted_entries number ledger edges asks (map (λ served. served.note) all)
entries_same ledger edges known number _ _ no_asks = refl
entries_same ledger edges known number _ _ (one_more ask asks served all is so) =
    let notes = map (λ (s : Served). s.note) all in
    ap (λ front. front ++ issue_entries (number + 1) ledger all) (entry_same number ledger edges known ask served is)
    ∙ ap (λ rest. entry_for number
    (option_and_then (λ edge. issue_at (origin_in ledger served.note) ask.edge edge served.note)
    (slice_get edges ask.edge)) ++ rest)
    (entries_same ledger edges known (number + 1) asks all so)

-- ---- reports

report_with : (run : Run) (served : Served) (ledger : List Issue) → take served.known (ledger_of run.entries) ≡ ledger
    → report_of run served ≡ report_at (origin_in ledger served.note) served.ask.edge served.note
report_with run served ledger is =
    ap (λ (l : List Issue). report_at (origin_in l served.note) served.ask.edge served.note) is

pub reports_same : (run : Run) (ledger : List Issue) (edges : List ConfValue) (known : ℕ) (asks : List LabAsk)
    (all : List Served) → take known (ledger_of run.entries) ≡ ledger → AreNoted edges known asks all
    → map (report_of run) all ≡ noted_reports ledger asks (map (λ served. served.note) all)
reports_same run ledger edges known _ _ front no_asks = refl
reports_same run ledger edges known _ _ front (one_more ask asks served all is so) =
    let here : report_of run served ≡ report_at (origin_in ledger served.note) ask.edge served.note =
    report_with run served ledger (ap (λ n. take n (ledger_of run.entries)) is.since ∙ front)
    ∙ ap (λ (a : LabAsk). report_at (origin_in ledger served.note) a.edge served.note) is.is in
    ap (λ first. first ∷ map (report_of run) all) here
    ∙ ap (λ rest. report_at (origin_in ledger served.note) ask.edge served.note ∷ rest)
    (reports_same run ledger edges known asks all front so)

-- what was reported of an ask stays while the ledger grows
pub reports_stay : (run longer : Run) (more : List Entry) (all : List Served) → longer.entries ≡ run.entries ++ more
    → All (λ served. served.known ≤ length run.entries) all → map (report_of longer) all ≡ map (report_of run) all
reports_stay run longer more [] grown since = refl
reports_stay run longer more (served ∷ all) grown since =
    let below : served.known ≤ length (ledger_of run.entries) =
    let s = since zero served (omega arith) in let l = ledger_long run.entries in omega (arith, s, l) in
    let front : take served.known (ledger_of longer.entries) ≡ take served.known (ledger_of run.entries) =
    ap (λ es. take served.known (ledger_of es)) grown
    ∙ (ap (take served.known) (map-append (λ (entry : Entry). entry.issue) run.entries more)
    ∙ take-append-le served.known (ledger_of run.entries) (ledger_of more) below) in
    ap (λ first. first ∷ map (report_of longer) all) (report_with longer served (take served.known (ledger_of run.entries)) front)
    ∙ ap (λ rest. report_of run served ∷ rest)
    (reports_stay run longer more all grown (λ k d lt. since (suc k) d (omega (arith, lt))))
  where
    ledger_long : (entries : List Entry) → length (ledger_of entries) ≡ length entries
    ledger_long [] = refl
    ledger_long (entry ∷ entries) = ap suc (ledger_long entries)
