-- What is kept of a run, with one round more.
use Rattle.std.proofs.Common.{◌≡◌, refl, sym, ap, ◌∙◌, subst, ℕ, zero, suc, ◌+◌, ◌≤◌, ◌<◌, List, [], ◌∷◌, ◌++◌, length, length-append, append_assoc, map, take, Option, Some, None, arith}
use Rattle.std.specs.Prelude.{All, IfSome}
use Rattle.std.proofs.Math.Seq.{take-append_seam}
use Rattle.std.proofs.lemmas.List.{map-append}
use Rattle.std.proofs.lemmas.List.Elements.{All-append, All-weaker}
use Rattle.usp_conf.specs.Values.{ConfValue}
use Rattle.usp_edge.specs.declared.note.Note.{Note}
use Rattle.usp_script.specs.Script.{ScriptValue}
use Rattle.usp_script.specs.declared.ask.LabAsk.{LabAsk}
use Rattle.usp_script.specs.declared.ask.Round.{Round}
use Rattle.usp_trace.specs.declared.issue.Issue.{Issue}
use Rattle.usp_lab.specs.Books.{Keeps, noted_entries, noted_reports}
use Rattle.usp_lab.specs.Entries.{Entry, Run, grant_entries, issue_entries, ledger_of, opened, served_in, with_round}
use Rattle.usp_lab.specs.Reports.{report_of}
use Rattle.usp_lab.specs.Rounds.{AreServed, Served, all_of, issued_by}
use Rattle.usp_lab.specs.UnderWay.{IsModest, IsShort}
use Rattle.usp_lab.specs.declared.report.AskReport.{AskReport}
use Rattle.usp_lab.specs.declared.running.books.Books.{Books}
use Rattle.usp_lab.proofs.Histories.{all_more, length_map}
use Rattle.usp_lab.proofs.Noting.{AreNoted, IsNoted, are_noted, entries_same, no_asks, one_more, reports_same, reports_stay}

-- ---- what the round adds

-- The books with its grants, and then with what its asks brought.
pub record HasGrants (tokens : List (List ℕ)) (old new : Books) : Type 0 where
  pub entries : new.entries ≡ old.entries ++ grant_entries (old.grants + 1) tokens
  pub grants : new.grants ≡ old.grants + length tokens
  pub asks : new.asks ≡ old.asks
  pub issued : new.issued ≡ old.issued

pub record HasNotes (edges : List ConfValue) (asked : List LabAsk) (notes : List Note) (old new : Books) : Type 0 where
  pub entries : new.entries
      ≡ old.entries ++ noted_entries (length old.issued.items + 1) (ledger_of old.entries) edges asked notes
  pub asks : new.asks.items ≡ old.asks.items ++ noted_reports (ledger_of old.entries) asked notes
  pub issued : new.issued.items ≡ old.issued.items ++ map (λ note. note.issued) notes
  pub grants : new.grants ≡ old.grants

abbrev notes_of : List Served → List Note
notes_of all = map (λ served. served.note) all

module _ (script : ScriptValue) (run : Run) (round : Round) (all : List Served) (old mid new : Books)
    (keeps : Keeps run old) (granted : HasGrants round.grants old mid)
    (noted : HasNotes script.edges round.asks (notes_of all) mid new)
    (asked : AreNoted script.edges (length (opened run round)) round.asks all) where
  abbrev next : Run
  next = with_round run round all

  opens : mid.entries ≡ opened run round
  opens =
      granted.entries
      ∙ (ap (λ (entries : List Entry). entries ++ grant_entries (old.grants + 1) round.grants) keeps.entries
      ∙ ap (λ number. run.entries ++ grant_entries (number + 1) round.grants) keeps.grants)

  issued_so_far : mid.issued.items ≡ issued_by (served_in run)
  issued_so_far = ap (λ (issued : _). issued.items) granted.issued ∙ keeps.issued

  asks_so_far : length mid.issued.items ≡ length (served_in run)
  asks_so_far = ap length issued_so_far ∙ length_map (λ (served : Served). served.note.issued) (served_in run)

  entries_next : new.entries ≡ next.entries
  entries_next =
      noted.entries
      ∙ (ap (λ (entries : List Entry). entries ++ noted_entries (length mid.issued.items + 1) (ledger_of entries) script.edges round.asks (notes_of all)) opens
      ∙ (ap (λ number. opened run round ++ noted_entries (number + 1) (ledger_of (opened run round)) script.edges round.asks (notes_of all)) asks_so_far
      ∙ ap (λ entries. opened run round ++ entries)
      (sym (entries_same (ledger_of (opened run round)) script.edges (length (opened run round)) (length (served_in run) + 1) round.asks all asked))))

  front : take (length (opened run round)) (ledger_of next.entries) ≡ ledger_of (opened run round)
  front =
      let behind = issue_entries (length (served_in run) + 1) (ledger_of (opened run round)) all in
      ap (take (length (opened run round))) (map-append (λ (entry : Entry). entry.issue) (opened run round) behind)
      ∙ (ap (λ n. take n (ledger_of (opened run round) ++ ledger_of behind)) (sym (length_map (λ (entry : Entry). entry.issue) (opened run round)))
      ∙ take-append_seam (ledger_of (opened run round)) (ledger_of behind))

  grown : next.entries ≡ run.entries ++ (grant_entries (run.grants + 1) round.grants ++ issue_entries (length (served_in run) + 1) (ledger_of (opened run round)) all)
  grown = append_assoc run.entries (grant_entries (run.grants + 1) round.grants) (issue_entries (length (served_in run) + 1) (ledger_of (opened run round)) all)

  asks_next : All (λ served. served.known ≤ length run.entries) (served_in run) → new.asks.items ≡ map (report_of next) (served_in next)
  asks_next since =
      noted.asks
      ∙ (ap (λ (reports : List AskReport). reports ++ noted_reports (ledger_of mid.entries) round.asks (notes_of all))
      (ap (λ (asks : _). asks.items) granted.asks ∙ (keeps.asks ∙ sym (reports_stay run next _ (served_in run) grown since)))
      ∙ (ap (λ (entries : List Entry). map (report_of next) (served_in run) ++ noted_reports (ledger_of entries) round.asks (notes_of all)) opens
      ∙ (ap (λ reports. map (report_of next) (served_in run) ++ reports)
      (sym (reports_same next (ledger_of (opened run round)) script.edges (length (opened run round)) round.asks all front asked))
      ∙ (sym (map-append (report_of next) (served_in run) all) ∙ ap (map (report_of next)) (sym (all_more run.rounds all))))))

  issued_next : new.issued.items ≡ issued_by (served_in next)
  issued_next =
      noted.issued
      ∙ (ap (λ (issued : List (Option (List ℕ))). issued ++ map (λ (note : Note). note.issued) (notes_of all)) issued_so_far
      ∙ (ap (λ issued. issued_by (served_in run) ++ issued) (of_notes all)
      ∙ (sym (map-append (λ (served : Served). served.note.issued) (served_in run) all) ∙ ap issued_by (sym (all_more run.rounds all)))))
    where
      of_notes : (all : List Served) → map (λ (note : Note). note.issued) (notes_of all) ≡ issued_by all
      of_notes [] = refl
      of_notes (served ∷ all) = ap (λ rest. served.note.issued ∷ rest) (of_notes all)

  grants_next : new.grants ≡ next.grants
  grants_next = noted.grants ∙ (granted.grants ∙ ap (λ n. n + length round.grants) keeps.grants)

  pub keeps_next : IsModest run → Keeps next new
  keeps_next modest = record {
    entries = entries_next;
    grants = grants_next;
    asks = asks_next modest.since;
    issued = issued_next;
  }

-- ---- modesty

grants_long : (number : ℕ) (tokens : List (List ℕ)) → length (grant_entries number tokens) ≡ length tokens
grants_long number [] = refl
grants_long number (token ∷ tokens) = ap suc (grants_long (number + 1) tokens)

noted_since : (edges : List ConfValue) (known most : ℕ) (asks : List LabAsk) (all : List Served) → known ≤ most
    → AreNoted edges known asks all → All (λ served. served.known ≤ most) all
noted_since edges known most _ _ le no_asks k d lt = absurd (omega (arith, lt))
noted_since edges known most _ _ le (one_more ask asks served all is so) zero d lt = omega (arith, le, is.since)
noted_since edges known most _ _ le (one_more ask asks served all is so) (suc k) d lt =
    noted_since edges known most asks all le so k d (omega (arith, lt))

module _ (edges : List ConfValue) (run : Run) (round : Round) (all : List Served) (modest : IsModest run)
    (asked : AreNoted edges (length (opened run round)) round.asks all)
    (short : All (λ issued. IfSome issued IsShort) (issued_by all)) where
  abbrev then : Run
  then = with_round run round all

  abbrev behind : List Entry
  behind = issue_entries (length (served_in run) + 1) (ledger_of (opened run round)) all

  long : length then.entries ≡ (length run.entries + length round.grants) + length behind
  long =
      let a = length-append (opened run round) behind in
      let b = length-append run.entries (grant_entries (run.grants + 1) round.grants) in
      let g = grants_long (run.grants + 1) round.grants in
      omega (arith, a, b, g)

  known_long : length (opened run round) ≤ length then.entries
  known_long = omega (arith, length-append (opened run round) behind)

  since_next : All (λ served. served.known ≤ length then.entries) (served_in then)
  since_next =
      subst (All (λ (served : Served). served.known ≤ length then.entries)) (sym (all_more run.rounds all))
      (All-append (λ (served : Served). served.known ≤ length then.entries) (served_in run) all
      (λ k d lt. let was = modest.since k d lt in omega (arith, was, long))
      (noted_since edges (length (opened run round)) (length then.entries) round.asks all known_long asked))

  short_next : All (λ issued. IfSome issued IsShort) (issued_by (served_in then))
  short_next =
      subst (All (λ (issued : Option (List ℕ)). IfSome issued IsShort))
      (sym (map-append (λ (served : Served). served.note.issued) (served_in run) all) ∙ ap issued_by (sym (all_more run.rounds all)))
      (All-append (λ (issued : Option (List ℕ)). IfSome issued IsShort) (issued_by (served_in run)) (issued_by all) modest.short short)

  pub modest_next : IsModest then
  modest_next = record {
    granted = let was = modest.granted in omega (arith, was, long);
    since = since_next;
    short = short_next;
  }
