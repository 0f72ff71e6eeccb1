-- What was issued in a run is what its asks brought to the ledger as their rounds began.
use Rattle.std.proofs.Common.{◌≡◌, ℕ, zero, suc, ◌+◌, ◌≤◌, List, [], ◌∷◌, ◌++◌, length, take, Option, Some, None, inl, inr, refl, sym, ap, ◌∙◌, subst, arith, length-append}
use Rattle.std.specs.Prelude.{All}
use Rattle.std.specs.List.{slice_get}
use Rattle.std.proofs.Math.Seq.{take-append_seam}
use Rattle.std.proofs.lemmas.List.{length-map, take-append-le}
use Rattle.std.proofs.lemmas.List.Elements.{All-head, All-tail}
use Rattle.usp_script.specs.Script.{IsRound, IsScript, ScriptValue}
use Rattle.usp_script.specs.declared.ask.Label.TheVariants.{Issued}
use Rattle.usp_script.specs.declared.ask.Round.{Round}
use Rattle.usp_trace.proofs.Ordered.{get_front}
use Rattle.usp_trace.specs.Issues.{parent_of}
use Rattle.usp_trace.specs.declared.issue.Issue.{Issue}
use Rattle.usp_lab.proofs.Labels.{grant_none, issue_at}
use Rattle.usp_lab.proofs.Lists.{all_one_more, get_later, get_split, ledger_append}
use Rattle.usp_lab.proofs.Told.{OfEach, served_each}
use Rattle.usp_lab.specs.Entries.{Entry, Run, RunsFrom, ends, grant_entries, issue_entries, issue_of, ledger_of, nothing_run, opened, runs, served_in, with_round}
use Rattle.usp_lab.specs.Provenance.{ledger_before}
use Rattle.usp_lab.specs.Rounds.{AreServed, Served, issued_by}

-- what this ask brought
pub record Brought (run : Run) (entry : Entry) : Type 0 where
  pub number : ℕ
  pub served : Served
  pub at : slice_get (served_in run) number ≡ Some served
  pub label : entry.label ≡ Issued (number + 1)
  pub within : served.known ≤ length (ledger_of run.entries)
  pub issue : issue_of (ledger_before run served) served ≡ Some entry.issue

abbrev AreBrought : Run → Type 0
AreBrought run = (place parent : ℕ) (entry : Entry) → slice_get run.entries place ≡ Some entry → parent_of entry.issue ≡ Some parent → Brought run entry

ledger_long : (entries : List Entry) → length (ledger_of entries) ≡ length entries
ledger_long entries = length-map entries (λ (entry : Entry). entry.issue)

ledger_front : (n : ℕ) (xs ys : List Entry) → n ≤ length (ledger_of xs) → take n (ledger_of (xs ++ ys)) ≡ take n (ledger_of xs)
ledger_front n xs ys le = ap (take n) (ledger_append xs ys) ∙ take-append-le n (ledger_of xs) (ledger_of ys) le

ledger_all : (xs ys : List Entry) → take (length xs) (ledger_of (xs ++ ys)) ≡ ledger_of xs
ledger_all xs ys = ap (take (length xs)) (ledger_append xs ys) ∙ subst (λ n. take n (ledger_of xs ++ ledger_of ys) ≡ ledger_of xs) (ledger_long xs) (take-append_seam (ledger_of xs) (ledger_of ys))

longer : (xs ys : List Entry) → length (ledger_of xs) ≤ length (ledger_of (xs ++ ys))
longer xs ys = omega (arith, ap length (ledger_append xs ys), length-append (ledger_of xs) (ledger_of ys))

module _ (run : Run) (round : Round) (all : List Served) where
  abbrev entries : List Entry
  entries = opened run round

  abbrev issues : List Entry
  issues = issue_entries (length (served_in run) + 1) (ledger_of entries) all

  -- what an earlier round brought
  stays_brought : (entry : Entry) → Brought run entry → Brought (with_round run round all) entry
  stays_brought entry h =
      let grants = grant_entries (run.grants + 1) round.grants in
      let first : length (ledger_of run.entries) ≤ length (ledger_of entries) = longer run.entries grants in
      let second : length (ledger_of entries) ≤ length (ledger_of (entries ++ issues)) = longer entries issues in
      let same : take h.served.known (ledger_of (entries ++ issues)) ≡ take h.served.known (ledger_of run.entries)
      = ledger_front h.served.known entries issues (omega (arith, h.within, first)) ∙ ledger_front h.served.known run.entries grants h.within in
      record {
        number = h.number;
        served = h.served;
        at = subst (λ (l : List Served). slice_get l h.number ≡ Some h.served) (sym (all_one_more run.rounds all)) (get_front (served_in run) all h.number h.served h.at);
        label = h.label;
        within = omega (arith, h.within, first, second);
        issue = ap (λ (l : List Issue). issue_of l h.served) same ∙ h.issue;
      }

  -- what this round brought
  newly_brought : OfEach (λ (served : Served). served.known ≡ length entries) all → (k : ℕ) (entry : Entry) → slice_get issues k ≡ Some entry → Brought (with_round run round all) entry
  newly_brought known k entry e =
      let of = issue_at (length (served_in run) + 1) (ledger_of entries) all k entry e in
      let since = known of.place of.served of.at in
      let same : take of.served.known (ledger_of (entries ++ issues)) ≡ ledger_of entries
      = ap (λ n. take n (ledger_of (entries ++ issues))) since ∙ ledger_all entries issues in
      let number : (length (served_in run) + 1) + of.place ≡ (length (served_in run) + of.place) + 1 = omega arith in
      record {
        number = length (served_in run) + of.place;
        served = of.served;
        at = subst (λ (l : List Served). slice_get l (length (served_in run) + of.place) ≡ Some of.served) (sym (all_one_more run.rounds all)) (get_later (served_in run) all of.place of.served of.at);
        label = of.label ∙ ap Issued number;
        within = omega (arith, since, ledger_long entries, longer entries issues);
        issue = ap (λ (l : List Issue). issue_of l of.served) same ∙ of.of;
      }

  round_brought : OfEach (λ (served : Served). served.known ≡ length entries) all → AreBrought run → AreBrought (with_round run round all)
  round_brought known h place parent entry e is = elim (get_split entries issues place entry e) [
    | inl front ↦ elim (get_split run.entries (grant_entries (run.grants + 1) round.grants) place entry front) [
      | inl old ↦ stays_brought entry (h place parent entry old is)
      | inr grant ↦ let clash : None ≡ Some parent = sym (grant_none (run.grants + 1) round.grants grant.0 entry grant.2) ∙ is in absurd (cc clash)
    ]
    | inr later ↦ newly_brought known later.0 entry later.2
  ]

served_since : (script : ScriptValue) (run : Run) (round : Round) (all : List Served) → IsRound script.edges round → AreServed script (issued_by (served_in run)) (length (opened run round)) round.asks all
    → OfEach (λ (served : Served). served.known ≡ length (opened run round)) all
served_since script run round all is served =
    served_each (λ (one : Served). one.known ≡ length (opened run round)) script (issued_by (served_in run)) (length (opened run round)) (λ ask one is_ask is_served. is_served.since) round.asks all is.asks served

run_brought : (script : ScriptValue) (run : Run) (rounds : List Round) (after : Run) → All (IsRound script.edges) rounds → RunsFrom script run rounds after → AreBrought run → AreBrought after
run_brought script _ _ _ are (ends run after is) h = subst AreBrought (sym is) h
run_brought script _ _ _ are (runs run after round rounds all served rest) h =
    run_brought script (with_round run round all) rounds after (All-tail (IsRound script.edges) round rounds are) rest
    (round_brought run round all (served_since script run round all (All-head (IsRound script.edges) round rounds are) served) h)

pub each_brought : (script : ScriptValue) (run : Run) → IsScript script → RunsFrom script nothing_run script.rounds run → (place parent : ℕ) (entry : Entry) → slice_get run.entries place ≡ Some entry
    → parent_of entry.issue ≡ Some parent → Brought run entry
each_brought script run is_script is = run_brought script nothing_run script.rounds run is_script.rounds is (λ place parent entry e of. cc)
