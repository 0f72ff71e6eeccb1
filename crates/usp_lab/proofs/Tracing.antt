-- The ledger of a run is sound, and each admitted ask whose token is in it met its grant.
use Rattle.std.proofs.Common.{◌≡◌, ℕ, ◌+◌, List, [], ◌∷◌, ◌++◌, length, Option, Some, refl, sym, ap, ◌∙◌, subst}
use Rattle.std.specs.Prelude.{All}
use Rattle.std.specs.List.{slice_get}
use Rattle.std.proofs.lemmas.List.Elements.{All-head, All-tail}
use Rattle.usp_edge.specs.Honest.{IsAdmission}
use Rattle.usp_issue.specs.Sites.{SiteValue}
use Rattle.usp_rules.specs.Rules.{Valid}
use Rattle.usp_script.specs.Script.{IsRound, IsScript, ScriptValue, grants_in, sites_of}
use Rattle.usp_script.specs.declared.ask.Round.{Round}
use Rattle.usp_trace.proofs.Handed.{valid_met}
use Rattle.usp_trace.proofs.Ordered.{first_has}
use Rattle.usp_trace.specs.Grants.{GrantMet}
use Rattle.usp_trace.specs.Issues.{use_at}
use Rattle.usp_trace.specs.Sound.{Sound, presented_by}
use Rattle.usp_trace.specs.declared.issue.Issue.{Issue}
use Rattle.usp_lab.proofs.Owning.{each_brought}
use Rattle.usp_lab.proofs.Told.{IsTold, OfEach, each_both, issued_taken, run_told, served_told}
use Rattle.usp_lab.proofs.Issuing.{grants_due, issues_due, sites_get}
use Rattle.usp_lab.proofs.Labels.{issued_of, labels_stand, run_grants}
use Rattle.usp_lab.proofs.Ledgers.{sound_append, sound_take}
use Rattle.usp_lab.proofs.Lists.{ledger_append, same_some}
use Rattle.usp_lab.specs.Entries.{Run, Runs, RunsFrom, content_of, ends, grant_entries, issue_entries, ledger_of, nothing_run, opened, runs, served_in, with_round}
use Rattle.usp_lab.specs.Provenance.{IsProvenance, IsTraced, ledger_before}
use Rattle.usp_lab.specs.Rounds.{Served}

-- ---- the ledger

round_sound : (script : ScriptValue) (run : Run) (round : Round) (all : List Served) → OfEach (IsTold script) all → Sound (ledger_of run.entries) (sites_of script.edges)
    → Sound (ledger_of (with_round run round all).entries) (sites_of script.edges)
round_sound script run round all told sound =
    let sites = sites_of script.edges in
    let grants = grant_entries (run.grants + 1) round.grants in
    let entries = opened run round in
    let number = length (served_in run) + 1 in
    let begun : Sound (ledger_of entries) sites
    = subst (λ (l : List Issue). Sound l sites) (sym (ledger_append run.entries grants))
    (sound_append (ledger_of run.entries) (ledger_of grants) sites sound (grants_due sites (ledger_of run.entries) (run.grants + 1) round.grants)) in
    let issues = issue_entries number (ledger_of entries) all in
    subst (λ (l : List Issue). Sound l sites) (sym (ledger_append entries issues))
    (sound_append (ledger_of entries) (ledger_of issues) sites begun (issues_due script number (ledger_of entries) all told))

run_sound : (script : ScriptValue) (run : Run) (rounds : List Round) (after : Run) → All (IsRound script.edges) rounds → RunsFrom script run rounds after
    → Sound (ledger_of run.entries) (sites_of script.edges) → Sound (ledger_of after.entries) (sites_of script.edges)
run_sound script _ _ _ are (ends run after is) sound = subst (λ (r : Run). Sound (ledger_of r.entries) (sites_of script.edges)) (sym is) sound
run_sound script _ _ _ are (runs run after round rounds all served rest) sound =
    run_sound script (with_round run round all) rounds after (All-tail (IsRound script.edges) round rounds are) rest
    (round_sound script run round all (served_told script run round all (All-head (IsRound script.edges) round rounds are) served) sound)

none_sound : (sites : List SiteValue) → Sound [] sites
none_sound sites = record { each = λ place issue e. cc }

-- ---- each ask

pub each_told : (script : ScriptValue) (run : Run) → IsScript script → Runs script run → OfEach (IsTold script) (served_in run)
each_told script run is_script is = run_told script nothing_run script.rounds run is_script.rounds is (λ number served e. cc)

-- what is valid of a note's token, content and moment is valid of those that they are
valid_as : (site : SiteValue) (token presented content uri : List ℕ) (edge moment at : ℕ) → token ≡ presented → content ≡ uri → moment ≡ at → Valid site.profile (presented_by (use_at edge content moment) token)
    → Valid site.profile (presented_by (use_at edge uri at) presented)
valid_as site token presented content uri edge moment at same of when valid =
    subst (λ (t : List ℕ). Valid site.profile (presented_by (use_at edge uri at) t)) same
    (subst (λ (c : List ℕ). Valid site.profile (presented_by (use_at edge c at) token)) of
    (subst (λ (m : ℕ). Valid site.profile (presented_by (use_at edge content m) token)) when valid))

met_by : (script : ScriptValue) (run : Run) (served : Served) (place : ℕ) (content : List ℕ) → Sound (ledger_before run served) (sites_of script.edges)
    → slice_get script.edges served.ask.edge ≡ Some served.edge → served.note.moment ≡ served.ask.moment → IsAdmission served.edge served.note → IsTraced run served place
    → content_of served.edge served.note ≡ Some content → GrantMet (ledger_before run served) (sites_of script.edges) place (use_at served.ask.edge content served.ask.moment)
met_by script run served place content sound at when a traced of =
    valid_met (ledger_before run served) (sites_of script.edges) served.edge.site place traced.token (use_at served.ask.edge content served.ask.moment) sound
    (first_has (ledger_before run served) traced.token place traced.first) (sites_get script.edges served.ask.edge served.edge at)
    (valid_as served.edge.site a.token traced.token a.content content served.ask.edge served.note.moment served.ask.moment
    (same_some a.token traced.token (sym a.brought ∙ traced.brought)) (same_some a.content content (sym a.of ∙ of)) when a.valid)

pub ledger_sound : (script : ScriptValue) (run : Run) → IsScript script → Runs script run → Sound (ledger_of run.entries) (sites_of script.edges)
ledger_sound script run is_script is = run_sound script nothing_run script.rounds run is_script.rounds is (none_sound (sites_of script.edges))

pub has_provenance : (script : ScriptValue) (run : Run) → IsScript script → Runs script run → IsProvenance script run
has_provenance script run is_script is =
    let sound = ledger_sound script run is_script is in
    let told = each_told script run is_script is in
    record {
      sound = sound;
      grants = run_grants script nothing_run script.rounds run is;
      labels = labels_stand script run is;
      met = λ number place served at traced.
          let t = told number served at in
          let before = sound_take served.known (ledger_of run.entries) (sites_of script.edges) sound in
          let a = t.honest.admitted traced.admitted in
          (a.content, a.of, met_by script run served place a.content before t.at t.moment a traced a.of);
      owned = λ place parent entry at of.
          let h = each_brought script run is_script is place parent entry at of in
          record {
            number = h.number;
            served = h.served;
            at = h.at;
            label = h.label;
            issue = h.issue;
            taken = issued_taken script h.served _ (told h.number h.served h.at) (issued_of (ledger_before run h.served) h.served entry.issue h.issue);
          };
    }
