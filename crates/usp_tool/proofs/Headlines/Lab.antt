-- What the asks of a run come to.
use Rattle.std.proofs.Common.{◌≡◌, sym, ap, ◌∙◌, subst, ℕ, zero, suc, ◌==◌, List, [], ◌∷◌, ◌++◌, length, map, take, Some, true, arith}
use Rattle.std.specs.List.{slice_get}
use Rattle.std.proofs.lemmas.Bool.Decides.{nat_tests}
use Rattle.std.proofs.lemmas.List.{length-map}
use Rattle.std.proofs.lemmas.Option.{same_Some}
use Rattle.usp_conf.specs.Values.{ConfValue}
use Rattle.usp_edge.specs.Calls.{Placed}
use Rattle.usp_edge.specs.Decided.{IsDecidedBy}
use Rattle.usp_edge.specs.Honest.{turns_in}
use Rattle.usp_edge.specs.Seats.{StandIn, places_of}
use Rattle.usp_lab.proofs.Counts.{all_count}
use Rattle.usp_lab.proofs.Ledgers.{get_taken}
use Rattle.usp_lab.proofs.Told.{decided_alone}
use Rattle.usp_lab.proofs.Tracing.{each_told}
use Rattle.usp_lab.proofs.Upheld.{upholds}
use Rattle.usp_lab.specs.Entries.{Run, content_of, ledger_of, served_in}
use Rattle.usp_lab.specs.Notes.{notes_at}
use Rattle.usp_lab.specs.Provenance.{IsProvenance, grants_of, ledger_before}
use Rattle.usp_lab.specs.Rounds.{Served, calls_at}
use Rattle.usp_lab.specs.Turns.{HasHistory, IsRun}
use Rattle.usp_nonce.proofs.Legal.{no_nonce_twice}
use Rattle.usp_nonce.specs.History.{Call}
use Rattle.usp_nonce.specs.declared.answer.Turned.{Turned}
use Rattle.usp_script.specs.Script.{IsScript, ScriptValue, sites_of}
use Rattle.usp_shared.specs.Places.{AreAllBelow}
use Rattle.usp_trace.proofs.Chained.{one_chain}
use Rattle.usp_trace.proofs.Ordered.{issued_found}
use Rattle.usp_trace.specs.Chains.{Chain, granted, linked}
use Rattle.usp_trace.specs.Grants.{GrantMet}
use Rattle.usp_trace.specs.Issues.{use_at}
use Rattle.usp_trace.specs.declared.issue.Issue.{Issue}
use Rattle.usp_trace.specs.declared.issue.Issue.TheVariants.{Grant, Renewed, Resigned}
use Rattle.usp_tool.proofs.Headlines.Places.{stand_front, stand_rest}
use Rattle.usp_tool.proofs.Headlines.Rules.{notes_exactly}
use Rattle.usp_tool.specs.Headline.{RunHeadline}
use Rattle.usp_tool.specs.Headline.Grants.{TracesToOneGrant, TracesWhereIssued}
use Rattle.usp_tool.specs.Headline.Requests.{InOneHistory, NotesExactly}

-- ---- the calls of an ask, among those of its edge

own_stand : (history : List Call) (edge : ℕ) (all : List Served) → StandIn history (calls_at edge all) → (number : ℕ)
    (served : Served) → slice_get all number ≡ Some served → served.ask.edge ≡ edge → StandIn history served.calls
own_stand history edge [] stand number served at same = cc
own_stand history edge (first ∷ all) stand zero served at same =
    let hit : (first.ask.edge == edge) ≡ true =
    let one = same_Some first served at in
    let e : first.ask.edge ≡ edge = ap (λ (s : Served). s.ask.edge) one ∙ same in grind (arith, nat_tests, e) in
    let calls : StandIn history (first.calls ++ calls_at edge all) = rw hit at stand in
    subst (λ (s : Served). StandIn history s.calls) (same_Some first served at)
    (stand_front history first.calls (calls_at edge all) calls)
own_stand history edge (first ∷ all) stand (suc number) served at same =
    own_stand history edge all (stand_rest history _ (calls_at edge all) stand) number served at same

-- ---- the first two sentences

module _ (script : ScriptValue) (workers : ℕ) (run : Run) (fits : IsScript script) (is : IsRun script workers run) where
  notes_served : (place : ℕ) (edge : ConfValue) → slice_get script.edges place ≡ Some edge → (has : HasHistory workers run place edge)
      → (number : ℕ) (served : Served) → slice_get (served_in run) number ≡ Some served → served.ask.edge ≡ place
      → NotesExactly edge has.history served.note served.calls
  notes_served place edge there has number served at same =
      let told = each_told script run fits is.runs number served at in
      let edges : served.edge ≡ edge =
      same_Some served.edge edge (sym told.at ∙ (ap (slice_get script.edges) same ∙ there)) in
      let by : IsDecidedBy edge served.note served.calls =
      subst (λ (c : ConfValue). IsDecidedBy c served.note served.calls) edges (decided_alone script served told) in
      notes_exactly edge has.history served.note served.calls has.legal
      (own_stand has.history place (served_in run) has.stand number served at same) by

  decides : (place : ℕ) (edge : ConfValue) → slice_get script.edges place ≡ Some edge
      → InOneHistory edge (length (calls_at place (served_in run)))
      (map (λ (turned : Turned). turned.place) (turns_in (notes_at place (served_in run)))) (λ history.
      (number : ℕ) (served : Served) → slice_get (served_in run) number ≡ Some served → served.ask.edge ≡ place
      → NotesExactly edge history served.note served.calls)
  decides place edge there =
      let has : HasHistory workers run place edge = is.histories place edge there in
      let calls = calls_at place (served_in run) in
      let count : length has.history ≡ length calls =
      sym (all_count (length has.history) (places_of calls) has.all) ∙ length-map calls (λ (of : Placed). of.place) in
      record {
        history = has.history;
        legal = has.legal;
        counted = count;
        all = (upholds script workers run fits is place edge there).places;
        each = notes_served place edge there has;
        once = no_nonce_twice edge.room has.history has.legal;
      }

-- ---- the third sentence

-- a chain of the front of a ledger is one of the ledger
longer_chain : (n : ℕ) (ledger : List Issue) (place : ℕ) (places token : List ℕ) (links : List Issue)
    → Chain (take n ledger) place places token links → Chain ledger place places token links
longer_chain n ledger _ _ _ _ (granted place places token links at p l) =
    granted place places token links (get_taken n ledger place (Grant token) at) p l
longer_chain n ledger _ _ _ _ (linked place parent places front token links before link at of chain p l) =
    linked place parent places front token links before link (get_taken n ledger place link at) of
    (longer_chain n ledger parent front token before chain) p l

-- where a chain begins
chain_grant : (ledger : List Issue) (place : ℕ) (places token : List ℕ) (links : List Issue)
    → Chain ledger place places token links → (first : ℕ) × (slice_get ledger first ≡ Some (Grant token))
chain_grant ledger _ _ _ _ (granted place places token links at p l) = (place, at)
chain_grant ledger _ _ _ _ (linked place parent places front token links before link at of chain p l) =
    chain_grant ledger parent front token before chain

same_grant : (issue : Issue) (token : List ℕ) → Some issue ≡ Some (Grant token) → issue ≡ Grant token
same_grant issue token e = same_Some issue (Grant token) e

-- a grant of a ledger is one of its grants
grant_among : (ledger : List Issue) (place : ℕ) (token : List ℕ) → slice_get ledger place ≡ Some (Grant token)
    → (number : ℕ) × (slice_get (grants_of ledger) number ≡ Some token)
grant_among [] place token at = cc
grant_among (Grant own ∷ ledger) zero token at = (0, ap (λ (l : List ℕ). Some l) (own_token own token (same_grant (Grant own) token at)))
  where
    own_token : (a b : List ℕ) → Grant a ≡ Grant b → a ≡ b
    own_token a b e = cc
grant_among (Renewed parent edge uri moment own ∷ ledger) zero token at =
    let e : Renewed parent edge uri moment own ≡ Grant token = same_grant (Renewed parent edge uri moment own) token at in cc
grant_among (Resigned parent edge uri moment route own ∷ ledger) zero token at =
    let e : Resigned parent edge uri moment route own ≡ Grant token = same_grant (Resigned parent edge uri moment route own) token at in cc
grant_among (Grant own ∷ ledger) (suc place) token at =
    let h = grant_among ledger place token at in (suc h.0, h.1)
grant_among (Renewed parent edge uri moment own ∷ ledger) (suc place) token at = grant_among ledger place token at
grant_among (Resigned parent edge uri moment route own ∷ ledger) (suc place) token at = grant_among ledger place token at

one_grant_met : (script : ScriptValue) (run : Run) (served : Served) (place : ℕ) (content : List ℕ) → IsProvenance script run
    → content_of served.edge served.note ≡ Some content
    → GrantMet (ledger_before run served) (sites_of script.edges) place (use_at served.ask.edge content served.ask.moment)
    → TracesToOneGrant script run served place
one_grant_met script run served place content provenance of met =
    let ledger = ledger_of run.entries in
    let whole : Chain ledger place met.places met.token met.links =
    longer_chain served.known ledger place met.places met.token met.links met.chain in
    let begins = chain_grant ledger place met.places met.token met.links whole in
    let granted = grant_among ledger begins.0 met.token begins.1 in
    record {
      content = content;
      of = of;
      met = met;
      number = granted.0;
      granted = subst (λ (tokens : List (List ℕ)). slice_get tokens granted.0 ≡ Some met.token) provenance.grants granted.1;
      chain = record { token = met.token; links = met.links; chain = whole };
      one = λ places other.
          one_chain ledger place places met.places other.token met.token other.links met.links other.chain whole;
    }

pub traces : (script : ScriptValue) (workers : ℕ) (run : Run) → IsScript script → IsRun script workers run
    → IsProvenance script run → (number : ℕ) (served : Served) → slice_get (served_in run) number ≡ Some served
    → TracesWhereIssued script run served
traces script workers run fits is provenance number served at = λ admitted.
    let a = (each_told script run fits is.runs number served at).honest.admitted admitted in (
      a.token,
      a.brought,
      λ issued.
          let found = issued_found (ledger_before run served) a.token issued in
          let met = provenance.met number found.0 served at
          (record { admitted = admitted; token = a.token; brought = a.brought; first = found.1 }) in
          (found.0, found.1, one_grant_met script run served found.0 met.0 provenance met.1 met.2),
    )

pub run_headline : (script : ScriptValue) (workers : ℕ) (run : Run) → IsScript script → IsRun script workers run
    → IsProvenance script run → RunHeadline script run
run_headline script workers run fits is provenance = record {
  decides = decides script workers run fits is;
  traces = traces script workers run fits is provenance;
  provenance = provenance;
}
