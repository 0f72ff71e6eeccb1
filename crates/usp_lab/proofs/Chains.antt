-- Each token of the chain of an admitted ask has claims.
use Rattle.std.proofs.Common.{◌≡◌, ℕ, ◌+◌, ◌<◌, List, [], ◌∷◌, ◌++◌, Option, Some, None, refl, sym, ap, ◌∙◌, subst}
use Rattle.std.specs.Prelude.{All}
use Rattle.std.specs.List.{slice_get}
use Rattle.std.specs.Option.{option_and_then, option_map}
use Rattle.std.proofs.lemmas.List.Elements.{All-append, All-cons, All-nil, All-same, All-weaker}
use Rattle.usp_edge.specs.declared.note.Verdict.TheVariants.{Admitted}
use Rattle.usp_issue.specs.Sites.{SiteValue}
use Rattle.usp_json.proofs.Numbers.{then_case}
use Rattle.usp_json.specs.declared.value.Members.{Members}
use Rattle.usp_rules.specs.Tokens.{CarriesClaims}
use Rattle.usp_script.specs.Script.{IsScript, ScriptValue, sites_of}
use Rattle.usp_trace.proofs.Ordered.{first_has}
use Rattle.usp_trace.specs.Chains.{Chain, IsChain, first_place, granted, linked, token_at}
use Rattle.usp_trace.specs.Issues.{parent_of, token_of}
use Rattle.usp_trace.specs.Sound.{IsDue, Sound}
use Rattle.usp_trace.specs.declared.issue.Issue.{Issue}
use Rattle.usp_trace.specs.declared.issue.Issue.TheVariants.{Grant, Renewed, Resigned}
use Rattle.usp_lab.proofs.Ledgers.{get_taken}
use Rattle.usp_lab.proofs.Lists.{entry_at, same_some}
use Rattle.usp_lab.proofs.Tracing.{each_told, ledger_sound}
use Rattle.usp_lab.specs.Entries.{Entry, Run, Runs, ledger_of, served_in}
use Rattle.usp_lab.specs.LabText.{origin_of}
use Rattle.usp_lab.specs.Provenance.{HasClaimsAt, ledger_before}
use Rattle.usp_lab.specs.Rounds.{Served}

-- ---- along a chain

-- what was issued at the place has claims
record IssuesClaims (ledger : List Issue) (place : ℕ) : Type 0 where
  issue : Issue
  members : Members
  at : slice_get ledger place ≡ Some issue
  claims : CarriesClaims (token_of issue) members

has_token : (token : List ℕ) (o : Option Issue) → option_map token_of o ≡ Some token → (issue : Issue) × (o ≡ Some issue) × (token_of issue ≡ token)
has_token token None e = cc
has_token token (Some issue) e = (issue, refl, cc)

-- the token at the place has claims
claims_at : (ledger : List Issue) (place : ℕ) (token : List ℕ) (members : Members) → token_at ledger place ≡ Some token → CarriesClaims token members → IssuesClaims ledger place
claims_at ledger place token members at claims =
    let has = has_token token (slice_get ledger place) at in
    record { issue = has.0; members = members; at = has.1; claims = subst (λ (t : List ℕ). CarriesClaims t members) (sym has.2) claims }

-- the parent of what is no grant has claims
parent_claims : (sites : List SiteValue) (ledger : List Issue) (place parent : ℕ) (link : Issue) → IsDue sites ledger place link → parent_of link ≡ Some parent → IssuesClaims ledger parent
parent_claims sites ledger place parent (Grant token) due is = cc
parent_claims sites ledger place parent (Renewed from edge uri moment token) due is =
    subst (λ (n : ℕ). IssuesClaims ledger n) (same_some from parent is)
    (claims_at ledger from due.used.token due.members (first_has ledger due.used.token from due.used.from.first) due.used.claims)
parent_claims sites ledger place parent (Resigned from edge uri moment route token) due is =
    subst (λ (n : ℕ). IssuesClaims ledger n) (same_some from parent is)
    (claims_at ledger from due.used.token due.members (first_has ledger due.used.token from due.used.from.first) due.used.claims)

one_place : (P : ℕ → Type 0) (place : ℕ) → P place → All P (place ∷ [])
one_place P place h = All-cons P place [] h (All-nil P)

chain_claims : (sites : List SiteValue) (ledger : List Issue) → Sound ledger sites → (place : ℕ) (places token : List ℕ) (links : List Issue) → Chain ledger place places token links
    → IssuesClaims ledger place → All (IssuesClaims ledger) places
chain_claims sites ledger sound _ _ _ _ (granted place places token links at is none) h =
    All-same (IssuesClaims ledger) places (place ∷ []) is (one_place (IssuesClaims ledger) place h)
chain_claims sites ledger sound _ _ _ _ (linked place parent places front token links before link at of chain is more) h =
    All-same (IssuesClaims ledger) places (front ++ place ∷ []) is
    (All-append (IssuesClaims ledger) front (place ∷ [])
    (chain_claims sites ledger sound parent front token before chain (parent_claims sites ledger place parent link (sound.each place link at) of))
    (one_place (IssuesClaims ledger) place h))

-- the same of entries
entry_claims : (entries : List Entry) (place : ℕ) → IssuesClaims (ledger_of entries) place → HasClaimsAt entries place
entry_claims entries place h =
    let e = entry_at entries place h.issue h.at in
    record { entry = e.0; members = h.members; at = e.1; claims = subst (λ (i : Issue). CarriesClaims (token_of i) h.members) (sym e.2) h.claims }

-- ---- of an ask

-- the token at the origin of an ask
pub record Comes (run : Run) (served : Served) (place : ℕ) : Type 0 where
  pub token : List ℕ
  pub brought : served.note.token ≡ Some token
  pub first : first_place token (ledger_before run served) ≡ Some place
  pub at : token_at (ledger_of run.entries) place ≡ Some token

pub comes_from : (run : Run) (served : Served) (place : ℕ) → origin_of run served ≡ Some place → Comes run served place
comes_from run served place e =
    let found = then_case (λ (token : List ℕ). first_place token (ledger_before run served)) served.note.token place e in
    let has = has_token found.0 (slice_get (ledger_before run served) place) (first_has (ledger_before run served) found.0 place found.2) in
    record {
      token = found.0;
      brought = found.1;
      first = found.2;
      at = ap (option_map token_of) (get_taken served.known (ledger_of run.entries) place has.0 has.1) ∙ ap Some has.2;
    }

-- a token that was admitted carries claims
pub admitted_claims : (script : ScriptValue) (run : Run) → IsScript script → Runs script run → (number : ℕ) (served : Served) (token : List ℕ)
    → slice_get (served_in run) number ≡ Some served → served.note.verdict ≡ Admitted → served.note.token ≡ Some token → (members : Members) × CarriesClaims token members
admitted_claims script run is_script is number served token at admitted brought =
    let a = (each_told script run is_script is number served at).honest.admitted admitted in
    (a.members, subst (λ (t : List ℕ). CarriesClaims t a.members) (same_some a.token token (sym a.brought ∙ brought)) a.claims)

pub keeps_claims : (script : ScriptValue) (run : Run) → IsScript script → Runs script run → (number place : ℕ) (served : Served) (places : List ℕ)
    → slice_get (served_in run) number ≡ Some served → served.note.verdict ≡ Admitted → origin_of run served ≡ Some place → IsChain (ledger_of run.entries) place places
    → All (HasClaimsAt run.entries) places
keeps_claims script run is_script is number place served places at admitted origin chain =
    let ledger = ledger_of run.entries in
    let comes = comes_from run served place origin in
    let claims = admitted_claims script run is_script is number served comes.token at admitted comes.brought in
    All-weaker (IssuesClaims ledger) (HasClaimsAt run.entries) (entry_claims run.entries) places
    (chain_claims (sites_of script.edges) ledger (ledger_sound script run is_script is) place places chain.token chain.links chain.chain
    (claims_at ledger place comes.token claims.0 comes.at claims.1))
