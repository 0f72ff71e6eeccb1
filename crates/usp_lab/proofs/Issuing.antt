-- What enters the ledger is as it must be.
use Rattle.std.proofs.Common.{◌≡◌, ℕ, zero, suc, ◌+◌, ◌<◌, List, [], ◌∷◌, ◌++◌, length, Option, Some, None, inl, inr, refl, sym, ap, ◌∙◌, subst}
use Rattle.std.specs.List.{slice_get}
use Rattle.std.specs.Option.{option_and_then, option_map}
use Rattle.std.proofs.lemmas.Option.{slice_get-map}
use Rattle.usp_base.specs.declared.limits.TheConstants.{MOMENT_BOUND}
use Rattle.usp_conf.specs.Values.{ConfValue}
use Rattle.usp_edge.specs.Honest.{IsAdmission, IsIssuedBy}
use Rattle.usp_edge.specs.declared.note.Note.{Note}
use Rattle.usp_issue.specs.Renewals.{IsRenewed}
use Rattle.usp_issue.specs.Resignings.{IsResigned}
use Rattle.usp_issue.specs.Sites.{SiteValue}
use Rattle.usp_json.proofs.Numbers.{then_case}
use Rattle.usp_rules.specs.Rules.{Valid}
use Rattle.usp_script.specs.Script.{ScriptValue, sites_of}
use Rattle.usp_trace.proofs.Ordered.{found_within}
use Rattle.usp_trace.specs.Chains.{first_place}
use Rattle.usp_trace.specs.Issues.{use_at}
use Rattle.usp_trace.specs.Sound.{IsDue, IsUsed, presented_by}
use Rattle.usp_trace.specs.declared.issue.Issue.{Issue}
use Rattle.usp_trace.specs.declared.issue.Issue.TheVariants.{Grant}
use Rattle.usp_lab.proofs.Told.{IsTold, OfEach}
use Rattle.usp_lab.proofs.Ledgers.{AreDue}
use Rattle.usp_lab.proofs.Lists.{get_split, ledger_append, same_some}
use Rattle.usp_lab.specs.Entries.{Entry, content_of, entry_for, grant_entries, issue_by, issue_entries, issue_of, ledger_of}
use Rattle.usp_lab.specs.Rounds.{Served}

pub sites_get : (edges : List ConfValue) (place : ℕ) (edge : ConfValue) → slice_get edges place ≡ Some edge → slice_get (sites_of edges) place ≡ Some edge.site
sites_get edges place edge e = slice_get-map (λ (c : ConfValue). c.site) edges place ∙ ap (option_map (λ (c : ConfValue). c.site)) e

-- ---- the parts of what enters

pub record Parts (ledger : List Issue) (served : Served) (issue : Issue) : Type 0 where
  pub token : List ℕ
  pub presented : List ℕ
  pub parent : ℕ
  pub content : List ℕ
  pub issued : served.note.issued ≡ Some token
  pub brought : served.note.token ≡ Some presented
  pub first : first_place presented ledger ≡ Some parent
  pub of : content_of served.edge served.note ≡ Some content
  pub is : issue_by parent served.ask.edge content served.note.moment served.note.route token ≡ issue

mapped : {X Y : Type 0} (f : X → Y) (o : Option X) (y : Y) → option_map f o ≡ Some y → (x : X) × (o ≡ Some x) × (f x ≡ y)
mapped f None y e = cc
mapped f (Some x) y e = (x, refl, cc)

pub parts : (ledger : List Issue) (served : Served) (issue : Issue) → issue_of ledger served ≡ Some issue → Parts ledger served issue
parts ledger served issue e =
    let made = λ (parent : ℕ) (token content : List ℕ). issue_by parent served.ask.edge content served.note.moment served.note.route token in
    let of_parent = λ (token : List ℕ) (parent : ℕ). option_map (made parent token) (content_of served.edge served.note) in
    let of_presented = λ (token presented : List ℕ). option_and_then (of_parent token) (first_place presented ledger) in
    let a = then_case (λ (token : List ℕ). option_and_then (of_presented token) served.note.token) served.note.issued issue e in
    let b = then_case (of_presented a.0) served.note.token issue a.2 in
    let d = then_case (of_parent a.0) (first_place b.0 ledger) issue b.2 in
    let f = mapped (made d.0 a.0) (content_of served.edge served.note) issue d.2 in
    record { token = a.0; presented = b.0; parent = d.0; content = f.0; issued = a.1; brought = b.1; first = d.1; of = f.1; is = f.2 }

-- ---- what an ask issued

module _ (edges : List ConfValue) (ledger : List Issue) (place edge : ℕ) (conf : ConfValue) (note : Note) where
  -- the token that was brought was used
  used_by : (parent : ℕ) (presented content : List ℕ) (a : IsAdmission conf note) → slice_get edges edge ≡ Some conf → note.moment < MOMENT_BOUND
      → first_place presented ledger ≡ Some parent → parent < place → a.token ≡ presented → a.content ≡ content
      → IsUsed (sites_of edges) ledger place parent (use_at edge content note.moment) conf.site a.members
  used_by parent presented content a at early first below same of = record {
    token = a.token;
    from = record { below = below; first = subst (λ (t : List ℕ). first_place t ledger ≡ Some parent) (sym same) first };
    named = sites_get edges edge conf at;
    early = early;
    valid = subst (λ (c : List ℕ). Valid conf.site.profile (presented_by (use_at edge c note.moment) a.token)) of a.valid;
    claims = a.claims;
  }

  due_by : (parent : ℕ) (content token : List ℕ) (a : IsAdmission conf note) (route : Option ℕ) → IsUsed (sites_of edges) ledger place parent (use_at edge content note.moment) conf.site a.members
      → a.content ≡ content → IsIssuedBy conf a.members a.content note.moment route token → IsDue (sites_of edges) ledger place (issue_by parent edge content note.moment route token)
  due_by parent content token a None used of h = record {
    site = conf.site;
    members = a.members;
    key = h.0;
    used = used;
    own = h.1;
    renewed = subst (λ (c : List ℕ). IsRenewed a.members c note.moment h.0 token) of h.2;
  }
  due_by parent content token a (Some route) used of h = record {
    site = conf.site;
    members = a.members;
    sent = h.0;
    used = used;
    by = h.1;
    resigned = subst (λ (c : List ℕ). IsResigned a.members c note.moment h.0 token) of h.2;
  }

pub issue_due : (script : ScriptValue) (ledger : List Issue) (served : Served) (issue : Issue) → IsTold script served → issue_of ledger served ≡ Some issue
    → IsDue (sites_of script.edges) ledger (length ledger) issue
issue_due script ledger served issue told e =
    let p = parts ledger served issue e in
    let h = told.honest.issued p.token p.issued in
    let a = h.admission in
    let of : a.content ≡ p.content = same_some a.content p.content (sym a.of ∙ p.of) in
    let used = used_by script.edges ledger (length ledger) served.ask.edge served.edge served.note p.parent p.presented p.content a told.at
    (subst (λ (m : ℕ). m < MOMENT_BOUND) (sym told.moment) told.early) p.first (found_within _ ledger p.parent p.first).1
    (same_some a.token p.presented (sym a.brought ∙ p.brought)) of in
    subst (λ (x : Issue). IsDue (sites_of script.edges) ledger (length ledger) x) p.is
    (due_by script.edges ledger (length ledger) served.ask.edge served.edge served.note p.parent p.content p.token a served.note.route used of h.issued)

-- ---- what a round brings

pub grants_due : (sites : List SiteValue) (ledger : List Issue) (number : ℕ) (tokens : List (List ℕ)) → AreDue sites ledger (ledger_of (grant_entries number tokens))
grants_due sites ledger number [] k issue e = cc
grants_due sites ledger number (token ∷ tokens) zero issue e = subst (λ (x : Issue). IsDue sites ledger (length ledger) x) (same_some (Grant token) issue e) tt
grants_due sites ledger number (token ∷ tokens) (suc k) issue e = grants_due sites ledger (number + 1) tokens k issue e

due_joined : (sites : List SiteValue) (ledger : List Issue) (xs ys : List Entry) → AreDue sites ledger (ledger_of xs) → AreDue sites ledger (ledger_of ys) → AreDue sites ledger (ledger_of (xs ++ ys))
due_joined sites ledger xs ys first second i issue e =
    elim (get_split (ledger_of xs) (ledger_of ys) i issue (subst (λ (l : List Issue). slice_get l i ≡ Some issue) (ledger_append xs ys) e)) [
      | inl front ↦ first i issue front
      | inr later ↦ second later.0 issue later.2
    ]

entry_due : (script : ScriptValue) (ledger : List Issue) (number : ℕ) (served : Served) (o : Option Issue) → IsTold script served → issue_of ledger served ≡ o
    → AreDue (sites_of script.edges) ledger (ledger_of (entry_for number o))
entry_due script ledger number served None told is k issue e = cc
entry_due script ledger number served (Some own) told is zero issue e =
    subst (λ (x : Issue). IsDue (sites_of script.edges) ledger (length ledger) x) (same_some own issue e) (issue_due script ledger served own told is)
entry_due script ledger number served (Some own) told is (suc k) issue e = cc

pub issues_due : (script : ScriptValue) (number : ℕ) (ledger : List Issue) (all : List Served) → OfEach (IsTold script) all → AreDue (sites_of script.edges) ledger (ledger_of (issue_entries number ledger all))
issues_due script number ledger [] told k issue e = cc
issues_due script number ledger (served ∷ all) told k issue e =
    due_joined (sites_of script.edges) ledger (entry_for number (issue_of ledger served)) (issue_entries (number + 1) ledger all)
    (entry_due script ledger number served (issue_of ledger served) (told zero served refl) refl) (issues_due script (number + 1) ledger all (λ k x e. told (suc k) x e)) k issue e
