-- The grants of a run's ledger, and what its labels stand for.
use Rattle.std.proofs.Common.{◌≡◌, ℕ, zero, suc, ◌+◌, ◌-◌, ◌<◌, ◌≤◌, List, [], ◌∷◌, ◌++◌, length, map, Option, Some, None, inl, inr, refl, sym, ap, ◌∙◌, subst, arith, append_assoc, append-nil, length-append}
use Rattle.std.specs.List.{slice_get}
use Rattle.std.specs.Option.{option_map}
use Rattle.std.proofs.lemmas.List.{length-map, map-append}
use Rattle.std.proofs.lemmas.Option.{slice_get-map, slice_get_within}
use Rattle.usp_script.specs.Script.{ScriptValue, grants_in, numbered}
use Rattle.usp_script.specs.declared.ask.Label.{Label}
use Rattle.usp_script.specs.declared.ask.Label.TheVariants.{Granted, Issued, Outside}
use Rattle.usp_script.specs.declared.ask.Round.{Round}
use Rattle.usp_trace.proofs.Ordered.{get_front}
use Rattle.usp_trace.specs.Issues.{parent_of, token_of}
use Rattle.usp_trace.specs.declared.issue.Issue.{Issue}
use Rattle.usp_trace.specs.declared.issue.Issue.TheVariants.{Grant, Renewed, Resigned}
use Rattle.usp_lab.proofs.Told.{OfEach, each_both}
use Rattle.usp_lab.proofs.Issuing.{parts}
use Rattle.usp_lab.proofs.Lists.{all_one_more, get_later, get_split, ledger_append, same_some}
use Rattle.usp_lab.specs.Entries.{Entry, Run, RunsFrom, ends, entry_for, grant_entries, issue_by, issue_entries, issue_of, ledger_of, nothing_run, opened, runs, served_in, with_round}
use Rattle.usp_lab.specs.Provenance.{grants_of}
use Rattle.usp_lab.specs.Rounds.{Served, issued_by}
use Rattle.usp_lab.specs.Tokens.{token_for}

-- ---- the grants

grants_append : (xs ys : List Issue) → grants_of (xs ++ ys) ≡ grants_of xs ++ grants_of ys
grants_append [] ys = refl
grants_append (Grant token ∷ xs) ys = ap (λ l. token ∷ l) (grants_append xs ys)
grants_append (Renewed parent edge uri moment token ∷ xs) ys = grants_append xs ys
grants_append (Resigned parent edge uri moment route token ∷ xs) ys = grants_append xs ys

grants_joined : (xs ys : List Entry) → grants_of (ledger_of (xs ++ ys)) ≡ grants_of (ledger_of xs) ++ grants_of (ledger_of ys)
grants_joined xs ys = ap grants_of (ledger_append xs ys) ∙ grants_append (ledger_of xs) (ledger_of ys)

granted_are : (number : ℕ) (tokens : List (List ℕ)) → grants_of (ledger_of (grant_entries number tokens)) ≡ tokens
granted_are number [] = refl
granted_are number (token ∷ tokens) = ap (λ l. token ∷ l) (granted_are (number + 1) tokens)

none_by : (parent edge : ℕ) (content : List ℕ) (moment : ℕ) (route : Option ℕ) (token : List ℕ) → grants_of (issue_by parent edge content moment route token ∷ []) ≡ []
none_by parent edge content moment None token = refl
none_by parent edge content moment (Some route) token = refl

none_of : (number : ℕ) (ledger : List Issue) (served : Served) (o : Option Issue) → issue_of ledger served ≡ o → grants_of (ledger_of (entry_for number o)) ≡ []
none_of number ledger served None e = refl
none_of number ledger served (Some issue) e =
    let p = parts ledger served issue e in
    subst (λ (x : Issue). grants_of (x ∷ []) ≡ []) p.is (none_by p.parent served.ask.edge p.content served.note.moment served.note.route p.token)

issues_none : (number : ℕ) (ledger : List Issue) (all : List Served) → grants_of (ledger_of (issue_entries number ledger all)) ≡ []
issues_none number ledger [] = refl
issues_none number ledger (served ∷ all) =
    grants_joined (entry_for number (issue_of ledger served)) (issue_entries (number + 1) ledger all)
    ∙ rw (none_of number ledger served (issue_of ledger served) refl) (issues_none (number + 1) ledger all)

opened_grants : (run : Run) (round : Round) → grants_of (ledger_of (opened run round)) ≡ grants_of (ledger_of run.entries) ++ round.grants
opened_grants run round =
    grants_joined run.entries (grant_entries (run.grants + 1) round.grants)
    ∙ ap (λ l. grants_of (ledger_of run.entries) ++ l) (granted_are (run.grants + 1) round.grants)

round_grants : (run : Run) (round : Round) (all : List Served) → grants_of (ledger_of (with_round run round all).entries) ≡ grants_of (ledger_of run.entries) ++ round.grants
round_grants run round all =
    let entries = opened run round in
    let number = length (served_in run) + 1 in
    grants_joined entries (issue_entries number (ledger_of entries) all)
    ∙ (ap (λ l. grants_of (ledger_of entries) ++ l) (issues_none number (ledger_of entries) all)
    ∙ (append-nil (grants_of (ledger_of entries)) ∙ opened_grants run round))

pub run_grants : (script : ScriptValue) (run : Run) (rounds : List Round) (after : Run) → RunsFrom script run rounds after → grants_of (ledger_of after.entries) ≡ grants_of (ledger_of run.entries) ++ grants_in rounds
run_grants script _ _ _ (ends run after is) = ap (λ (r : Run). grants_of (ledger_of r.entries)) is ∙ sym (append-nil (grants_of (ledger_of run.entries)))
run_grants script _ _ _ (runs run after round rounds all served rest) =
    run_grants script (with_round run round all) rounds after rest
    ∙ (ap (λ l. l ++ grants_in rounds) (round_grants run round all) ∙ append_assoc (grants_of (ledger_of run.entries)) round.grants (grants_in rounds))

-- ---- what labels stand for

-- the label stands for the token, where these were granted and the asks issued these
abbrev pub StandsFor : (granted : List (List ℕ)) → (issued : List (Option (List ℕ))) → Label → (token : List ℕ) → Type 0
StandsFor granted issued (Granted number) token = numbered granted number ≡ Some token
StandsFor granted issued (Outside number) token = ⊥
StandsFor granted issued (Issued number) token = numbered issued number ≡ Some (Some token)

stands_later : (granted more : List (List ℕ)) (issued later : List (Option (List ℕ))) (label : Label) (token : List ℕ) → StandsFor granted issued label token → StandsFor (granted ++ more) (issued ++ later) label token
stands_later granted more issued later (Granted number) token h = get_front granted more (number - 1) token h
stands_later granted more issued later (Outside number) token h = h
stands_later granted more issued later (Issued number) token h = get_front issued later (number - 1) (Some token) h

-- each entry's label stands for its token
abbrev AreNamed : (granted : List (List ℕ)) → (issued : List (Option (List ℕ))) → List Entry → Type 0
AreNamed granted issued entries = OfEach (λ (entry : Entry). StandsFor granted issued entry.label (token_of entry.issue)) entries

-- what stands among the grants of a round is no issue of an ask
pub grant_none : (number : ℕ) (tokens : List (List ℕ)) (k : ℕ) (entry : Entry) → slice_get (grant_entries number tokens) k ≡ Some entry → parent_of entry.issue ≡ None
grant_none number [] k entry e = cc
grant_none number (token ∷ tokens) zero entry e = ap (λ (x : Entry). parent_of x.issue) (sym (same_some (record { label = Granted number; issue = Grant token }) entry e))
grant_none number (token ∷ tokens) (suc k) entry e = grant_none (number + 1) tokens k entry e

-- a grant and its place among those of the round
grant_at : (number : ℕ) (tokens : List (List ℕ)) (k : ℕ) (entry : Entry) → slice_get (grant_entries number tokens) k ≡ Some entry
    → (entry.label ≡ Granted (number + k)) × (slice_get tokens k ≡ Some (token_of entry.issue))
grant_at number [] k entry e = cc
grant_at number (token ∷ tokens) zero entry e =
    let same = same_some (record { label = Granted number; issue = Grant token }) entry e in
    let at : number ≡ number + 0 = omega arith in
    (ap (λ (x : Entry). x.label) (sym same) ∙ ap Granted at, ap (λ (x : Entry). Some (token_of x.issue)) same)
grant_at number (token ∷ tokens) (suc k) entry e =
    let rest = grant_at (number + 1) tokens k entry e in
    let at : (number + 1) + k ≡ number + suc k = omega arith in
    (rest.0 ∙ ap Granted at, rest.1)

grants_named : (before tokens : List (List ℕ)) (issued : List (Option (List ℕ))) (count : ℕ) → length before ≡ count → AreNamed (before ++ tokens) issued (grant_entries (count + 1) tokens)
grants_named before tokens issued count long k entry e =
    let at = grant_at (count + 1) tokens k entry e in
    let place : length before + k ≡ (count + 1) + k - 1 = omega (arith, long) in
    subst (λ (label : Label). StandsFor (before ++ tokens) issued label (token_of entry.issue)) (sym at.0)
    (subst (λ n. slice_get (before ++ tokens) n ≡ Some (token_of entry.issue)) place (get_later before tokens k (token_of entry.issue) at.1))

-- what an ask of a round brought to the ledger, and the ask's place in its round
pub record IsBroughtBy (first : ℕ) (ledger : List Issue) (all : List Served) (entry : Entry) : Type 0 where
  pub place : ℕ
  pub served : Served
  pub at : slice_get all place ≡ Some served
  pub label : entry.label ≡ Issued (first + place)
  pub of : issue_of ledger served ≡ Some entry.issue

here_of : (first : ℕ) (ledger : List Issue) (served : Served) (all : List Served) (o : Option Issue) (k : ℕ) (entry : Entry) → issue_of ledger served ≡ o → slice_get (entry_for first o) k ≡ Some entry
    → IsBroughtBy first ledger (served ∷ all) entry
here_of first ledger served all None k entry is e = cc
here_of first ledger served all (Some issue) zero entry is e =
    let same = same_some (record { label = Issued first; issue = issue }) entry e in
    let at : first ≡ first + 0 = omega arith in
    record { place = 0; served = served; at = refl; label = ap (λ (x : Entry). x.label) (sym same) ∙ ap Issued at; of = is ∙ ap (λ (x : Entry). Some x.issue) same }
here_of first ledger served all (Some issue) (suc k) entry is e = cc

next_of : (first : ℕ) (ledger : List Issue) (served : Served) (all : List Served) (entry : Entry) → IsBroughtBy (first + 1) ledger all entry → IsBroughtBy first ledger (served ∷ all) entry
next_of first ledger served all entry h =
    let at : (first + 1) + h.place ≡ first + suc h.place = omega arith in
    record { place = suc h.place; served = h.served; at = h.at; label = h.label ∙ ap Issued at; of = h.of }

pub issue_at : (first : ℕ) (ledger : List Issue) (all : List Served) (k : ℕ) (entry : Entry) → slice_get (issue_entries first ledger all) k ≡ Some entry → IsBroughtBy first ledger all entry
issue_at first ledger [] k entry e = cc
issue_at first ledger (served ∷ all) k entry e =
    elim (get_split (entry_for first (issue_of ledger served)) (issue_entries (first + 1) ledger all) k entry e) [
      | inl front ↦ here_of first ledger served all (issue_of ledger served) k entry refl front
      | inr later ↦ next_of first ledger served all entry (issue_at (first + 1) ledger all later.0 entry later.2)
    ]

token_by : (parent edge : ℕ) (content : List ℕ) (moment : ℕ) (route : Option ℕ) (token : List ℕ) → token_of (issue_by parent edge content moment route token) ≡ token
token_by parent edge content moment None token = refl
token_by parent edge content moment (Some route) token = refl

-- the token of what an ask brought is what it issued
pub issued_of : (ledger : List Issue) (served : Served) (issue : Issue) → issue_of ledger served ≡ Some issue → served.note.issued ≡ Some (token_of issue)
issued_of ledger served issue e =
    let p = parts ledger served issue e in
    p.issued ∙ ap Some (sym (token_by p.parent served.ask.edge p.content served.note.moment served.note.route p.token) ∙ ap token_of p.is)

issues_named : (granted : List (List ℕ)) (before all : List Served) (ledger : List Issue) → AreNamed granted (issued_by before ++ issued_by all) (issue_entries (length before + 1) ledger all)
issues_named granted before all ledger k entry e =
    let of = issue_at (length before + 1) ledger all k entry e in
    let issued = issued_by before ++ issued_by all in
    let here : slice_get (issued_by all) of.place ≡ Some (Some (token_of entry.issue))
    = slice_get-map (λ (s : Served). s.note.issued) all of.place ∙ (ap (option_map (λ (s : Served). s.note.issued)) of.at ∙ ap Some (issued_of ledger of.served entry.issue of.of)) in
    let long : length (issued_by before) ≡ length before = length-map before (λ (s : Served). s.note.issued) in
    let place : length (issued_by before) + of.place ≡ (length before + 1) + of.place - 1 = omega (arith, long) in
    subst (λ (label : Label). StandsFor granted issued label (token_of entry.issue)) (sym of.label)
    (subst (λ n. slice_get issued n ≡ Some (Some (token_of entry.issue))) place (get_later (issued_by before) (issued_by all) of.place (Some (token_of entry.issue)) here))

-- the labels of a run stand for its tokens, and so many tokens were granted
record IsNamed (run : Run) : Type 0 where
  count : length (grants_of (ledger_of run.entries)) ≡ run.grants
  named : AreNamed (grants_of (ledger_of run.entries)) (issued_by (served_in run)) run.entries

issued_more : (run : Run) (round : Round) (all : List Served) → issued_by (served_in (with_round run round all)) ≡ issued_by (served_in run) ++ issued_by all
issued_more run round all = ap issued_by (all_one_more run.rounds all) ∙ map-append (λ (s : Served). s.note.issued) (served_in run) all

round_named : (run : Run) (round : Round) (all : List Served) → IsNamed run → IsNamed (with_round run round all)
round_named run round all h =
    let granted = grants_of (ledger_of run.entries) in
    let issued = issued_by (served_in run) in
    let P = λ (entry : Entry). StandsFor (granted ++ round.grants) (issued ++ issued_by all) entry.label (token_of entry.issue) in
    let entries = opened run round in
    let each : AreNamed (granted ++ round.grants) (issued ++ issued_by all) (with_round run round all).entries
    = each_both P entries (issue_entries (length (served_in run) + 1) (ledger_of entries) all)
    (each_both P run.entries (grant_entries (run.grants + 1) round.grants)
    (λ k entry e. stands_later granted round.grants issued (issued_by all) entry.label (token_of entry.issue) (h.named k entry e))
    (grants_named granted round.grants (issued ++ issued_by all) run.grants h.count))
    (issues_named (granted ++ round.grants) (served_in run) all (ledger_of entries)) in
    record {
      count = ap length (round_grants run round all) ∙ (length-append granted round.grants ∙ ap (λ n. n + length round.grants) h.count);
      named = subst (λ l. AreNamed l (issued_by (served_in (with_round run round all))) (with_round run round all).entries) (sym (round_grants run round all))
          (subst (λ l. AreNamed (granted ++ round.grants) l (with_round run round all).entries) (sym (issued_more run round all)) each);
    }

run_named : (script : ScriptValue) (run : Run) (rounds : List Round) (after : Run) → RunsFrom script run rounds after → IsNamed run → IsNamed after
run_named script _ _ _ (ends run after is) h = subst IsNamed (sym is) h
run_named script _ _ _ (runs run after round rounds all served rest) h = run_named script (with_round run round all) rounds after rest (round_named run round all h)

token_named : (script : ScriptValue) (issued : List (Option (List ℕ))) (label : Label) (token : List ℕ) → StandsFor (grants_in script.rounds) issued label token → token_for script issued label ≡ Some token
token_named script issued (Granted number) token h = h
token_named script issued (Outside number) token h = absurd h
token_named script issued (Issued number) token h = rw h refl

-- the label of each entry stands for its token in the script
pub labels_stand : (script : ScriptValue) (run : Run) → RunsFrom script nothing_run script.rounds run
    → (place : ℕ) (entry : Entry) → slice_get run.entries place ≡ Some entry → token_for script (issued_by (served_in run)) entry.label ≡ Some (token_of entry.issue)
labels_stand script run is place entry at =
    let named = run_named script nothing_run script.rounds run is (record { count = refl; named = λ k entry e. cc }) in
    token_named script (issued_by (served_in run)) entry.label (token_of entry.issue)
    (subst (λ l. StandsFor l (issued_by (served_in run)) entry.label (token_of entry.issue)) (run_grants script nothing_run script.rounds run is) (named.named place entry at))

-- ---- each label names one place

-- no two of the entries have one label
abbrev pub AreOnce : List Entry → Type 0
AreOnce entries = (a b : ℕ) (one other : Entry) → slice_get entries a ≡ Some one → slice_get entries b ≡ Some other → one.label ≡ other.label → a ≡ b

-- no label of the ones is one of the others
abbrev AreApart : (xs ys : List Entry) → Type 0
AreApart xs ys = (a b : ℕ) (one other : Entry) → slice_get xs a ≡ Some one → slice_get ys b ≡ Some other → one.label ≡ other.label → ⊥

once_both : (xs ys : List Entry) → AreOnce xs → AreOnce ys → AreApart xs ys → AreOnce (xs ++ ys)
once_both xs ys first second apart a b one other e f same = elim (get_split xs ys a one e) [
  | inl front ↦ elim (get_split xs ys b other f) [
    | inl before ↦ first a b one other front before same
    | inr behind ↦ absurd (apart a behind.0 one other front behind.2 same)
  ]
  | inr later ↦ elim (get_split xs ys b other f) [
    | inl before ↦ absurd (apart b later.0 other one before later.2 (sym same))
    | inr behind ↦
        let places = second later.0 behind.0 one other later.2 behind.2 same in
        later.1 ∙ (ap (λ n. length xs + n) places ∙ sym behind.1)
  ]
]

same_granted : (a b : ℕ) → Granted a ≡ Granted b → a ≡ b
same_granted a b e = cc

same_issued : (a b : ℕ) → Issued a ≡ Issued b → a ≡ b
same_issued a b e = cc

never_both : (a b : ℕ) → Granted a ≡ Issued b → ⊥
never_both a b e = cc

grants_once : (number : ℕ) (tokens : List (List ℕ)) → AreOnce (grant_entries number tokens)
grants_once number tokens a b one other e f same =
    let here = grant_at number tokens a one e in
    let there = grant_at number tokens b other f in
    let numbers : number + a ≡ number + b = same_granted (number + a) (number + b) (sym here.0 ∙ (same ∙ there.0)) in
    omega (arith, numbers)

entry_once : (number : ℕ) (o : Option Issue) → AreOnce (entry_for number o)
entry_once number None a b one other e f same = cc
entry_once number (Some issue) zero zero one other e f same = refl
entry_once number (Some issue) zero (suc b) one other e f same = cc
entry_once number (Some issue) (suc a) b one other e f same = cc

entry_label : (number : ℕ) (o : Option Issue) (k : ℕ) (entry : Entry) → slice_get (entry_for number o) k ≡ Some entry → entry.label ≡ Issued number
entry_label number None k entry e = cc
entry_label number (Some issue) zero entry e = ap (λ (x : Entry). x.label) (sym (same_some (record { label = Issued number; issue = issue }) entry e))
entry_label number (Some issue) (suc k) entry e = cc

issues_once : (first : ℕ) (ledger : List Issue) (all : List Served) → AreOnce (issue_entries first ledger all)
issues_once first ledger [] a b one other e f same = cc
issues_once first ledger (served ∷ all) a b one other e f same =
    once_both (entry_for first (issue_of ledger served)) (issue_entries (first + 1) ledger all) (entry_once first (issue_of ledger served)) (issues_once (first + 1) ledger all)
    (λ a b one other e f same.
    let of = issue_at (first + 1) ledger all b other f in
    let numbers : first ≡ (first + 1) + of.place
    = same_issued first ((first + 1) + of.place) (sym (entry_label first (issue_of ledger served) a one e) ∙ (same ∙ of.label)) in omega (arith, numbers)) a b one other e f same

-- the label has a number of a grant or of an ask so far
abbrev pub IsNumbered : (grants asks : ℕ) → Label → Type 0
IsNumbered grants asks (Granted number) = number ≤ grants
IsNumbered grants asks (Outside number) = ⊥
IsNumbered grants asks (Issued number) = number ≤ asks

numbered_later : (grants more asks later : ℕ) (label : Label) → grants ≤ more → asks ≤ later → IsNumbered grants asks label → IsNumbered more later label
numbered_later grants more asks later (Granted number) le below h = omega (arith, le, h)
numbered_later grants more asks later (Outside number) le below h = h
numbered_later grants more asks later (Issued number) le below h = omega (arith, below, h)

not_granted : (grants asks number : ℕ) (label : Label) → IsNumbered grants asks label → label ≡ Granted number → grants < number → ⊥
not_granted grants asks number label h is above =
    let le : number ≤ grants = subst (IsNumbered grants asks) is h in omega (arith, le, above)

not_issued : (grants asks number : ℕ) (label : Label) → IsNumbered grants asks label → label ≡ Issued number → asks < number → ⊥
not_issued grants asks number label h is above =
    let le : number ≤ asks = subst (IsNumbered grants asks) is h in omega (arith, le, above)

abbrev pub AreNumbered : (grants asks : ℕ) → List Entry → Type 0
AreNumbered grants asks entries = OfEach (λ (entry : Entry). IsNumbered grants asks entry.label) entries

record HasOnce (run : Run) : Type 0 where
  once : AreOnce run.entries
  used : AreNumbered run.grants (length (served_in run)) run.entries

grants_numbered : (before more asks : ℕ) (tokens : List (List ℕ)) → before + length tokens ≡ more → AreNumbered more asks (grant_entries (before + 1) tokens)
grants_numbered before more asks tokens many k entry e =
    let at = grant_at (before + 1) tokens k entry e in
    let below : k < length tokens = slice_get_within tokens k (token_of entry.issue) at.1 in
    let le : (before + 1) + k ≤ more = omega (arith, below, many) in
    subst (IsNumbered more asks) (sym at.0) le

issues_numbered : (grants before more : ℕ) (ledger : List Issue) (all : List Served) → before + length all ≡ more → AreNumbered grants more (issue_entries (before + 1) ledger all)
issues_numbered grants before more ledger all many k entry e =
    let of = issue_at (before + 1) ledger all k entry e in
    let below : of.place < length all = slice_get_within all of.place of.served of.at in
    let le : (before + 1) + of.place ≤ more = omega (arith, below, many) in
    subst (IsNumbered grants more) (sym of.label) le

round_once : (run : Run) (round : Round) (all : List Served) → HasOnce run → HasOnce (with_round run round all)
round_once run round all h =
    let grants = grant_entries (run.grants + 1) round.grants in
    let entries = opened run round in
    let asks = length (served_in run) in
    let issues = issue_entries (asks + 1) (ledger_of entries) all in
    let more = run.grants + length round.grants in
    let many : asks + length all ≡ length (served_in (with_round run round all))
    = sym (ap length (all_one_more run.rounds all) ∙ length-append (served_in run) all) in
    let opened_once : AreOnce entries
    = once_both run.entries grants h.once (grants_once (run.grants + 1) round.grants)
    (λ a b one other e f same.
    let at = grant_at (run.grants + 1) round.grants b other f in
    not_granted run.grants asks ((run.grants + 1) + b) one.label (h.used a one e) (same ∙ at.0) (omega arith)) in
    let opened_used : AreNumbered more asks entries
    = each_both (λ (entry : Entry). IsNumbered more asks entry.label) run.entries grants
    (λ k entry e. numbered_later run.grants more asks asks entry.label (omega arith) (omega arith) (h.used k entry e)) (grants_numbered run.grants more asks round.grants refl) in
    record {
      once = once_both entries issues opened_once (issues_once (asks + 1) (ledger_of entries) all)
          (λ a b one other e f same.
          let of = issue_at (asks + 1) (ledger_of entries) all b other f in
          not_issued more asks ((asks + 1) + of.place) one.label (opened_used a one e) (same ∙ of.label) (omega arith));
      used = each_both (λ (entry : Entry). IsNumbered more (length (served_in (with_round run round all))) entry.label) entries issues
          (λ k entry e. numbered_later more more asks (length (served_in (with_round run round all))) entry.label (omega arith) (omega (arith, many)) (opened_used k entry e))
          (issues_numbered more asks (length (served_in (with_round run round all))) (ledger_of entries) all many);
    }

run_once : (script : ScriptValue) (run : Run) (rounds : List Round) (after : Run) → RunsFrom script run rounds after → HasOnce run → HasOnce after
run_once script _ _ _ (ends run after is) h = subst HasOnce (sym is) h
run_once script _ _ _ (runs run after round rounds all served rest) h = run_once script (with_round run round all) rounds after rest (round_once run round all h)

pub labels_once : (script : ScriptValue) (run : Run) → RunsFrom script nothing_run script.rounds run → AreOnce run.entries
labels_once script run is = (run_once script nothing_run script.rounds run is (record { once = λ a b one other e f same. cc; used = λ k entry e. cc })).once

-- the numbers in the labels are of grants and of asks
pub labels_numbered : (script : ScriptValue) (run : Run) → RunsFrom script nothing_run script.rounds run → AreNumbered run.grants (length (served_in run)) run.entries
labels_numbered script run is = (run_once script nothing_run script.rounds run is (record { once = λ a b one other e f same. cc; used = λ k entry e. cc })).used
