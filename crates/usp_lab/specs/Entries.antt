-- What enters the ledger, and the run of a script that this makes.
use Rattle.std.specs.Prelude.{◌≡◌, ℕ, ◌+◌, List, [], ◌∷◌, ◌++◌, length, map, Option, Some, None}
use Rattle.std.specs.Option.{option_and_then, option_map}
use Rattle.usp_conf.specs.Values.{ConfValue}
use Rattle.usp_edge.specs.declared.note.Note.{Note}
use Rattle.usp_package.specs.Package.{package_of}
use Rattle.usp_rules.specs.Asks.{content_in}
use Rattle.usp_trace.specs.Chains.{first_place}
use Rattle.usp_trace.specs.declared.issue.Issue.{Issue}
use Rattle.usp_trace.specs.declared.issue.Issue.TheVariants.{Grant, Renewed, Resigned}
use Rattle.usp_script.specs.Script.{ScriptValue, attribute_of}
use Rattle.usp_script.specs.declared.ask.Label.{Label}
use Rattle.usp_script.specs.declared.ask.Label.TheVariants.{Granted, Issued}
use Rattle.usp_script.specs.declared.ask.Round.{Round}
use Rattle.usp_lab.specs.Rounds.{AreServed, Served, all_of, issued_by}

-- an issue and its label
pub record Entry : Type 0 where
  pub label : Label
  pub issue : Issue

abbrev pub ledger_of : List Entry → List Issue
ledger_of entries = map (λ entry. entry.issue) entries

abbrev pub labels_of : List Entry → List Label
labels_of entries = map (λ entry. entry.label) entries

-- each issue with its label
abbrev pub labelled : List Label → List Issue → List Entry
labelled (label ∷ labels) (issue ∷ issues) = record { label = label; issue = issue } ∷ labelled labels issues
labelled labels issues = []

-- the grants of a round, the first of which has this number
abbrev pub grant_entries : (number : ℕ) → (tokens : List (List ℕ)) → List Entry
grant_entries number [] = []
grant_entries number (token ∷ tokens) =
    record { label = Granted number; issue = Grant token } ∷ grant_entries (number + 1) tokens

-- the content of a noted request
abbrev pub content_of : ConfValue → Note → Option (List ℕ)
content_of edge note = content_in note.uri (package_of (attribute_of edge) note.uri)

-- a token that was renewed, or signed again for the route by which the request was sent on
abbrev pub issue_by : (parent edge : ℕ) → (content : List ℕ) → (moment : ℕ) → (route : Option ℕ) → (token : List ℕ)
    → Issue
issue_by parent edge content moment None token = Renewed parent edge content moment token
issue_by parent edge content moment (Some route) token = Resigned parent edge content moment route token

-- What an ask brings to the ledger: the token that it issued, if it issued one, where the token that it presented was
-- in the ledger as the round began.
abbrev pub issue_of : (ledger : List Issue) → Served → Option Issue
issue_of ledger served =
    let note = served.note in
    option_and_then (λ token.
    option_and_then (λ presented.
    option_and_then (λ parent.
    option_map (λ content. issue_by parent served.ask.edge content note.moment note.route token)
    (content_of served.edge note)) (first_place presented ledger)) note.token) note.issued

abbrev pub entry_for : (number : ℕ) → Option Issue → List Entry
entry_for number None = []
entry_for number (Some issue) = record { label = Issued number; issue = issue } ∷ []

-- what asks bring, the first of which has this number
abbrev pub issue_entries : (number : ℕ) → (ledger : List Issue) → List Served → List Entry
issue_entries number ledger [] = []
issue_entries number ledger (served ∷ all) =
    entry_for number (issue_of ledger served) ++ issue_entries (number + 1) ledger all

-- What rounds left: how many tokens were granted, the asks of each round as they were served, and the ledger.
pub record Run : Type 0 where
  pub grants : ℕ
  pub rounds : List (List Served)
  pub entries : List Entry

abbrev pub nothing_run : Run
nothing_run = record { grants = 0; rounds = []; entries = [] }

-- all asks that were served
abbrev pub served_in : Run → List Served
served_in run = all_of run.rounds

-- the ledger as the next round begins: with what that grants
abbrev pub opened : Run → Round → List Entry
opened run round = run.entries ++ grant_entries (run.grants + 1) round.grants

-- the run with one round more, whose asks were served so
abbrev pub with_round : Run → Round → List Served → Run
with_round run round all =
    let entries = opened run round in
    record {
      grants = run.grants + length round.grants;
      rounds = run.rounds ++ all ∷ [];
      entries = entries ++ issue_entries (length (served_in run) + 1) (ledger_of entries) all;
    }

-- Rounds were run in order, from one state to another.
pub data RunsFrom (script : ScriptValue) : Run → List Round → Run → Type 0 where
  ends : (run after : Run) → after ≡ run → RunsFrom script run [] after
  runs : (run after : Run) (round : Round) (rounds : List Round) (all : List Served)
      → AreServed script (issued_by (served_in run)) (length (opened run round)) round.asks all
      → RunsFrom script (with_round run round all) rounds after → RunsFrom script run (round ∷ rounds) after

abbrev pub Runs : ScriptValue → Run → Type 0
Runs script run = RunsFrom script nothing_run script.rounds run
