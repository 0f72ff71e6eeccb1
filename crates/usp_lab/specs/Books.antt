-- What is kept of a run while it goes on.
use Rattle.std.specs.Prelude.{◌≡◌, ℕ, ◌+◌, List, [], ◌∷◌, ◌++◌, map, Option, Some, None, slice_get}
use Rattle.std.specs.Option.{option_and_then, option_map}
use Rattle.usp_conf.specs.Values.{ConfValue}
use Rattle.usp_edge.specs.declared.note.Note.{Note}
use Rattle.usp_script.specs.declared.ask.LabAsk.{LabAsk}
use Rattle.usp_script.specs.declared.ask.Label.{Label}
use Rattle.usp_trace.specs.Chains.{first_place}
use Rattle.usp_trace.specs.declared.issue.Issue.{Issue}
use Rattle.usp_lab.specs.Entries.{Entry, Run, content_of, entry_for, issue_by, served_in}
use Rattle.usp_lab.specs.Reports.{report_of}
use Rattle.usp_lab.specs.Rounds.{issued_by}
use Rattle.usp_lab.specs.declared.report.AskReport.{AskReport}
use Rattle.usp_lab.specs.declared.running.books.Books.{Books}

-- ---- an ask, by its note

-- where the token that was presented stands in the ledger
abbrev pub origin_in : List Issue → Note → Option ℕ
origin_in ledger note = option_and_then (λ token. first_place token ledger) note.token

-- what was issued to a request at this edge, where the token that it presented has such a place
abbrev pub issue_at : Option ℕ → (place : ℕ) → (edge : ConfValue) → Note → Option Issue
issue_at None place edge note = None
issue_at (Some parent) place edge note =
    option_and_then (λ token.
    option_map (λ content. issue_by parent place content note.moment note.route token) (content_of edge note))
    note.issued

-- what is reported of it
abbrev pub report_at : Option ℕ → (place : ℕ) → Note → AskReport
report_at origin place note = record {
  edge = place;
  verdict = note.verdict;
  status = note.status;
  call = note.call;
  origin = origin;
}

-- ---- the asks of a round beside their notes

-- what enters the ledger, which the round began with; the first ask has this number
abbrev pub noted_entries : (number : ℕ) → (ledger : List Issue) → (edges : List ConfValue) → List LabAsk → List Note
    → List Entry
noted_entries number ledger edges (ask ∷ asks) (note ∷ notes) =
    entry_for number
    (option_and_then (λ edge. issue_at (origin_in ledger note) ask.edge edge note) (slice_get edges ask.edge))
    ++ noted_entries (number + 1) ledger edges asks notes
noted_entries number ledger edges asks notes = []

abbrev pub noted_reports : (ledger : List Issue) → List LabAsk → List Note → List AskReport
noted_reports ledger (ask ∷ asks) (note ∷ notes) =
    report_at (origin_in ledger note) ask.edge note ∷ noted_reports ledger asks notes
noted_reports ledger asks notes = []

-- ---- a run

-- The books keep what the run left: its ledger with the labels, what is reported of its asks, what each issued, and
-- how many tokens were granted.
pub record Keeps (run : Run) (books : Books) : Type 0 where
  pub entries : books.entries ≡ run.entries
  pub grants : books.grants ≡ run.grants
  pub asks : books.asks.items ≡ map (report_of run) (served_in run)
  pub issued : books.issued.items ≡ issued_by (served_in run)
