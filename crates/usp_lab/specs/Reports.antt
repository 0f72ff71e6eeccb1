-- What is kept of a run for its text.
use Rattle.std.specs.Prelude.{◌≡◌, ℕ, ◌<◌, List, [], length, map, Option, Some, slice_get}
use Rattle.usp_lab.specs.Benches.{Used, append_used}
use Rattle.usp_lab.specs.Entries.{Run, ledger_of, served_in}
use Rattle.usp_lab.specs.LabText.{origin_of}
use Rattle.usp_lab.specs.Rounds.{Served, calls_at}
use Rattle.usp_lab.specs.Turns.{IsRun}
use Rattle.usp_lab.specs.declared.report.AskReport.{AskReport}
use Rattle.usp_lab.specs.declared.report.Report.{Report}
use Rattle.usp_script.specs.Script.{ScriptValue}

abbrev pub report_of : Run → Served → AskReport
report_of run served = record {
  edge = served.ask.edge;
  verdict = served.note.verdict;
  status = served.note.status;
  call = served.note.call;
  origin = origin_of run served;
}

-- The report tells the asks, the ledger with its labels, and how many nonce calls were made at each of so many edges.
pub record IsReport (edges : ℕ) (run : Run) (report : Report) : Type 0 where
  pub asks : report.asks ≡ map (report_of run) (served_in run)
  pub ledger : report.ledger ≡ ledger_of run.entries
  pub labels : report.labels ≡ map (λ entry. entry.label) run.entries
  pub many : length report.calls ≡ edges
  pub calls : (place : ℕ) → place < edges
      → slice_get report.calls place ≡ Some (length (calls_at place (served_in run)))

-- a line behind its ask: nothing is left, and the reply was put
abbrev pub used_by : Served → Used
used_by served = record { left = []; put = served.text }

-- The script was run by so many workers and reported, and the lines of its asks were given back in their order.
pub record HasRun (script : ScriptValue) (workers : ℕ) (before after : Option (List Used)) (report : Report)
    : Type 0 where
  pub run : Run
  pub is : IsRun script workers run
  pub reports : IsReport (length script.edges) run report
  pub lines : after ≡ append_used before (map used_by (served_in run))
