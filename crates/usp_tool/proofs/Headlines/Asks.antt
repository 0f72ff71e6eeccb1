-- The lines of a lab, each of which tells its ask.
use Rattle.std.proofs.Common.{◌≡◌, ap, ◌∙◌, ℕ, List, Option, Some}
use Rattle.std.specs.List.{slice_get}
use Rattle.std.specs.Option.{option_and_then}
use Rattle.usp_lab.proofs.EachLine.{has_line}
use Rattle.usp_lab.proofs.Shows.{names_chain, says_untraced, untraced_exactly}
use Rattle.usp_lab.specs.Entries.{Run, served_in}
use Rattle.usp_lab.specs.LabText.{IsLabText, origin_of}
use Rattle.usp_lab.specs.Provenance.{IsProvenance, ledger_before}
use Rattle.usp_lab.specs.Rounds.{Served}
use Rattle.usp_lab.specs.Turns.{IsRun}
use Rattle.usp_script.specs.Script.{IsScript, ScriptValue}
use Rattle.usp_trace.specs.Chains.{first_place}
use Rattle.usp_tool.proofs.Headlines.Lab.{run_headline}
use Rattle.usp_tool.specs.Headline.{LabHeadline, TellsAsk}

traced_from : (run : Run) (served : Served) (token : List ℕ) (place : ℕ) → served.note.token ≡ Some token
    → first_place token (ledger_before run served) ≡ Some place → origin_of run served ≡ Some place
traced_from run served token place brought first =
    ap (λ (o : Option (List ℕ)). option_and_then (λ t. first_place t (ledger_before run served)) o) brought ∙ first

tells_ask : (script : ScriptValue) (workers : ℕ) (run : Run) (text : List ℕ) → IsScript script → IsRun script workers run
    → IsLabText script.edges run text → (number : ℕ) (served : Served) → slice_get (served_in run) number ≡ Some served
    → TellsAsk run text number served
tells_ask script workers run text fits is shown number served at =
    let line = has_line script run text fits is.runs shown number served at in
    record {
      told = line.0;
      at = line.1;
      shows = line.2;
      chain = λ token place admitted brought first.
          names_chain run served place token line.2.origin admitted brought (traced_from run served token place brought first)
          line.2.shows;
      untraced = λ token admitted brought.
          let says = says_untraced run served line.2.origin admitted line.2.shows in
          let where_none = untraced_exactly run served token brought in
          (λ e. where_none.0 (says.0 e), λ never. says.1 (where_none.1 never));
    }

pub lab_headline : (script : ScriptValue) (workers : ℕ) (run : Run) (text : List ℕ) → IsScript script
    → IsRun script workers run → IsProvenance script run → IsLabText script.edges run text → LabHeadline script run text
lab_headline script workers run text fits is provenance shown = record {
  all = run_headline script workers run fits is provenance;
  is = shown;
  tells = tells_ask script workers run text fits is shown;
}
