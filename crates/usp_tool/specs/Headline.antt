-- The headline:
--
-- In every interleaving of the edge threads, a request is admitted exactly if every rule holds of its URI, claims,
-- moment and nonce, and each denial names the first rule that fails; no nonce is taken twice within its window; and,
-- where every verifying token was issued by a key holder, each admitted request traces through renewals and
-- redirections to one provider grant whose container, audience and window it met.
--
-- Its parts between the semicolons are `AdmitsExactly`, `TakesNoNonceTwice` and `TracesToOneGrant`. Here they are said
-- of what each command printed.
pub mod Requests
pub mod Grants
use Rattle.std.specs.Prelude.{◌≡◌, ◌↔◌, ℕ, ◌+◌, List, [], ◌∷◌, ◌++◌, length, map, codes, Some, Ok, IfSome, slice_get}
use Rattle.std.specs.Io.KnownBytes.{append_known}
use Rattle.usp_base.specs.Lines.{line_feed, lines_of}
use Rattle.usp_base.specs.Outside.{file_of}
use Rattle.usp_base.specs.declared.fault.Status.{Status}
use Rattle.usp_base.specs.declared.fault.Status.TheVariants.{Done, Denials, Outside}
use Rattle.usp_conf.specs.Readings.{Configures}
use Rattle.usp_conf.specs.Values.{ConfValue}
use Rattle.usp_edge.specs.Calls.{Placed}
use Rattle.usp_edge.specs.Honest.{turns_in}
use Rattle.usp_edge.specs.Seats.{places_of}
use Rattle.usp_edge.specs.declared.note.Note.{Note}
use Rattle.usp_edge.specs.declared.note.Verdict as edge_verdict
use Rattle.usp_edge.specs.declared.note.Verdict.TheVariants.{Admitted, Denied}
use Rattle.usp_nonce.specs.History.{Call}
use Rattle.usp_lab.specs.Entries.{Run, served_in}
use Rattle.usp_lab.specs.LabText.{IsLabText, ShowsAsk}
use Rattle.usp_lab.specs.Notes.{notes_at}
use Rattle.usp_lab.specs.Provenance.{IsProvenance, ledger_before}
use Rattle.usp_lab.specs.Rounds.{Served, all_of, calls_at}
use Rattle.usp_lab.specs.Shown.{NamesChain}
use Rattle.usp_lab.specs.Summary.{summary_text}
use Rattle.usp_lab.specs.Turns as turns
use Rattle.usp_rules.specs.Asks.{AskValue}
use Rattle.usp_script.specs.Generator.{IsGenerated}
use Rattle.usp_script.specs.Reading.{AreFiles, Loaded, Reads}
use Rattle.usp_script.specs.Script.{ScriptValue}
use Rattle.usp_trace.specs.Chains.{IsIssued, first_place}
use Rattle.usp_tool.specs.Check.Line.{ask_of}
use Rattle.usp_tool.specs.Check.Verdicts.{verdict_line}
use Rattle.usp_tool.specs.Edge.Desks.{all_notes}
use Rattle.usp_tool.specs.Edge.Run as edges
use Rattle.usp_tool.specs.Edge.Text.{edge_text}
use Rattle.usp_tool.specs.Edge.Words.{EdgeWords, edge_of}
use Rattle.usp_tool.specs.Headline.Grants.{TracesWhereIssued}
use Rattle.usp_tool.specs.Headline.Requests.{AdmitsExactly, InOneHistory, NotesExactly}
use Rattle.usp_tool.specs.Lab.Run as labs
use Rattle.usp_tool.specs.Lab.Words.{groups_of, workers_of}
use Rattle.usp_tool.specs.Program.{Scene, edge_scene, lab_scene, output_of}
use Rattle.usp_tool.specs.Run.{World}
use Rattle.usp_tool.specs.Words.{check, command_of}
use Rattle.usp_tool.specs.declared.check.verdict.Verdict.{Verdict}
use Rattle.usp_tool.specs.declared.check.verdict.Verdict.TheVariants as verdict

-- ---- `check`, on one thread

abbrev pub plain_verdict : Verdict → edge_verdict.Verdict
plain_verdict (verdict.Admitted content) = Admitted
plain_verdict (verdict.Denied rule) = Denied rule

-- The line of the text at a place tells the verdict on the ask of the input's line there.
pub record TellsVerdict (conf : ConfValue) (history : List Call) (place : ℕ) (line : List ℕ) (calls : List Placed)
    (text : List ℕ) : Type 0 where
  pub ask : AskValue
  pub asks : ask_of line ≡ Some ask
  pub verdict : Verdict
  pub exactly : AdmitsExactly conf history ask calls (plain_verdict verdict)
  pub told : List ℕ
  pub at : slice_get (lines_of text) place ≡ Some told
  pub is : told ++ line_feed ∷ [] ≡ verdict_line (place + 1) verdict

-- the first two sentences, of the lines of an input
pub record CheckHeadline (conf : ConfValue) (input text : List ℕ) : Type 0 where
  pub calls : List (List Placed)
  pub many : length calls ≡ length (lines_of input)
  pub one : InOneHistory conf (length (all_of calls)) (places_of (all_of calls)) (λ history.
      (place : ℕ) (line : List ℕ) (own : List Placed) → slice_get (lines_of input) place ≡ Some line
      → slice_get calls place ≡ Some own → TellsVerdict conf history place line own text)

-- ---- `edge`

-- the first two sentences, of the notes of all workers, which made so many nonce calls
pub record EdgeHeadline (conf : ConfValue) (count : ℕ) (notes : List Note) : Type 0 where
  pub one : InOneHistory conf count (map (λ turned. turned.place) (turns_in notes)) (λ history.
      (place : ℕ) (note : Note) → slice_get notes place ≡ Some note
      → (calls : List Placed) × NotesExactly conf history note calls)

-- ---- `lab` and `lab-from`

-- the three sentences, of the asks of a run
pub record RunHeadline (script : ScriptValue) (run : Run) : Type 0 where
  pub decides : (place : ℕ) (edge : ConfValue) → slice_get script.edges place ≡ Some edge
      → InOneHistory edge (length (calls_at place (served_in run)))
      (map (λ turned. turned.place) (turns_in (notes_at place (served_in run)))) (λ history.
      (number : ℕ) (served : Served) → slice_get (served_in run) number ≡ Some served → served.ask.edge ≡ place
      → NotesExactly edge history served.note served.calls)
  pub traces : (number : ℕ) (served : Served) → slice_get (served_in run) number ≡ Some served
      → TracesWhereIssued script run served
  -- the ledger is sound, its grants are the script's, and all else was issued to an ask whose nonce call was Taken
  pub provenance : IsProvenance script run

-- The line of the text at a place tells the ask of that number, and the chain from the one grant to its token, where
-- that was issued before its round.
pub record TellsAsk (run : Run) (text : List ℕ) (number : ℕ) (served : Served) : Type 0 where
  pub told : List ℕ
  pub at : slice_get (lines_of text) number ≡ Some told
  pub shows : ShowsAsk run (number + 1) served (told ++ line_feed ∷ [])
  pub chain : (token : List ℕ) (place : ℕ) → served.note.verdict ≡ Admitted → served.note.token ≡ Some token
      → first_place token (ledger_before run served) ≡ Some place → NamesChain run.entries place token shows.origin
  pub untraced : (token : List ℕ) → served.note.verdict ≡ Admitted → served.note.token ≡ Some token
      → (shows.origin ≡ codes " chain untraced") ↔ (IsIssued (ledger_before run served) token → ⊥)

-- the same, and the lines that tell it
pub record LabHeadline (script : ScriptValue) (run : Run) (text : List ℕ) : Type 0 where
  pub all : RunHeadline script run
  pub is : IsLabText script.edges run text
  pub tells : (number : ℕ) (served : Served) → slice_get (served_in run) number ≡ Some served
      → TellsAsk run text number served

-- ---- what was printed

pub record PrintsChecks {S : Type 0} (name : List ℕ) (before after : World S) : Type 0 where
  pub file : List ℕ
  pub loaded : IfSome before.files (λ all. file_of all name ≡ Some file)
  pub conf : ConfValue
  pub configures : Configures file conf
  pub input : List ℕ
  pub read : IfSome before.left (λ bytes. bytes ≡ input)
  pub text : List ℕ
  pub written : after.told ≡ append_known before.told text
  pub headline : CheckHeadline conf input text

pub record PrintsNotes (words : EdgeWords) (before after : edges.Scene) : Type 0 where
  pub file : List ℕ
  pub loaded : IfSome before.files (λ all. file_of all words.conf ≡ Some file)
  pub conf : ConfValue
  pub configures : Configures file conf
  pub all : edges.ServesAll conf words.connections before.desks after.desks
  pub written : after.told ≡ append_known before.told (edge_text conf.edge all.calls all.served)
  pub headline : EdgeHeadline conf all.calls (all_notes all.served)

pub record PrintsRun {B : Type 0} (workers : ℕ) (before after : labs.Scene B) : Type 0 where
  pub input : List ℕ
  pub read : IfSome before.left (λ bytes. bytes ≡ input)
  pub loads : List Loaded
  pub loaded : AreFiles before.files loads
  pub script : ScriptValue
  pub reads : Reads (lines_of input) loads (Ok script)
  pub run : Run
  pub is : turns.IsRun script workers run
  pub text : List ℕ
  pub written : after.output.told ≡ append_known before.output.told text
  pub headline : LabHeadline script run text

pub record PrintsSums (groups : ℕ) (before after : labs.Written) : Type 0 where
  pub script : ScriptValue
  pub generated : IsGenerated groups script
  pub run : Run
  pub is : turns.IsRun script 1 run
  pub written : after.told ≡ append_known before.told (summary_text groups run)
  pub headline : RunHeadline script run

-- ---- a call of the program

-- The statuses 0 and 1 come only where the whole text was printed.
abbrev pub WherePrinted : Status → Type 0 → Type 0
WherePrinted Done Tells = Tells
WherePrinted Denials Tells = Tells
WherePrinted other Tells = Unit {0}

-- The headline, of what a call of the program printed.
pub record Headline {S W L B : Type 0} (words : List (List ℕ)) (before after : Scene S W L B) (status : Status)
    : Type 0 where
  pub check : (name : List ℕ) → command_of words ≡ Some (check name)
      → WherePrinted status (PrintsChecks name before.lines after.lines)
  pub edge : IfSome (edge_of words) (λ of.
      WherePrinted status (PrintsNotes of (edge_scene before) (edge_scene after)))
  -- also where a door failed
  pub door : IfSome (edge_of words) (λ of. edges.PutsWhole of (edge_scene before) (edge_scene after) Outside
      → PrintsNotes of (edge_scene before) (edge_scene after))
  pub lab : IfSome (workers_of words) (λ workers.
      WherePrinted status (PrintsRun workers (lab_scene before) (lab_scene after)))
  pub groups : IfSome (groups_of words) (λ groups.
      WherePrinted status (PrintsSums groups (output_of before) (output_of after)))
