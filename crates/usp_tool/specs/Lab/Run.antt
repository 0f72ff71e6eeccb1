-- What a run of `lab` or of `lab-from` did.
use Rattle.std.specs.Prelude.{◌≡◌, ◌⊎◌, ℕ, Bool, true, false, take, List, [], codes, Option, IfSome, Ok, Err}
use Rattle.std.specs.Io.KnownBytes.{append_known}
use Rattle.usp_base.specs.Lines.{lines_of}
use Rattle.usp_base.specs.Outside.{Rose}
use Rattle.usp_base.specs.declared.fault.Status.{Status}
use Rattle.usp_base.specs.declared.fault.Status.TheVariants.{Done, Denials, Words, Refused, Outside, Memory}
use Rattle.usp_base.specs.declared.files.Files.{Ghosts as FilesGhosts}
use Rattle.usp_base.specs.declared.files.MemoryFile.{MemoryFile}
use Rattle.usp_base.specs.declared.sink.Sink.{Ghosts as SinkGhosts}
use Rattle.usp_base.specs.declared.source.Source.{Ghosts as SourceGhosts}
use Rattle.usp_lab.specs.Benches.{Used}
use Rattle.usp_lab.specs.LabText.{IsLabText, has_denial}
use Rattle.usp_lab.specs.Summary.{summary_text}
use Rattle.usp_script.specs.Generator.{IsGenerated}
use Rattle.usp_script.specs.Reading.{AreFiles, AsksInOrder, Loaded, Reads, Unloads}
use Rattle.usp_script.specs.Script.{ScriptValue}
use Rattle.usp_tool.specs.Input.{is_long_input}
use Rattle.usp_tool.specs.Lab.Runs.{Ran, status_by}
use Rattle.usp_tool.specs.Outcome.{Outcome, line_refusal, refusal}
use Rattle.usp_tool.specs.Run.{ReadsWhole}

-- The text of a run over these edges, and the status behind it.
pub record TellsRun (script : ScriptValue) (workers : ℕ) (before after : Option (List Used)) (outcome : Outcome)
    : Type 0 where
  pub ran : Ran script workers before after
  pub text : IsLabText script.edges ran.run outcome.text
  pub status : outcome.status ≡ status_by (has_denial ran.run)

-- ---- outcomes

-- The outcome of an input, with the files that were loaded for its lines: it is too long, or one of its lines is the
-- first that is refused, and nothing was asked; or it is a script that was run, and the text tells the run.
pub data HasOutcome (workers : ℕ) (input : List ℕ) (loads : List Loaded) (before after : Option (List Used))
    (outcome : Outcome) : Type 0 where
  too_long : is_long_input input ≡ true → loads ≡ [] → outcome ≡ refusal (codes "input") → after ≡ before
      → HasOutcome workers input loads before after outcome
  no_script : (number : ℕ) → is_long_input input ≡ false → Reads (lines_of input) loads (Err number)
      → outcome ≡ line_refusal number → after ≡ before → HasOutcome workers input loads before after outcome
  runs : (script : ScriptValue) → is_long_input input ≡ false → Reads (lines_of input) loads (Ok script)
      → TellsRun script workers before after outcome → HasOutcome workers input loads before after outcome

-- The outcome of what was left to be read, with the files that were loaded.
pub record IsAnswered (workers : ℕ) (files : Option (List MemoryFile)) (left : Option (List ℕ))
    (before after : Option (List Used)) (outcome : Outcome) : Type 0 where
  pub input : List ℕ
  pub read : IfSome left (λ bytes. bytes ≡ input)
  pub loads : List Loaded
  pub loaded : AreFiles files loads
  pub has : HasOutcome workers input loads before after outcome

-- The outcome of the script of so many groups, run by one worker: the text is the sums of the run.
pub record IsSummed (groups : ℕ) (before after : Option (List Used)) (outcome : Outcome) : Type 0 where
  pub script : ScriptValue
  pub generated : IsGenerated groups script
  pub ran : Ran script 1 before after
  pub text : outcome.text ≡ summary_text groups ran.run
  pub status : outcome.status ≡ status_by (has_denial ran.run)

-- ---- what was written

-- What the output tells of itself.
pub record Written : Type 0 where
  pub told : Option (List ℕ)
  pub put_faults : ℕ

abbrev pub written_of : {K : Type 0} → SinkGhosts K → K → Written
written_of k out = record { told = k.told out; put_faults = k.put_count out }

-- The text of such an outcome went out whole, and the status is its own.
pub record PutsWhole (IsOne : Outcome → Type 0) (before after : Written) (status : Status) : Type 0 where
  pub outcome : Outcome
  pub one : IsOne outcome
  pub written : after.told ≡ append_known before.told outcome.text
  pub ends : status ≡ outcome.status

-- A put failed, and a part of the text of such an outcome went out.
pub record PutsPart (IsOne : Outcome → Type 0) (before after : Written) : Type 0 where
  pub outcome : Outcome
  pub one : IsOne outcome
  pub count : ℕ
  pub written : after.told ≡ append_known before.told (take count outcome.text)
  pub rose : Rose before.put_faults after.put_faults

-- What a status says of the output, and of a run that was not begun.
abbrev pub Shows : (IsOne : Outcome → Type 0) → (Unbegun : Type 0) → Written → Written → Status → Type 0
Shows IsOne Unbegun before after Done = PutsWhole IsOne before after Done
Shows IsOne Unbegun before after Denials = PutsWhole IsOne before after Denials
Shows IsOne Unbegun before after Refused = PutsWhole IsOne before after Refused
Shows IsOne Unbegun before after Words = ⊥
Shows IsOne Unbegun before after Outside = ((after.told ≡ before.told) × Unbegun) ⊎ PutsPart IsOne before after
Shows IsOne Unbegun before after Memory = after.told ≡ before.told

-- ---- the runs

-- The files that were asked for are the first of those that the lines of what was left to be read name.
pub record AsksFiles (left : Option (List ℕ)) (before after : Option (List (List ℕ))) : Type 0 where
  pub input : List ℕ
  pub read : IfSome left (λ bytes. bytes ≡ input)
  pub asked : AsksInOrder (lines_of input) before after

-- The lines of what was left to be read stop at a file, which was the last that was asked for.
pub record StopsLoading (files : Option (List MemoryFile)) (left : Option (List ℕ))
    (before after : Option (List (List ℕ))) : Type 0 where
  pub input : List ℕ
  pub read : IfSome left (λ bytes. bytes ≡ input)
  pub unloads : Unloads files (lines_of input) before after

-- What is outside at a moment. Lines given back to the bench are `used`, where it tells them.
pub record Scene (B : Type 0) : Type 0 where
  pub files : Option (List MemoryFile)
  pub asked : Option (List (List ℕ))
  pub load_faults : ℕ
  pub left : Option (List ℕ)
  pub ended : Bool
  pub read_faults : ℕ
  pub output : Written
  pub bench : B
  pub used : Option (List Used)

abbrev pub scene_of : {F S K B : Type 0} → FilesGhosts F → SourceGhosts S → SinkGhosts K → (B → Option (List Used)) → F
    → S → K → B → Scene B
scene_of f s k back files input out bench = record {
  files = f.files files;
  asked = f.asked files;
  load_faults = f.file_count files;
  left = s.left input;
  ended = s.ended input;
  read_faults = s.read_count input;
  output = written_of k out;
  bench = bench;
  used = back bench;
}

-- What a run of `lab` leaves, and its status. Status 4 comes only where a count of faults rose, and 0 and 1 only where
-- the input was read to its end. Where the input or a file failed, nothing was asked.
pub record IsLabRun {B : Type 0} (workers : ℕ) (before after : Scene B) (status : Status) : Type 0 where
  pub shows : Shows (IsAnswered workers before.files before.left before.used after.used) (after.bench ≡ before.bench)
      before.output after.output status
  pub outside : status ≡ Outside → Rose before.load_faults after.load_faults
      ⊎ (Rose before.read_faults after.read_faults ⊎ Rose before.output.put_faults after.output.put_faults)
  -- a file is missed only where the lines above its own were taken
  pub stopped : status ≡ Outside → StopsLoading before.files before.left before.asked after.asked
      ⊎ (Rose before.read_faults after.read_faults ⊎ Rose before.output.put_faults after.output.put_faults)
  pub asked : AsksFiles before.left before.asked after.asked
  pub whole : ReadsWhole status after.ended

-- What a run of `lab-from` leaves, and its status. Status 4 comes only where the count of faults of the output rose.
pub record PutsSums (groups : ℕ) (before after : Option (List Used)) (output output_after : Written) (status : Status)
    : Type 0 where
  pub shows : Shows (IsSummed groups before after) ⊥ output output_after status
  pub outside : status ≡ Outside → Rose output.put_faults output_after.put_faults
