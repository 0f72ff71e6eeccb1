-- What a call of the program did.
use Rattle.std.specs.Prelude.{◌≡◌, ◌⊎◌, ℕ, Bool, true, take, List, [], ◌∷◌, ◌++◌, Option, Some, None, IfSome, IfNone}
use Rattle.std.specs.Io.KnownBytes.{append_known}
use Rattle.usp_base.specs.declared.fault.Status.{Status}
use Rattle.usp_base.specs.declared.fault.Status.TheVariants.{Done, Denials, Words, Refused, Outside, Memory}
use Rattle.usp_base.specs.declared.files.Files.{Ghosts as FilesGhosts}
use Rattle.usp_base.specs.declared.files.MemoryFile.{MemoryFile}
use Rattle.usp_base.specs.declared.sink.Sink.{Ghosts as SinkGhosts}
use Rattle.usp_base.specs.declared.source.Source.{Ghosts as SourceGhosts}
use Rattle.usp_base.specs.Outside.{Rose, file_of}
use Rattle.usp_tool.specs.Answers.{HasOutcome, IsRefusedUnread}
use Rattle.usp_tool.specs.Outcome.{Outcome}
use Rattle.usp_tool.specs.Words.{Command, command_of, conf_name, usage_line}

-- What is outside at a moment: the input, and what the files, the input and the output tell of themselves.
pub record World (S : Type 0) : Type 0 where
  pub files : Option (List MemoryFile)
  pub asked : Option (List (List ℕ))
  pub load_faults : ℕ
  pub input : S
  pub left : Option (List ℕ)
  pub ended : Bool
  pub read_faults : ℕ
  pub told : Option (List ℕ)
  pub put_faults : ℕ

abbrev pub world_of : {F S K : Type 0} → FilesGhosts F → SourceGhosts S → SinkGhosts K → F → S → K
    → World S
world_of f s k files input out =
    record {
      files = f.files files;
      asked = f.asked files;
      load_faults = f.file_count files;
      input = input;
      left = s.left input;
      ended = s.ended input;
      read_faults = s.read_count input;
      told = k.told out;
      put_faults = k.put_count out;
    }

-- The text went out and the status is its own, or a put failed and a part of it went out.
abbrev pub Wrote : (before now : Option (List ℕ)) (faults_before faults : ℕ) → List ℕ → Status
    → Status → Type 0
Wrote before now faults_before faults text status result =
    ((result ≡ status) × (now ≡ append_known before text))
    ⊎ ((result ≡ Outside) × Rose faults_before faults × (n : ℕ)
    × (now ≡ append_known before (take n text)))

-- The configuration that the command names was loaded, and the outcome is one under it, with what was left to
-- be read.
pub record IsAnswered (command : Command) (files : Option (List MemoryFile))
    (left : Option (List ℕ)) (outcome : Outcome) : Type 0 where
  pub conf : List ℕ
  pub loaded : IfSome files (λ all. file_of all (conf_name command) ≡ Some conf)
  pub answers : HasOutcome command conf left outcome

-- The text of such an outcome went out whole, and the status is its own.
pub record PutsWhole {S : Type 0} (command : Command) (before after : World S) (status : Status)
    : Type 0 where
  pub outcome : Outcome
  pub answered : IsAnswered command before.files before.left outcome
  pub written : after.told ≡ append_known before.told outcome.text
  pub ends : status ≡ outcome.status

-- A put failed, and a part of the text of such an outcome went out.
pub record PutsPart {S : Type 0} (command : Command) (before after : World S) : Type 0 where
  pub outcome : Outcome
  pub answered : IsAnswered command before.files before.left outcome
  pub count : ℕ
  pub written : after.told ≡ append_known before.told (take count outcome.text)
  pub rose : Rose before.put_faults after.put_faults

-- What a status says of the output.
abbrev pub Shows : {S : Type 0} → Command → World S → World S → Status → Type 0
Shows command before after Done = PutsWhole command before after Done
Shows command before after Denials = PutsWhole command before after Denials
Shows command before after Refused = PutsWhole command before after Refused
Shows command before after Words = ⊥
Shows command before after Outside = (after.told ≡ before.told) ⊎ PutsPart command before after
Shows command before after Memory = after.told ≡ before.told

-- That file was asked for once, or none was.
abbrev pub AsksOnce : (name : List ℕ) → Option (List (List ℕ)) → Option (List (List ℕ)) → Type 0
AsksOnce name None after = after ≡ None
AsksOnce name (Some names) after = (after ≡ Some names) ⊎ (after ≡ Some (names ++ name ∷ []))

-- A command asks for its configuration once, or for no file.
abbrev pub AsksAtMost : Option Command → Option (List (List ℕ)) → Option (List (List ℕ)) → Type 0
AsksAtMost None names after = after ≡ names
AsksAtMost (Some command) names after = AsksOnce (conf_name command) names after

-- The statuses 0 and 1 come only where the input was read to its end.
abbrev pub ReadsWhole : Status → Bool → Type 0
ReadsWhole Done ended = ended ≡ true
ReadsWhole Denials ended = ended ≡ true
ReadsWhole Words ended = Unit {0}
ReadsWhole Refused ended = Unit {0}
ReadsWhole Outside ended = Unit {0}
ReadsWhole Memory ended = Unit {0}

-- What a run over words leaves, and its status.
pub record IsRun {S : Type 0} (words : List (List ℕ)) (before after : World S) (status : Status)
    : Type 0 where
  -- other words print the usage line, and nothing is read
  pub usage : IfNone (command_of words)
      (Wrote before.told after.told before.put_faults after.put_faults usage_line Words status)
  pub unread : IfNone (command_of words) (after.input ≡ before.input)
  -- a command shows an outcome
  pub shows : IfSome (command_of words) (λ command. Shows command before after status)
  -- status 4 comes only where a count of faults rose
  pub outside : status ≡ Outside → Rose before.load_faults after.load_faults
      ⊎ (Rose before.read_faults after.read_faults ⊎ Rose before.put_faults after.put_faults)
  pub asked : AsksAtMost (command_of words) before.asked after.asked
  pub whole : ReadsWhole status after.ended
  -- under a configuration that is refused, or lacks the key, nothing is read
  pub refused_unread : IfSome (command_of words) (λ command. (all : List MemoryFile) (conf : List ℕ)
      → before.files ≡ Some all → file_of all (conf_name command) ≡ Some conf
      → IsRefusedUnread command conf → after.input ≡ before.input)
