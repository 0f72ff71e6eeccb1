-- What a run of `edge` did.
use Rattle.std.specs.Prelude.{◌≡◌, ◌⊎◌, ◌<◌, ℕ, Bool, true, false, List, take, length, map, Option, Some, IfSome, if◌then◌else◌, slice_index_or}
use Rattle.std.specs.Io.KnownBytes.{append_known}
use Rattle.std.specs.List.{list_any}
use Rattle.usp_base.specs.Outside.{Rose, file_of}
use Rattle.usp_base.specs.declared.fault.Status.{Status}
use Rattle.usp_base.specs.declared.fault.Status.TheVariants.{Done, Denials, Words, Refused, Outside, Memory}
use Rattle.usp_base.specs.declared.files.Files.{Ghosts as FilesGhosts}
use Rattle.usp_base.specs.declared.files.MemoryFile.{MemoryFile}
use Rattle.usp_base.specs.declared.sink.Sink.{Ghosts as SinkGhosts}
use Rattle.usp_conf.specs.Readings.{Configures, RefusesConf}
use Rattle.usp_conf.specs.Values.{ConfValue}
use Rattle.usp_conf.specs.declared.fault.ConfFault.{ConfFault}
use Rattle.usp_edge.specs.declared.note.Note.{Note}
use Rattle.usp_edge.specs.declared.note.Verdict.{Verdict}
use Rattle.usp_edge.specs.declared.note.Verdict.TheVariants as verdict
use Rattle.usp_edge.specs.Decided.{Upholds}
use Rattle.usp_tool.specs.Edge.Desks.{Desk, all_notes, cleared}
use Rattle.usp_tool.specs.Edge.Text.{edge_text}
use Rattle.usp_tool.specs.Edge.Words.{EdgeWords}
use Rattle.usp_tool.specs.Edge.Workers.{OneHistory}
use Rattle.usp_tool.specs.Outcome.{IsConfRefusal, Outcome}
use Rattle.usp_tool.specs.Run.{AsksOnce}
use Rattle.usp_tool.specs.declared.edge.visit.DoorEnd.{DoorEnd}
use Rattle.usp_tool.specs.declared.edge.visit.DoorEnd.TheVariants as door

-- ---- the status behind the text

abbrev pub is_denial : Verdict → Bool
is_denial verdict.Admitted = false
is_denial (verdict.Denied rule) = true

abbrev pub ends_by_fault : Option DoorEnd → Bool
ends_by_fault (Some door.DoorFault) = true
ends_by_fault other = false

abbrev pub wants_memory : Option DoorEnd → Bool
wants_memory (Some door.NoMemory) = true
wants_memory other = false

abbrev pub has_denial : List Note → Bool
has_denial notes = list_any (λ note. is_denial note.verdict) notes

-- A door that failed is a fault outside, and else a denied request is a denial.
abbrev pub status_of : List Desk → Status
status_of desks =
    if list_any (λ desk. ends_by_fault desk.ends) desks then Outside
    else if list_any (λ desk. has_denial desk.notes) desks then Denials
    else Done

-- ---- what was served

-- No worker lacked memory, and the text tells the notes and the ends of all connections.
pub record TellsAll (name : List ℕ) (calls : ℕ) (served : List Desk) (outcome : Outcome) : Type 0 where
  pub memory : list_any (λ desk. wants_memory desk.ends) served ≡ false
  pub text : outcome.text ≡ edge_text name calls served
  pub status : outcome.status ≡ status_of served

-- Each worker served at its door, and its shift was cleared. All their nonce calls are one legal history, over which
-- each request was decided by all rules.
pub record ServesAll (conf : ConfValue) (most : ℕ) (before after : List Desk) : Type 0 where
  pub calls : ℕ
  pub served : List Desk
  pub history : OneHistory conf most calls before served
  pub upholds : Upholds conf calls (all_notes served)
  pub over : after ≡ map cleared served

-- The same, and the text tells it.
pub record Serves (conf : ConfValue) (most : ℕ) (before after : List Desk) (outcome : Outcome) : Type 0 where
  pub all : ServesAll conf most before after
  pub tells : TellsAll conf.edge all.calls all.served outcome

-- The outcome of the words and of a configuration.
pub data HasOutcome (words : EdgeWords) (conf : List ℕ) (before after : List Desk) (outcome : Outcome) : Type 0 where
  no_conf : (found : ConfFault) → RefusesConf found conf → IsConfRefusal found outcome → after ≡ before
      → HasOutcome words conf before after outcome
  serves : (value : ConfValue) → Configures conf value → Serves value words.connections before after outcome
      → HasOutcome words conf before after outcome

-- ---- the run

-- What is outside at a moment.
pub record Scene : Type 0 where
  pub files : Option (List MemoryFile)
  pub asked : Option (List (List ℕ))
  pub load_faults : ℕ
  pub desks : List Desk
  pub told : Option (List ℕ)
  pub put_faults : ℕ

abbrev pub scene_of : {F K W : Type 0} → FilesGhosts F → SinkGhosts K → (W → Desk) → F → List W → K → Scene
scene_of f k desk files workers out = record {
  files = f.files files;
  asked = f.asked files;
  load_faults = f.file_count files;
  desks = map desk workers;
  told = k.told out;
  put_faults = k.put_count out;
}

-- The configuration that the words name was loaded, and the outcome is one under it.
pub record IsAnswered (words : EdgeWords) (files : Option (List MemoryFile)) (before after : List Desk)
    (outcome : Outcome) : Type 0 where
  pub conf : List ℕ
  pub loaded : IfSome files (λ all. file_of all words.conf ≡ Some conf)
  pub has : HasOutcome words conf before after outcome

-- The text of such an outcome went out whole, and the status is its own.
pub record PutsWhole (words : EdgeWords) (before after : Scene) (status : Status) : Type 0 where
  pub outcome : Outcome
  pub answered : IsAnswered words before.files before.desks after.desks outcome
  pub written : after.told ≡ append_known before.told outcome.text
  pub ends : status ≡ outcome.status

-- A put failed, and a part of the text of such an outcome went out.
pub record PutsPart (words : EdgeWords) (before after : Scene) : Type 0 where
  pub outcome : Outcome
  pub answered : IsAnswered words before.files before.desks after.desks outcome
  pub count : ℕ
  pub written : after.told ≡ append_known before.told (take count outcome.text)
  pub rose : Rose before.put_faults after.put_faults

-- the configuration could not be loaded
pub record IsUnloaded (before after : Scene) : Type 0 where
  pub rose : Rose before.load_faults after.load_faults
  pub told : after.told ≡ before.told
  pub desks : after.desks ≡ before.desks

-- Each worker served under the configuration of a text.
pub record ServesUnder (words : EdgeWords) (conf : List ℕ) (before after : List Desk) : Type 0 where
  pub value : ConfValue
  pub configures : Configures conf value
  pub all : ServesAll value words.connections before after

-- The configuration that the words name was loaded, and each worker served under it.
pub record ServesFor (words : EdgeWords) (files : Option (List MemoryFile)) (before after : List Desk) : Type 0 where
  pub conf : List ℕ
  pub loaded : IfSome files (λ all. file_of all words.conf ≡ Some conf)
  pub serves : ServesUnder words conf before after

-- There was no memory: nothing is written. No door was asked, or each worker served, and it could not be told.
pub record LacksMemory (words : EdgeWords) (before after : Scene) : Type 0 where
  pub told : after.told ≡ before.told
  pub desks : (after.desks ≡ before.desks) ⊎ ServesFor words before.files before.desks after.desks

-- What a status says of the output and of the workers.
abbrev pub Shows : EdgeWords → Scene → Scene → Status → Type 0
Shows words before after Done = PutsWhole words before after Done
Shows words before after Denials = PutsWhole words before after Denials
Shows words before after Refused = PutsWhole words before after Refused
Shows words before after Words = ⊥
Shows words before after Outside =
    IsUnloaded before after ⊎ (PutsWhole words before after Outside ⊎ PutsPart words before after)
Shows words before after Memory = LacksMemory words before after

-- the count of faults of some door rose
abbrev pub SomeDoorRose : (before after : List Desk) → Type 0
SomeDoorRose before after =
    (i : ℕ) × (none : Desk) × (i < length before)
    × Rose (slice_index_or before i none).door_faults (slice_index_or after i none).door_faults

-- What a run of `edge` leaves, and its status. Status 4 comes only where a count of faults rose.
pub record IsEdgeRun (words : EdgeWords) (before after : Scene) (status : Status) : Type 0 where
  pub shows : Shows words before after status
  pub outside : status ≡ Outside → Rose before.load_faults after.load_faults
      ⊎ (SomeDoorRose before.desks after.desks ⊎ Rose before.put_faults after.put_faults)
  pub asked : AsksOnce words.conf before.asked after.asked
