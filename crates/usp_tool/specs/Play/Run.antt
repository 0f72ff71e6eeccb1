-- What a run of `play` did.
use Rattle.std.specs.Prelude.{◌≡◌, ◌⊎◌, ℕ, List, ◌++◌, take, codes, Option, Some, IfSome, Result, Ok, Err}
use Rattle.std.specs.Fmt.{decimal}
use Rattle.std.specs.Io.KnownBytes.{append_known}
use Rattle.usp_base.specs.Outside.{Rose, file_of}
use Rattle.usp_base.specs.declared.fault.Status.{Status}
use Rattle.usp_base.specs.declared.fault.Status.TheVariants.{Done, Denials, Words, Refused, Outside, Memory}
use Rattle.usp_base.specs.declared.files.Files.{Ghosts as FilesGhosts}
use Rattle.usp_base.specs.declared.files.MemoryFile.{MemoryFile}
use Rattle.usp_base.specs.declared.link.Asked.{Asked}
use Rattle.usp_base.specs.declared.link.Link.{Ghosts as LinkGhosts}
use Rattle.usp_base.specs.declared.sink.Sink.{Ghosts as SinkGhosts}
use Rattle.usp_player.specs.Maps.{map_of}
use Rattle.usp_player.specs.Playing.{begin}
use Rattle.usp_player.specs.Ways.{Ends}
use Rattle.usp_player.specs.declared.fault.PlayFault.{PlayFault}
use Rattle.usp_player.specs.declared.fault.MapFault.TheVariants as bad
use Rattle.usp_player.specs.declared.map.Place.{Place}
use Rattle.usp_player.specs.declared.transcript.Step.{Step}
use Rattle.usp_tool.specs.Outcome.{Outcome, refusal}
use Rattle.usp_tool.specs.Play.Text.{play_outcome}
use Rattle.usp_tool.specs.Play.Words.{PlayWords}
use Rattle.usp_tool.specs.Run.{AsksOnce}

-- What is outside at a moment.
pub record Scene : Type 0 where
  pub files : Option (List MemoryFile)
  pub asked : Option (List (List ℕ))
  pub load_faults : ℕ
  pub asks : Option (List Asked)
  pub link_faults : ℕ
  pub told : Option (List ℕ)
  pub put_faults : ℕ

abbrev pub scene_of : {F L K : Type 0} → FilesGhosts F → LinkGhosts L → SinkGhosts K → F → L → K → Scene
scene_of f l k files link out = record {
  files = f.files files;
  asked = f.asked files;
  load_faults = f.file_count files;
  asks = l.asks link;
  link_faults = l.link_count link;
  told = k.told out;
  put_faults = k.put_count out;
}

-- The outcome of the words and of a map: the map is refused, and nothing is asked of the link, or the playlist is
-- played.
pub data HasOutcome (words : PlayWords) (map : List ℕ) (before after : Option (List Asked)) (outcome : Outcome)
    : Type 0 where
  no_map : (line : ℕ) → map_of map ≡ Err (bad.Line line) → outcome ≡ refusal (codes "map " ++ decimal line)
      → after ≡ before → HasOutcome words map before after outcome
  plays : (places : List Place) (result : Result (List Step) (List Step × PlayFault)) → map_of map ≡ Ok places
      → Ends places (begin places words.uri) before after result → outcome ≡ play_outcome result
      → HasOutcome words map before after outcome

-- The map that the words name was loaded, and the outcome is one under it.
pub record IsAnswered (words : PlayWords) (files : Option (List MemoryFile)) (before after : Option (List Asked))
    (outcome : Outcome) : Type 0 where
  pub map : List ℕ
  pub loaded : IfSome files (λ all. file_of all words.map ≡ Some map)
  pub has : HasOutcome words map before after outcome

-- The text of such an outcome went out whole, and the status is its own.
pub record PutsWhole (words : PlayWords) (before after : Scene) (status : Status) : Type 0 where
  pub outcome : Outcome
  pub answered : IsAnswered words before.files before.asks after.asks outcome
  pub written : after.told ≡ append_known before.told outcome.text
  pub ends : status ≡ outcome.status

-- A put failed, and a part of the text of such an outcome went out.
pub record PutsPart (words : PlayWords) (before after : Scene) : Type 0 where
  pub outcome : Outcome
  pub answered : IsAnswered words before.files before.asks after.asks outcome
  pub count : ℕ
  pub written : after.told ≡ append_known before.told (take count outcome.text)
  pub rose : Rose before.put_faults after.put_faults

-- the map could not be loaded, and nothing was asked of the link
pub record IsUnloaded (before after : Scene) : Type 0 where
  pub rose : Rose before.load_faults after.load_faults
  pub told : after.told ≡ before.told
  pub asks : after.asks ≡ before.asks

-- The playlist was played over the addresses of a map, however it ended.
pub record PlaysUnder (words : PlayWords) (map : List ℕ) (before after : Option (List Asked)) : Type 0 where
  pub places : List Place
  pub result : Result (List Step) (List Step × PlayFault)
  pub reads : map_of map ≡ Ok places
  pub ends : Ends places (begin places words.uri) before after result

-- The map that the words name was loaded, and the playlist was played over it.
pub record PlaysFor (words : PlayWords) (files : Option (List MemoryFile)) (before after : Option (List Asked))
    : Type 0 where
  pub map : List ℕ
  pub loaded : IfSome files (λ all. file_of all words.map ≡ Some map)
  pub plays : PlaysUnder words map before after

-- There was no memory to tell how it ended: nothing is written. Nothing was asked of the link, or the playlist was
-- played.
pub record LacksMemory (words : PlayWords) (before after : Scene) : Type 0 where
  pub told : after.told ≡ before.told
  pub asks : (after.asks ≡ before.asks) ⊎ PlaysFor words before.files before.asks after.asks

-- What a status says of the output and of the link.
abbrev pub Shows : PlayWords → Scene → Scene → Status → Type 0
Shows words before after Done = PutsWhole words before after Done
Shows words before after Denials = PutsWhole words before after Denials
Shows words before after Refused = PutsWhole words before after Refused
Shows words before after Words = ⊥
Shows words before after Outside =
    IsUnloaded before after ⊎ (PutsWhole words before after Outside ⊎ PutsPart words before after)
Shows words before after Memory = LacksMemory words before after ⊎ PutsWhole words before after Memory

-- What a run of `play` leaves, and its status. Status 4 comes only where a count of faults rose.
pub record IsPlayRun (words : PlayWords) (before after : Scene) (status : Status) : Type 0 where
  pub shows : Shows words before after status
  pub outside : status ≡ Outside → Rose before.load_faults after.load_faults
      ⊎ (Rose before.link_faults after.link_faults ⊎ Rose before.put_faults after.put_faults)
  pub asked : AsksOnce words.map before.asked after.asked
