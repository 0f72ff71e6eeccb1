-- What a run of the whole program did.
use Rattle.std.specs.Prelude.{◌≡◌, ℕ, List, map, Option, IfSome, IfNone}
use Rattle.usp_base.specs.declared.fault.Status.{Status}
use Rattle.usp_base.specs.declared.files.Files.{Ghosts as FilesGhosts}
use Rattle.usp_base.specs.declared.link.Asked.{Asked}
use Rattle.usp_base.specs.declared.link.Link.{Ghosts as LinkGhosts}
use Rattle.usp_base.specs.declared.sink.Sink.{Ghosts as SinkGhosts}
use Rattle.usp_base.specs.declared.source.Source.{Ghosts as SourceGhosts}
use Rattle.usp_lab.specs.Benches.{Used}
use Rattle.usp_tool.specs.Edge.Run as edge
use Rattle.usp_tool.specs.Edge.Words.{edge_of}
use Rattle.usp_tool.specs.Edge.Desks.{Desk}
use Rattle.usp_tool.specs.Lab.Run as labs
use Rattle.usp_tool.specs.Lab.Words.{groups_of, workers_of}
use Rattle.usp_tool.specs.Play.Run as play
use Rattle.usp_tool.specs.Play.Words.{play_of}
use Rattle.usp_tool.specs.Run.{IsRun, World, world_of}

-- What is outside at a moment: what the commands over lines meet, the workers of `edge`, the link of `play`, and the
-- bench of the lab with the lines that it was given back.
pub record Scene (S W L B : Type 0) : Type 0 where
  pub lines : World S
  pub workers : List W
  pub desks : List Desk
  pub link : L
  pub asks : Option (List Asked)
  pub link_faults : ℕ
  pub bench : B
  pub used : Option (List Used)

abbrev pub scene_of : {F S K W L B : Type 0} → FilesGhosts F → SourceGhosts S → SinkGhosts K → (W → Desk)
    → LinkGhosts L → (B → Option (List Used)) → F → S → K → List W → L → B → Scene S W L B
scene_of f s k desk l back files input out workers link bench = record {
  lines = world_of f s k files input out;
  workers = workers;
  desks = map desk workers;
  link = link;
  asks = l.asks link;
  link_faults = l.link_count link;
  bench = bench;
  used = back bench;
}

-- what `edge` meets of it
abbrev pub edge_scene : {S W L B : Type 0} → Scene S W L B → edge.Scene
edge_scene scene = record {
  files = scene.lines.files;
  asked = scene.lines.asked;
  load_faults = scene.lines.load_faults;
  desks = scene.desks;
  told = scene.lines.told;
  put_faults = scene.lines.put_faults;
}

-- what `play` meets of it
abbrev pub play_scene : {S W L B : Type 0} → Scene S W L B → play.Scene
play_scene scene = record {
  files = scene.lines.files;
  asked = scene.lines.asked;
  load_faults = scene.lines.load_faults;
  asks = scene.asks;
  link_faults = scene.link_faults;
  told = scene.lines.told;
  put_faults = scene.lines.put_faults;
}

-- what `lab` and `lab-from` meet of it
abbrev pub output_of : {S W L B : Type 0} → Scene S W L B → labs.Written
output_of scene = record { told = scene.lines.told; put_faults = scene.lines.put_faults }

abbrev pub lab_scene : {S W L B : Type 0} → Scene S W L B → labs.Scene B
lab_scene scene = record {
  files = scene.lines.files;
  asked = scene.lines.asked;
  load_faults = scene.lines.load_faults;
  left = scene.lines.left;
  ended = scene.lines.ended;
  read_faults = scene.lines.read_faults;
  output = output_of scene;
  bench = scene.bench;
  used = scene.used;
}

-- Each command does what is said of it, and leaves what only others meet.
pub record IsProgramRun {S W L B : Type 0} (words : List (List ℕ)) (before after : Scene S W L B) (status : Status)
    : Type 0 where
  pub edge : IfSome (edge_of words) (λ of. edge.IsEdgeRun of (edge_scene before) (edge_scene after) status
      × ((after.lines.input ≡ before.lines.input) × (after.link ≡ before.link) × (after.bench ≡ before.bench)))
  pub play : IfSome (play_of words) (λ of. play.IsPlayRun of (play_scene before) (play_scene after) status
      × ((after.lines.input ≡ before.lines.input) × (after.workers ≡ before.workers)
      × (after.bench ≡ before.bench)))
  -- words of `lab`, which are none of the commands above
  pub lab : IfNone (edge_of words) (IfNone (play_of words) (IfSome (workers_of words) (λ workers.
      labs.IsLabRun workers (lab_scene before) (lab_scene after) status
      × ((after.workers ≡ before.workers) × (after.link ≡ before.link)))))
  -- words of `lab-from`, which reads nothing and asks for no file
  pub groups : IfNone (edge_of words) (IfNone (play_of words) (IfNone (workers_of words) (IfSome (groups_of words)
      (λ groups. labs.PutsSums groups before.used after.used (output_of before) (output_of after) status
      × ((after.lines.asked ≡ before.lines.asked) × (after.lines.input ≡ before.lines.input)
      × (after.workers ≡ before.workers) × (after.link ≡ before.link))))))
  -- the commands over lines, and other words
  pub lines : IfNone (edge_of words) (IfNone (play_of words) (IfNone (workers_of words) (IfNone (groups_of words)
      (IsRun words before.lines after.lines status × ((after.workers ≡ before.workers) × (after.link ≡ before.link)
      × (after.bench ≡ before.bench))))))
