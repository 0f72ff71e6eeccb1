use Rattle.std.proofs.Common.{◌≡◌, ◌≤◌, length}
use Rattle.usp_script.proofs.Progress.{SoFar}
use Rattle.usp_script.proofs.reading.read_script.Given as goal

-- the lines so far, and what the files tell
abbrev pub invariant-loop-rest : goal.invariant-loop-rest
invariant-loop-rest g l = record {
  so_far : SoFar (g.F.Files.files l.fn.files) (g.F.Files.asked l.fn.files) (g.F.Files.asked l.files) l.input l.rest l.number l.draft;
  same : g.F.Files.files l.files ≡ g.F.Files.files l.fn.files;
  later : g.F.Files.file_count l.fn.files ≤ g.F.Files.file_count l.files;
}

abbrev pub decreases-loop-rest : goal.decreases-loop-rest
decreases-loop-rest g l = length l.rest
