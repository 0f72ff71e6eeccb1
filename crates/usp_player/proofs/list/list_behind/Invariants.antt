use Rattle.std.proofs.Common.{◌≡◌, ◌≤◌, ◌+◌, length, Ok}
use Rattle.usp_player.specs.ListLines.{list_lines_of}
use Rattle.usp_player.specs.Lists.{list_behind}
use Rattle.usp_player.specs.Steps.{behind}
use Rattle.usp_player.proofs.list.list_behind.Given as goal

-- what was read so far, and the lines behind
abbrev pub invariant-loop-rest : goal.invariant-loop-rest
invariant-loop-rest l = record {
  found : behind l.number (list_lines_of l.rest) (Ok l.reader) ≡ list_behind (list_lines_of l.text);
  few : l.number + length l.rest ≤ 4194306;
}

abbrev pub decreases-loop-rest : goal.decreases-loop-rest
decreases-loop-rest l = length l.rest
