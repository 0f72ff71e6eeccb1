use Rattle.std.proofs.Common.{◌≡◌, ◌≤◌, ◌+◌, ◌++◌, length}
use Rattle.usp_base.specs.Lines.{lines_of}
use Rattle.usp_player.specs.Maps.{first_bad, map_with, places_in}
use Rattle.usp_player.proofs.map.read_map.Given as goal

-- the places so far, and the lines behind
abbrev pub invariant-loop-rest : goal.invariant-loop-rest
invariant-loop-rest l = record {
  found : map_with (first_bad l.number (lines_of l.rest)) (l.places.items ++ places_in (lines_of l.rest))
      ≡ map_with (first_bad 1 (lines_of l.text)) (places_in (lines_of l.text));
  few : l.number + length l.rest ≤ length l.text + 1;
}

abbrev pub decreases-loop-rest : goal.decreases-loop-rest
decreases-loop-rest l = length l.rest
