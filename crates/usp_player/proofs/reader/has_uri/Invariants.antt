use Rattle.std.proofs.Common.{◌≡◌, length}
use Rattle.usp_player.specs.ListLines.{list_lines_of}
use Rattle.usp_player.specs.Lists.{next_uri}
use Rattle.usp_player.proofs.reader.has_uri.Given as goal

-- neither a URI nor a `#EXTINF:` so far
abbrev pub invariant-loop-rest : goal.invariant-loop-rest
invariant-loop-rest l = next_uri (list_lines_of l.rest) ≡ next_uri (list_lines_of l.text)

abbrev pub decreases-loop-rest : goal.decreases-loop-rest
decreases-loop-rest l = length l.rest
