use Rattle.std.proofs.Common.{◌≡◌, [], length}
use Rattle.usp_uri.specs.Normal.{segments_of}
use Rattle.usp.proofs.Naming.{named_behind}
use Rattle.usp.proofs.outside.names.name_below.Given as goal

abbrev pub invariant-loop-after : goal.invariant-loop-after
invariant-loop-after l = named_behind l.name.items (segments_of l.rest) ≡ named_behind [] (segments_of l.path)

abbrev pub decreases-loop-after : goal.decreases-loop-after
decreases-loop-after l = length l.rest
