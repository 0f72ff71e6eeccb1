use Rattle.std.proofs.Common.{◌≡◌, ◌≤◌, ◌+◌, length}
use Rattle.usp_uri.specs.Normal.{segments_of}
use Rattle.usp_uri.proofs.segments.count_segments.Given as goal

abbrev pub invariant-loop-rest : goal.invariant-loop-rest
invariant-loop-rest l = (l.count + length (segments_of l.rest) ≡ length (segments_of l.path)) × (l.count + length l.rest ≤ length l.path)

abbrev pub decreases-loop-rest : goal.decreases-loop-rest
decreases-loop-rest l = length l.rest
