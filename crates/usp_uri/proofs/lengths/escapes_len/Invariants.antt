use Rattle.std.proofs.Common.{◌≡◌, ◌≤◌, ◌+◌, length}
use Rattle.usp_uri.specs.Normal.{normal_escapes}
use Rattle.usp_uri.proofs.lengths.escapes_len.Given as goal

abbrev pub invariant-loop-rest : goal.invariant-loop-rest
invariant-loop-rest l = (l.len + length (normal_escapes l.rest) ≡ length (normal_escapes l.text)) × (l.len + length l.rest ≤ length l.text)

abbrev pub decreases-loop-rest : goal.decreases-loop-rest
decreases-loop-rest l = length l.rest
