use Rattle.std.proofs.Common.{◌≡◌, ◌++◌, length}
use Rattle.usp_uri.specs.Normal.{normal_escapes}
use Rattle.usp_uri.proofs.writing.push_normal_escapes.Given as goal

abbrev pub invariant-loop-rest : goal.invariant-loop-rest
invariant-loop-rest l = l.out.items ++ normal_escapes l.rest ≡ l.fn.out.items ++ normal_escapes l.text

abbrev pub decreases-loop-rest : goal.decreases-loop-rest
decreases-loop-rest l = length l.rest
