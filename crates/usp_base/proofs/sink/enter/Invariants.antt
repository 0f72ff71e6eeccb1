use Rattle.std.proofs.Common.{◌≡◌, ◌++◌, map, take}
use Rattle.usp_base.proofs.sink.enter.Given as goal

-- entered so far
abbrev pub invariant-loop-b : goal.invariant-loop-b
invariant-loop-b l = map (λ pair. pair.0) l.log.items ≡ map (λ pair. pair.0) l.fn.log.items ++ take l.b-index l.piece
