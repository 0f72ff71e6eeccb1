use Rattle.std.proofs.Common.{◌≡◌}
use Rattle.usp_ere.specs.Compiled.{expression_of}
use Rattle.usp_ere.specs.Expression.{size_of}
use Rattle.usp_bench_ere.proofs.match_with.Given as goal

abbrev pub invariant-loop : goal.invariant-loop
invariant-loop g l = l.scratch ≡ size_of (expression_of l.ere)
