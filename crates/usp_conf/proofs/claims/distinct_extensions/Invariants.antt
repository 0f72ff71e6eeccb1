use Rattle.std.proofs.Common.{◌≡◌, ◌++◌, []}
use Rattle.usp_conf.specs.Claims.{repeats_behind}
use Rattle.usp_conf.proofs.claims.distinct_extensions.Given as goal

-- the extensions are the rows so far, of which no two are of one claim
abbrev pub invariant-loop-row : goal.invariant-loop-row
invariant-loop-row l = record {
  rows : l.fn.rows ≡ l.extensions ++ l.row-iterator.rest.items;
  apart : repeats_behind [] l.fn.rows ≡ repeats_behind l.extensions l.row-iterator.rest.items;
}
