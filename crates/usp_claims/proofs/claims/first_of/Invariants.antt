use Rattle.std.proofs.Common.{◌≡◌, not, drop}
use Rattle.std.specs.List.{find}
use Rattle.usp_claims.specs.Table.{fits}
use Rattle.usp_claims.proofs.claims.first_of.Given as goal

-- no row so far is failed
abbrev pub invariant-loop-row : goal.invariant-loop-row
invariant-loop-row l = find (λ row. not (fits l.members row)) l.rows ≡ find (λ row. not (fits l.members row)) (drop l.row-index l.rows)
