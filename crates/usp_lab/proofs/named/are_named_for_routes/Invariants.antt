use Rattle.std.proofs.Common.{◌≤◌, All, take, length}
use Rattle.usp_lab.proofs.named.are_named_for_routes.Given as goal

abbrev pub invariant-loop-route : goal.invariant-loop-route
invariant-loop-route l = All (λ route. length route.key.kid ≤ 64) (take l.route-index l.routes)
