use Rattle.usp_issue.proofs.Refusing.{IsFound}
use Rattle.usp_issue.proofs.redirecting.redirect.Given as goal

-- the routes so far are passed by
abbrev pub invariant-loop-place : goal.invariant-loop-place
invariant-loop-place l = IsFound l.name l.used.claims.now l.used.content.now l.used.moment l.routes l.place
