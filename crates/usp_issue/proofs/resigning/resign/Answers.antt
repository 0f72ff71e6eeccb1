use Rattle.usp_issue.proofs.Finding.{kept, narrowed}
use Rattle.usp_issue.proofs.resigning.resign.Goals as goal

pub returns-then-branch-clause-resigned : goal.returns-then-branch-clause-resigned
returns-then-branch-clause-resigned c =
    kept c.args.used.now.claims.now c.in_ok-claims.claims c.args.used.now.content.now c.args.target.now c.args.used.now.moment c.args.route.now c.in_ok-finds_target.field-0 c.for_route.result
    c.in_ok-claims.ensures c.requires.target c.in_ok-finds_target.ensures c.if-branch.true c.for_route.ensures.routed

pub returns-clause-resigned : goal.returns-clause-resigned
returns-clause-resigned c =
    narrowed c.args.used.now.claims.now c.in_ok-claims.claims c.in_ok-claims-2.claims c.args.used.now.content.now c.args.target.now c.args.used.now.moment c.args.route.now c.in_ok-finds_target.field-0 c.for_route-2.result
    c.in_ok-claims.ensures c.requires.target c.in_ok-claims-2.ensures.changed c.in_ok-finds_target.ensures c.if-branch.false c.for_route-2.ensures.routed
