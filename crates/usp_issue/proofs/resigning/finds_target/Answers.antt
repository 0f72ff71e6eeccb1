use Rattle.usp_issue.proofs.Finding.{by_container}
use Rattle.usp_issue.proofs.resigning.finds_target.Goals as goal

pub returns : goal.returns
returns c =
    by_container c.args.claims.now c.uc.result.now c.args.target.now c.finds.result c.uc.ensures (c.finds.ensures c.uc.result.now c.in_ok-container.ensures)
