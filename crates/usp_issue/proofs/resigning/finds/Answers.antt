use Rattle.usp_issue.proofs.Finding.{found_by}
use Rattle.usp_issue.proofs.resigning.finds.Goals as goal

pub returns-in_ok-meets-in-Regex : goal.returns-in_ok-meets-in-Regex
returns-in_ok-meets-in-Regex c =
    λ text reads. found_by text c.args.target.now c.args.container.now c.in-Regex.field-0 c.in_ok-meets-in-Regex.field-0 c.in-Regex.is reads (c.in_ok-meets-in-Regex.ensures.text text reads)
