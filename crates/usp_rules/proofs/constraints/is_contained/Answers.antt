use Rattle.usp_rules.proofs.Wanted.{by_container}
use Rattle.usp_rules.proofs.constraints.is_contained.Goals as goal

pub returns : goal.returns
returns c =
    let met = by_container c.args.claims.now c.in-Some.content.now c.uc.result.now c.meets.result c.uc.ensures (c.meets.ensures.text c.uc.result.now c.in_ok-container.ensures) in
    rw c.in-Some.is met
