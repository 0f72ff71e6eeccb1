use Rattle.usp_script.proofs.Groups.{group_more}
use Rattle.usp_script.proofs.generator.rounds.Goals as goal

pub loop-group-preserved : goal.loop-group-preserved
loop-group-preserved c = group_more c.loop-group.group c.args.groups _ _ c.loop-group-test.true c.in_ok-push_group.ensures c.loop-group.invariant
