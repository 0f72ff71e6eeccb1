use Rattle.std.proofs.Common.{ap, length, arith}
use Rattle.usp_lab.proofs.Names.{all_named, one_named}
use Rattle.usp_lab.proofs.named.are_named.Goals as goal

pub loop-key-preserved : goal.loop-key-preserved
loop-key-preserved c =
    one_named c.args.keys.now c.loop-key.key-index c.key-item.result c.loop-key-test.true c.key-item.is
    (omega (arith, c.kid.ensures.short, ap length c.kid.ensures.value)) c.loop-key.invariant

pub returns : goal.returns
returns c = all_named c.args.keys.now c.loop-key.key-index c.loop-key-test.false c.loop-key.invariant
