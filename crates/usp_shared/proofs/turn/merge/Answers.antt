use Rattle.std.proofs.Common.{ap, arith}
use Rattle.usp_shared.specs.Rule.{joined, spent, rank}
use Rattle.usp_shared.proofs.Opens.{joins_too}
use Rattle.usp_shared.proofs.Shares.{joins}
use Rattle.usp_shared.proofs.turn.merge.Goals as goal

pub join_seat-requires : goal.join_seat-requires
join_seat-requires c =
    let of = c.requires.table in
    let terms = c.args.board.now.key in
    let v = c.args.token.now.me.0 in
    let w = c.args.other.me.0 in
    let can = joins terms c.args.token.now.id c.args.other.id v w c.requires.idle.stage c.requires.other_idle.stage in
    (of.same, c.requires.other, c.requires.other_idle.hand, omega (arith, of.words), joins_too terms c.args.token.now.id c.args.other.id v w (joined v w) spent (omega (arith, ap rank c.requires.idle.stage)) can)
