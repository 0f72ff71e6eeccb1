use Rattle.std.proofs.Common.{ap, arith}
use Rattle.usp_shared.specs.Rule.{kept_part, given_part, rank}
use Rattle.usp_shared.proofs.Opens.{splits_too}
use Rattle.usp_shared.proofs.Shares.{splits}
use Rattle.usp_shared.proofs.turn.split.Goals as goal

pub split_seat-requires : goal.split_seat-requires
split_seat-requires g c =
    let of = c.requires.table in
    let v = c.args.token.now.me.0 in
    let terms = c.args.board.now.key in
    let n = g.E.Part.part in
    let can = splits terms c.args.token.now.id n v c.requires.idle.stage (omega (arith, c.requires.share, c.requires.left)) in
    (of.same, omega (arith, of.words), splits_too terms c.args.token.now.id v (kept_part n v) (given_part n v) (omega (arith, ap rank c.requires.idle.stage)) can)
