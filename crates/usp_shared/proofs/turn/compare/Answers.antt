use Rattle.std.proofs.Common.{ap, arith}
use mathlib.Core.Option.{none}
use Rattle.atomic_table.specs.Table.{step}
use Rattle.usp_shared.specs.Rule.{compared, rank}
use Rattle.usp_shared.proofs.Opens.{allows}
use Rattle.usp_shared.proofs.Shares.{compares}
use Rattle.usp_shared.proofs.turn.compare.Goals as goal

pub load-requires : goal.load-requires
load-requires c =
    let of = c.requires.table in
    let z = c.args.board.now.table_id in
    let me = c.args.token.now.me in
    let st = step z.slots 0 0 0 none in
    let can = compares c.args.board.now.key c.args.token.now.id z.slots me.0 me.1 st c.requires.short in
    (of.same, omega (arith, of.words), allows c.args.board.now.key z.slots c.args.token.now.id me.0 me.1 0 (λ n. n) (compared st me) (omega (arith, ap rank c.requires.idle.stage)) can)
