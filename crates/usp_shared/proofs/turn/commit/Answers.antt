use Rattle.std.proofs.Common.{ap, arith}
use mathlib.Core.Option.{none}
use Rattle.atomic_table.specs.Table.{step}
use Rattle.usp_shared.specs.Rule.{committed, rank}
use Rattle.usp_shared.proofs.Keeps.{commits, raised}
use Rattle.usp_shared.proofs.Opens.{allows}
use Rattle.usp_shared.proofs.turn.commit.Goals as goal

pub fetch_add-requires : goal.fetch_add-requires
fetch_add-requires g c =
    let of = c.requires.table in
    let z = c.args.board.now.table_id in
    let me = c.args.token.now.me in
    let st = step z.slots 0 1 0 none in
    let can = commits c.args.board.now.key c.args.token.now.id z.slots g.E.Entered.call me.0 me.1 st c.requires.turn c.requires.legal in
    (of.same, omega (arith, of.words), allows c.args.board.now.key z.slots c.args.token.now.id me.0 me.1 0 raised (committed g.E.Entered.call st me) (omega (arith, ap rank c.requires.turn)) can)
