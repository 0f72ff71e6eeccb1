use Rattle.std.proofs.Common.{subst, sym, ap, arith}
use mathlib.Core.Option.{none}
use Rattle.atomic_table.specs.Table.{Allows, step}
use Rattle.usp_shared.specs.Rule.{Kept, drawn, rank}
use Rattle.usp_shared.proofs.Keeps.{Hand, draws, raised}
use Rattle.usp_shared.proofs.Opens.{allows}
use Rattle.usp_shared.proofs.turn.draw.Goals as goal

pub fetch_add-requires : goal.fetch_add-requires
fetch_add-requires c =
    let of = c.requires.table in
    let idle = c.requires.idle in
    let z = c.args.board.now.table_id in
    let v = c.args.token.now.me.0 in
    let st = step z.slots 1 1 0 none in
    let P : Hand → Type 0 = λ hand. Allows (Kept c.args.board.now.key) z.slots c.args.token.now.id (v, hand) 1 raised (drawn st (v, hand)) in
    let can = subst P (sym idle.hand) (draws c.args.board.now.key c.args.token.now.id z.slots v st idle.stage c.requires.left) in
    (of.same, omega (arith, of.words), allows c.args.board.now.key z.slots c.args.token.now.id v c.args.token.now.me.1 1 raised (drawn st c.args.token.now.me) (omega (arith, ap rank idle.stage)) can)
