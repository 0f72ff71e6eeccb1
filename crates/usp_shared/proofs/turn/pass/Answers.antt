use Rattle.std.proofs.Common.{subst, sym, ap, ◌∙◌, arith}
use mathlib.Core.Option.{none}
use Rattle.atomic_table.specs.Table.{Allows, step, rest}
use Rattle.usp_shared.specs.Rule.{Kept, Sat, passed, rank}
use Rattle.usp_shared.specs.declared.rule.Stage.TheVariants.{Idle}
use Rattle.usp_shared.proofs.Keeps.{Hand, passes, raised}
use Rattle.usp_shared.proofs.Opens.{allows}
use Rattle.usp_shared.proofs.turn.pass.Goals as goal

pub fetch_add-requires : goal.fetch_add-requires
fetch_add-requires c =
    let of = c.requires.table in
    let held = c.requires.held in
    let z = c.args.board.now.table_id in
    let v = c.args.token.now.me.0 in
    let st = step z.slots 2 1 0 none in
    let P : Hand → Type 0 = λ hand. Allows (Kept c.args.board.now.key) z.slots c.args.token.now.id (v, hand) 2 raised (passed st (v, hand)) in
    let can = subst P (sym held.hand) (passes c.args.board.now.key c.args.token.now.id z.slots v held.table st c.requires.done held.has) in
    (of.same, omega (arith, of.words), allows c.args.board.now.key z.slots c.args.token.now.id v c.args.token.now.me.1 2 raised (passed st c.args.token.now.me) (omega (arith, ap rank c.requires.done)) can)

pub returns-clause-view : goal.returns-clause-view
returns-clause-view c =
    let v = c.args.token.now.me.0 in
    let P : Hand → Sat = λ hand. (record v { stage = Idle }, rest hand) in
    c.fetch_add.ensures.2 ∙ ap P c.requires.held.hand
