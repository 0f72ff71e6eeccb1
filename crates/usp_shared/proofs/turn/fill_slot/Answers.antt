use Rattle.std.proofs.Common.{subst, sym, refl, arith}
use mathlib.Core.Option.{none}
use Rattle.atomic_table.specs.Table.{Allows, step}
use Rattle.usp_shared.specs.Rule.{Holds, Sat, passed}
use Rattle.usp_shared.proofs.Opens.{fills}
use Rattle.usp_shared.proofs.turn.fill_slot.Goals as goal

pub load-requires : goal.load-requires
load-requires c =
    let of = c.requires.table in
    let terms = c.args.board.now.key in
    let z = c.args.board.now.table_id in
    let st = step z.slots 0 0 0 none in
    let P : Sat → Type 0 = λ me. Allows (Holds terms) z.slots c.args.token.now.id me 0 (λ n. n) (passed st me) in
    (of.same, omega (arith, of.words), subst P (sym c.requires.fills) (fills terms c.args.token.now.id z.slots terms.table st (record { stands = c.requires.fresh; room_is = refl })))
