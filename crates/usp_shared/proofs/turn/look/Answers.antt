use Rattle.std.proofs.Common.{ℕ, subst, sym, ap, arith}
use mathlib.Core.Option.{none}
use Rattle.atomic_table.specs.Table.{Allows, step}
use Rattle.usp_shared.specs.Rule.{Kept, looked, rank}
use Rattle.usp_shared.proofs.Keeps.{Hand, looks}
use Rattle.usp_shared.proofs.Opens.{allows}
use Rattle.usp_shared.proofs.turn.look.Goals as goal

pub load-requires : goal.load-requires
load-requires g c =
    let of = c.requires.table in
    let z = c.args.board.now.table_id in
    let terms = c.args.board.now.key in
    let v = c.args.token.now.me.0 in
    let st = step z.slots 2 0 0 none in
    let P : Hand → ℕ → Type 0 = λ hand room. Allows (Kept terms) z.slots c.args.token.now.id (v, hand) 2 (λ n. n) (looked room st (v, hand)) in
    let can = subst (P c.args.token.now.me.1) (sym c.requires.room) (subst (λ hand. P hand terms.table.room) (sym c.requires.hand) (looks terms c.args.token.now.id z.slots v st c.requires.waits)) in
    (of.same, omega (arith, of.words), allows terms z.slots c.args.token.now.id v c.args.token.now.me.1 2 (λ n. n) (looked g.E.Room.room st c.args.token.now.me) (omega (arith, ap rank c.requires.waits)) can)
