use Rattle.std.specs.Prelude.{Some}
use Rattle.usp_shared.proofs.Hands.{only_one}
use Rattle.usp_shared.proofs.turn.call_in_turn.Goals as goal

pub exchange-requires : goal.exchange-requires
exchange-requires g c =
    let held = c.requires.held in
    (c.requires.table.same, (Some held.table, only_one c.args.token.now.me.1 held.table held.hand))
