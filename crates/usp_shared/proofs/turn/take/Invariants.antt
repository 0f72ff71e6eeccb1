use Rattle.std.proofs.Common.{◌≡◌, ◌-◌, []}
use Rattle.usp_shared.specs.declared.rule.Stage.TheVariants.{Waits}
use Rattle.usp_shared.proofs.turn.take.Given as goal

abbrev pub ghosts-look : goal.ghosts-look
ghosts-look g a = record { room = a.board.now.key.table.room }

abbrev pub invariant-loop : goal.invariant-loop
invariant-loop g l =
    (goal.iterator-loop g).can_next l.iterator' × (goal.iterator-loop g).is_finite l.iterator'
    × (l.token.table_id ≡ l.fn.token.table_id)
    × (l.token.me ≡ (record l.fn.token.me.0 { left = l.fn.token.me.0.left - 1; ticket = l.ticket; stage = Waits }, []))
