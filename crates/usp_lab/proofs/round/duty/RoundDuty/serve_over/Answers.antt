use Rattle.std.proofs.Common.{sym}
use Rattle.std.proofs.lemmas.Result.{IfOk-weaker}
use Rattle.usp_edge.specs.Seats.{SeatGains}
use Rattle.usp_edge.specs.declared.limits.TheConstants.{MAX_HEADS}
use Rattle.usp_lab.proofs.Rounds.Seating.{carried_over, gains_over}
use Rattle.usp_lab.proofs.round.duty.RoundDuty.serve_over.Goals as goal

pub returns-clause-served : goal.returns-clause-served
returns-clause-served g c =
    let script = c.args.self.now.script.now in
    IfOk-weaker c.serve_ask-result.result _ _ (λ note has issued known holds.
    carried_over _ SeatGains c.new-over.result c.serve_ask-result.new.nonces c.args.seat.now c.join.new.seat script issued known c.args.ask.now note _ _
    (λ calls gains. gains_over c.args.seat.now c.split.new.seat c.in-Ok.part c.new-over.result.seat c.serve_ask-result.new.nonces.seat c.into_seat.result c.join.new.seat MAX_HEADS calls
    c.requires.left c.split.ensures.kept c.in-Ok.ensures.given c.new-over.ensures c.into_seat.ensures c.join.ensures.seat c.join.ensures.one_history.0 c.join.ensures.one_history.1 gains)
    (has script issued known (sym c.edges.ensures.edges) (sym c.objects.ensures) holds)) c.serve_ask-result.ensures.served
