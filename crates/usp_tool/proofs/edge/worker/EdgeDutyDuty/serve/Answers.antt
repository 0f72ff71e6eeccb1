use Rattle.std.proofs.Common.{sym, ap, ◌∙◌, refl, Some}
use Rattle.usp_edge.specs.Seats.{SeatGains}
use Rattle.usp_tool.proofs.Serving.Carrying.{works_by}
use Rattle.usp_tool.proofs.Serving.Sitting.{sat_by, sits}
use Rattle.usp_tool.proofs.edge.worker.EdgeDutyDuty.serve.Goals as goal

pub returns : goal.returns
returns g c = sat_by _ _ c.args.self.now.most _ _ _ _ c.conf.ensures (record {
  first = c.new-nonces.result.seat;
  last = c.serve_door-end.new.nonces.seat;
  first_is = sym c.take.ensures.value ∙ (c.in-Some.is ∙ ap Some (sym c.new-nonces.ensures));
  last_is = ap Some c.into_seat.ensures;
  sits = sits c.conf.result.now c.args.self.now.most _ _ c.new-nonces.result.seat c.serve_door-end.new.nonces.seat c.serve_door-end.result refl c.serve_door-end.ensures.out
      (works_by _ SeatGains (λ s. s.seat) (λ a b x h. h) c.conf.result.now c.args.self.now.most _ _ _ _ _ c.serve_door-end.ensures.works);
})
