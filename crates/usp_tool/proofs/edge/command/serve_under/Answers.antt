use Rattle.std.proofs.Common.{◌≡◌, ◌⊎◌, inr, ◌∙◌, subst, IfOk, map}
use Rattle.usp_tool.proofs.Serving.Running.{of_refusal, serves_all, serves_each}
use Rattle.usp_tool.specs.Edge.Desks.{IsEmpty, desk_by}
use Rattle.usp_tool.specs.Edge.Run.{ServesAll, TellsAll}
use Rattle.usp_tool.proofs.edge.command.serve_under.Goals as goal

pub returns-clause-serves : goal.returns-clause-serves
returns-clause-serves g c =
    let desk = (desk_by g.D.Door.coming g.D.Door.given_back g.D.Door.lines_out g.D.Door.door_count g.C.Clock.given g.O.Objects.objects g.O.Objects.object_count) in
    serves_all desk c.args.conf.now c.args.most c.in_ok-calls.calls c.args.workers.now c.serve_edge.new.workers c.clear_shifts.new.workers
    c.outcome_of-outcome.result (λ w. IsEmpty w.shift) (λ w e. e.notes) c.requires.empty c.in_ok-calls.ensures.served
    (subst (λ name. IfOk c.outcome_of-outcome.result (λ o. TellsAll name c.in_ok-calls.calls (map desk c.serve_edge.new.workers) o))
    (c.as_bytes.ensures.value ∙ (c.text.ensures.same ∙ c.edge.ensures.value)) c.outcome_of-outcome.ensures) c.clear_shifts.ensures.told

pub returns-clause-untold : goal.returns-clause-untold
returns-clause-untold g c =
    let desk = (desk_by g.D.Door.coming g.D.Door.given_back g.D.Door.lines_out g.D.Door.door_count g.C.Clock.given g.O.Objects.objects g.O.Objects.object_count) in
    of_refusal c.outcome_of-outcome.result
    ((c.clear_shifts.new.workers ≡ c.args.workers.now)
    ⊎ ServesAll c.args.conf.now c.args.most (map desk c.args.workers.now) (map desk c.clear_shifts.new.workers))
    (inr (serves_each desk c.args.conf.now c.args.most c.in_ok-calls.calls c.args.workers.now c.serve_edge.new.workers c.clear_shifts.new.workers
    (λ w. IsEmpty w.shift) (λ w e. e.notes) c.requires.empty c.in_ok-calls.ensures.served c.clear_shifts.ensures.told))
