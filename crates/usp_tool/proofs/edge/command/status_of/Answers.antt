use Rattle.std.proofs.Common.{true, false, sym, refl}
use Rattle.usp_tool.proofs.Serving.Running.{status_is}
use Rattle.usp_tool.specs.Edge.Desks.{desk_by}
use Rattle.usp_tool.proofs.edge.command.status_of.Goals as goal

pub returns-then-any_fault : goal.returns-then-any_fault
returns-then-any_fault g c = sym (status_is (desk_by g.D.Door.coming g.D.Door.given_back g.D.Door.lines_out g.D.Door.door_count g.C.Clock.given g.O.Objects.objects g.O.Objects.object_count) c.args.workers.now true _ (sym c.if-any_fault.ensures) refl)

pub returns-then-any_denial : goal.returns-then-any_denial
returns-then-any_denial g c = sym (status_is (desk_by g.D.Door.coming g.D.Door.given_back g.D.Door.lines_out g.D.Door.door_count g.C.Clock.given g.O.Objects.objects g.O.Objects.object_count) c.args.workers.now false true (sym c.if-any_fault.ensures) (sym c.if-any_denial.ensures))

pub returns-else-any_denial : goal.returns-else-any_denial
returns-else-any_denial g c = sym (status_is (desk_by g.D.Door.coming g.D.Door.given_back g.D.Door.lines_out g.D.Door.door_count g.C.Clock.given g.O.Objects.objects g.O.Objects.object_count) c.args.workers.now false false (sym c.if-any_fault.ensures) (sym c.if-any_denial.ensures))
