use Rattle.std.proofs.Common.{sym}
use Rattle.usp_tool.proofs.Serving.Running.{tells_all}
use Rattle.usp_tool.specs.Edge.Desks.{desk_by}
use Rattle.usp_tool.proofs.edge.command.outcome_of.Goals as goal

pub returns : goal.returns
returns g c =
    tells_all (desk_by g.D.Door.coming g.D.Door.given_back g.D.Door.lines_out g.D.Door.door_count g.C.Clock.given g.O.Objects.objects g.O.Objects.object_count) c.args.workers.now c.args.name.now c.in_ok-text.text.items c.args.calls c.status_of.result c.new.result
    c.new.ensures (sym c.if-any_want.ensures) c.in_ok-text.ensures c.status_of.ensures
