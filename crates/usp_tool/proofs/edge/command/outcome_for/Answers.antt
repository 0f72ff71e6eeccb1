use Rattle.std.proofs.Common.{map}
use Rattle.usp_tool.proofs.Serving.Running.{stopped_by_door, untold_for}
use Rattle.usp_tool.specs.Edge.Desks.{desk_by}
use Rattle.usp_tool.specs.Edge.Words.{words_value}
use Rattle.usp_tool.proofs.edge.command.outcome_for.Goals as goal

pub returns-clause-answered : goal.returns-clause-answered
returns-clause-answered g c = record {
  conf = c.deref.result.now;
  loaded = rw c.deref.ensures.value c.in_ok-text.ensures.found;
  has = c.in_ok-outcome_under.ensures.has;
}

pub returns-clause-door : goal.returns-clause-door
returns-clause-door g c =
    let desk = (desk_by g.D.Door.coming g.D.Door.given_back g.D.Door.lines_out g.D.Door.door_count g.C.Clock.given g.O.Objects.objects g.O.Objects.object_count) in
    stopped_by_door (words_value c.args.words.now) c.deref.result.now (map desk c.args.workers.now) (map desk c.outcome_under.new.workers)
    c.in_ok-outcome_under.field-0 c.in_ok-outcome_under.ensures.has

pub returns-in_err-outcome_under-clause-untold : goal.returns-in_err-outcome_under-clause-untold
returns-in_err-outcome_under-clause-untold g c = λ wants.
    let desk = (desk_by g.D.Door.coming g.D.Door.given_back g.D.Door.lines_out g.D.Door.door_count g.C.Clock.given g.O.Objects.objects g.O.Objects.object_count) in
    untold_for desk (words_value c.args.words.now) (g.F.Files.files c.args.files.now) c.deref.result.now c.args.workers.now c.outcome_under.new.workers
    (rw c.deref.ensures.value c.in_ok-text.ensures.found) c.in_err-outcome_under.ensures.untold
