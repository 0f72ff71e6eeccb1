use Rattle.std.proofs.Common.{◌≡◌, Err, ap, refl}
use Rattle.usp_base.specs.declared.fault.Status.TheVariants.{Memory, Outside}
use Rattle.usp_tool.proofs.Serving.Running.{desks_untold, edge_outside, edge_shows}
use Rattle.usp_tool.specs.Edge.Desks.{desk_by}
use Rattle.usp_tool.specs.Edge.Run.{scene_of}
use Rattle.usp_tool.specs.Edge.Words.{words_value}
use Rattle.usp_tool.proofs.edge.command.run_crew.Goals as goal

pub returns-in-Ok-clause-run : goal.returns-in-Ok-clause-run
returns-in-Ok-clause-run g c =
    let desk = (desk_by g.D.Door.coming g.D.Door.given_back g.D.Door.lines_out g.D.Door.door_count g.C.Clock.given g.O.Objects.objects g.O.Objects.object_count) in
    record {
      shows = edge_shows (words_value c.args.words.now)
          (scene_of g.F.Files g.K.Sink desk c.args.files.now c.args.workers.now c.args.out.now)
          (scene_of g.F.Files g.K.Sink desk c.outcome_for.new.files c.outcome_for.new.workers c.put_text.new.out)
          c.text.result.now c.status.result c.put_text.result
          c.in-Ok.outcome c.in-Ok.ensures.answered c.text.ensures c.status.ensures c.put_text.ensures;
      outside = edge_outside (g.K.Sink.told c.args.out.now) (g.K.Sink.told c.put_text.new.out)
          (g.K.Sink.put_count c.args.out.now) (g.K.Sink.put_count c.put_text.new.out) c.text.result.now c.status.result c.put_text.result
          c.in-Ok.outcome c.status.ensures c.in-Ok.ensures.door c.put_text.ensures;
      asked = c.in-Ok.ensures.asked;
    }

pub returns-in-Err-NoMemory-clause-run : goal.returns-in-Err-NoMemory-clause-run
returns-in-Err-NoMemory-clause-run g c =
    let desk = (desk_by g.D.Door.coming g.D.Door.given_back g.D.Door.lines_out g.D.Door.door_count g.C.Clock.given g.O.Objects.objects g.O.Objects.object_count) in
    record {
      shows = record {
        told = refl;
        desks = desks_untold desk (words_value c.args.words.now) (g.F.Files.files c.args.files.now) c.args.workers.now c.outcome_for.new.workers
            (c.in-Err-NoMemory.ensures.untold (ap Err c.in-Err-NoMemory.field-0-is));
      };
      outside = λ e. let differ : Memory ≡ Outside = e in cc;
      asked = c.in-Err-NoMemory.ensures.asked;
    }
