use Rattle.std.proofs.Common.{◌≡◌, ◌⊎◌, inl, map, refl}
use Rattle.usp_tool.proofs.Serving.Running.{has_refusal, has_served, of_refusal, untold_under}
use Rattle.usp_tool.specs.Edge.Desks.{desk_by}
use Rattle.usp_tool.specs.Edge.Run.{ServesUnder}
use Rattle.usp_tool.specs.Edge.Words.{words_value}
use Rattle.usp_tool.proofs.edge.command.outcome_under.Goals as goal

pub returns-in-Ok-clause-has : goal.returns-in-Ok-clause-has
returns-in-Ok-clause-has g c =
    let desk = (desk_by g.D.Door.coming g.D.Door.given_back g.D.Door.lines_out g.D.Door.door_count g.C.Clock.given g.O.Objects.objects g.O.Objects.object_count) in
    has_served (words_value c.args.words.now) c.args.text.now c.in-Ok.conf (map desk c.args.workers.now) (map desk c.serve_under.new.workers)
    c.serve_under.result c.in-Ok.ensures.ok c.serve_under.ensures.serves

pub returns-in-Err-clause-has : goal.returns-in-Err-clause-has
returns-in-Err-clause-has g c =
    let desk = (desk_by g.D.Door.coming g.D.Door.given_back g.D.Door.lines_out g.D.Door.door_count g.C.Clock.given g.O.Objects.objects g.O.Objects.object_count) in
    has_refusal (words_value c.args.words.now) c.args.text.now c.in-Err.fault (map desk c.args.workers.now) (map desk c.args.workers.now)
    c.conf_refusal.result c.in-Err.ensures.refused refl c.conf_refusal.ensures

pub returns-in-Ok-clause-untold : goal.returns-in-Ok-clause-untold
returns-in-Ok-clause-untold g c =
    let desk = (desk_by g.D.Door.coming g.D.Door.given_back g.D.Door.lines_out g.D.Door.door_count g.C.Clock.given g.O.Objects.objects g.O.Objects.object_count) in
    untold_under desk (words_value c.args.words.now) c.args.text.now c.in-Ok.conf c.args.workers.now c.serve_under.new.workers
    c.serve_under.result c.in-Ok.ensures.ok c.serve_under.ensures.untold

pub returns-in-Err-clause-untold : goal.returns-in-Err-clause-untold
returns-in-Err-clause-untold g c =
    let desk = (desk_by g.D.Door.coming g.D.Door.given_back g.D.Door.lines_out g.D.Door.door_count g.C.Clock.given g.O.Objects.objects g.O.Objects.object_count) in
    of_refusal c.conf_refusal.result
    ((c.args.workers.now ≡ c.args.workers.now)
    ⊎ ServesUnder (words_value c.args.words.now) c.args.text.now (map desk c.args.workers.now) (map desk c.args.workers.now))
    (inl refl)
