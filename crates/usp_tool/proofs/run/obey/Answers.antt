use Rattle.std.proofs.Common.{◌≡◌, All, drop, length, map, refl, rules, string_bytes, subst, sym}
use Rattle.usp_tool.proofs.Programs.{program_edge, took}
use Rattle.usp_tool.specs.Edge.Desks.{IsEmpty, desk_by}
use Rattle.usp_tool.specs.Edge.Words.{words_value}
use Rattle.usp_tool.specs.Program.{IsProgramRun, scene_of}
use Rattle.usp_tool.proofs.run.obey.Goals as goal

pub returns-in-Some-clause-run : goal.returns-in-Some-clause-run
returns-in-Some-clause-run g c =
    let desk = (desk_by g.D.Door.coming g.D.Door.given_back g.D.Door.lines_out g.D.Door.door_count g.C.Clock.given g.O.Objects.objects g.O.Objects.object_count) in
    let same : length c.run_edge.new.workers ≡ c.args.outside.now.workers.len = search rules in
    let words = map (λ w. string_bytes w) c.args.words.now in
    let before = scene_of g.F.Files g.S.Source g.K.Sink desk g.L.Link g.B.Bench.given_back c.args.outside.now.files c.args.outside.now.input c.args.outside.now.out
    c.args.outside.now.workers.items c.args.outside.now.link c.args.outside.now.bench in
    subst (λ workers. IsProgramRun words before
    (scene_of g.F.Files g.S.Source g.K.Sink desk g.L.Link g.B.Bench.given_back c.run_edge.new.files c.args.outside.now.input c.run_edge.new.out workers c.args.outside.now.link c.args.outside.now.bench)
    c.run_edge.result)
    (sym (took c.args.outside.now.workers.len c.run_edge.new.workers (drop (length c.run_edge.new.workers) c.args.outside.now.workers.items) same))
    (program_edge words before
    (scene_of g.F.Files g.S.Source g.K.Sink desk g.L.Link g.B.Bench.given_back c.run_edge.new.files c.args.outside.now.input c.run_edge.new.out c.run_edge.new.workers c.args.outside.now.link c.args.outside.now.bench)
    c.run_edge.result (words_value c.in-Some.words) c.in-Some.ensures (rw (← c.deref_mut.ensures.value) c.run_edge.ensures.run) refl refl refl)

pub returns-in-Some-clause-empty : goal.returns-in-Some-clause-empty
returns-in-Some-clause-empty g c =
    let same : length c.run_edge.new.workers ≡ c.args.outside.now.workers.len = search rules in
    subst (λ workers. All (λ w. IsEmpty w.shift) workers)
    (sym (took c.args.outside.now.workers.len c.run_edge.new.workers (drop (length c.run_edge.new.workers) c.args.outside.now.workers.items) same))
    c.run_edge.ensures.empty
