use Rattle.std.proofs.Common.{map, Option, IfSome, string_bytes, subst}
use Rattle.usp_tool.proofs.Headlines.Printed.{shown_checks}
use Rattle.usp_tool.specs.Run.{Shows, world_of}
use Rattle.usp_tool.specs.Words.{Command}
use Rattle.usp_tool.proofs.run.run_tool.Goals as goal

pub returns-clause-headline : goal.returns-clause-headline
returns-clause-headline g c = λ name is.
    let before = world_of g.F.Files g.S.Source g.K.Sink c.args.files.now c.args.input.now c.args.out.now in
    let after = world_of g.F.Files g.S.Source g.K.Sink c.run_lines.new.files c.run_lines.new.input c.run_lines.new.out in
    shown_checks name before after c.run_lines.result
    (subst (λ (o : Option Command). IfSome o (λ command. Shows command before after c.run_lines.result)) is c.run_lines.ensures.shows)
