use Rattle.std.proofs.Common.{List, Err, refl, subst}
use Rattle.usp_base.specs.Lines.{lines_of}
use Rattle.usp_script.specs.Reading.{AreFiles, Loaded, Reads}
use Rattle.usp_script.specs.Refused.{IfLine}
use Rattle.usp_script.specs.Script.{ScriptValue}
use Rattle.usp_tool.specs.Lab.Run.{no_script, runs}
use Rattle.usp_tool.proofs.lab.command.outcome_under.Goals as goal

pub returns-in_ok-outcome_of-in-Ok-clause-has : goal.returns-in_ok-outcome_of-in-Ok-clause-has
returns-in_ok-outcome_of-in-Ok-clause-has g c =
    let read = c.in-Ok.ensures.ok in
    (read.0, read.1, runs c.in-Ok.script c.requires.short read.2 c.in_ok-outcome_of-in-Ok.ensures.tells)

pub returns-in_ok-refused_line-in-Err-Line-clause-has : goal.returns-in_ok-refused_line-in-Err-Line-clause-has
returns-in_ok-refused_line-in-Err-Line-clause-has g c =
    let read = subst (λ f. IfLine {X = ScriptValue} (Err f) (λ number. (loads : List Loaded) × AreFiles (g.F.Files.files c.args.files.now) loads
    × Reads (lines_of c.args.input.now) loads (Err number))) c.in-Err-Line.field-0-is c.in-Err-Line.ensures.refused in
    (read.0, read.1, no_script c.in-Err-Line.number c.requires.short read.2 c.in_ok-refused_line-in-Err-Line.ensures refl)
