use Rattle.usp_player.specs.ListLines.{list_line_of, list_lines_of}
use Rattle.usp_player.proofs.Reading.{inf_step}
use Rattle.usp_player.proofs.reader.Reader.read_line.Goals as goal

pub returns-in-Inf : goal.returns-in-Inf
returns-in-Inf c =
    inf_step c.args.number (list_line_of c.args.line.now) (list_lines_of c.args.rest.now) c.args.self.now c.read_duration.new.self c.in-Inf.text.now c.duration_of.result.now c.read_duration.result c.in-Inf.ensures c.duration_of.ensures c.read_duration.ensures
