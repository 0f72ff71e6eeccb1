-- What contracts see of a line of a playlist.
use Rattle.usp_player.specs.ListLines.{ListLine, ending_line, inf_line, other_line, range_line, target_line, uri_line}
use Rattle.usp_player.specs.declared.line.Line.{Line}
use Rattle.usp_player.specs.declared.line.Line.TheVariants as line

abbrev pub seen : Line → ListLine
seen (line.Inf text) = inf_line text.now
seen (line.Target digits) = target_line digits.now
seen line.Range = range_line
seen line.End = ending_line
seen (line.Uri text) = uri_line text.now
seen line.Other = other_line
