use Rattle.std.proofs.Common.{◌≡◌, length}
use Rattle.std.specs.List.{list_any}
use Rattle.usp_base.specs.Lines.{lines_of}
use Rattle.usp_tool.specs.Input.{is_long_line}
use Rattle.usp_tool.proofs.input.has_long_line.Given as goal

-- no line so far is too long
abbrev pub invariant-loop-rest : goal.invariant-loop-rest
invariant-loop-rest l = list_any is_long_line (lines_of l.rest) ≡ list_any is_long_line (lines_of l.input)

abbrev pub decreases-loop-rest : goal.decreases-loop-rest
decreases-loop-rest l = length l.rest
