use Rattle.std.proofs.Common.{◌≡◌, ◌+◌, ◌++◌, drop}
use Rattle.usp_tool.specs.Play.Text.{step_lines}
use Rattle.usp_tool.proofs.play.text.push_steps.Given as goal

-- the text so far, and the lines that are left, are the whole
abbrev pub invariant-steps : goal.invariant-steps
invariant-steps l = l.text.items ++ step_lines (l.i + 1) (drop l.i l.steps) ≡ l.fn.text.items ++ step_lines 1 l.steps
