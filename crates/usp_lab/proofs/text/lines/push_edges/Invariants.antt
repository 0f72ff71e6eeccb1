use Rattle.std.proofs.Common.{◌≡◌, ◌++◌, drop}
use Rattle.usp_lab.specs.Telling.{calls_lines}
use Rattle.usp_lab.proofs.text.lines.push_edges.Given as goal

-- the text so far, and the lines that are left, are the whole
abbrev pub invariant-edges : goal.invariant-edges
invariant-edges l = l.text.items ++ calls_lines l.calls l.i (drop l.i l.edges) ≡ l.fn.text.items ++ calls_lines l.calls 0 l.edges
