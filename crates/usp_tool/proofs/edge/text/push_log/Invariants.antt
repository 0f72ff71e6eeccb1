use Rattle.std.proofs.Common.{◌≡◌, ◌+◌, ◌++◌, drop}
use Rattle.usp_tool.specs.Edge.Text.{visits_lines}
use Rattle.usp_tool.proofs.edge.text.push_log.Given as goal

-- the text so far, and the lines that are left, are the whole
abbrev pub invariant-visits : goal.invariant-visits
invariant-visits l =
    l.text.items ++ visits_lines l.worker (l.i + 1) l.rest (drop l.i l.log.visits.items) ≡ l.fn.text.items ++ visits_lines l.worker 1 l.log.notes.items l.log.visits.items
