use Rattle.std.proofs.Common.{◌≡◌, ◌+◌, ◌++◌, drop, map}
use Rattle.usp_tool.specs.Edge.Text.{workers_lines}
use Rattle.usp_tool.specs.Edge.Desks.{desk_by}
use Rattle.usp_tool.proofs.edge.text.push_workers.Given as goal

-- the text so far, and the lines that are left, are the whole
abbrev pub invariant-workers : goal.invariant-workers
invariant-workers g l =
    let desk = desk_by g.D.Door.coming g.D.Door.given_back g.D.Door.lines_out g.D.Door.door_count g.C.Clock.given g.O.Objects.objects g.O.Objects.object_count in
    l.text.items ++ workers_lines (l.i + 1) (map desk (drop l.i l.workers)) ≡ l.fn.text.items ++ workers_lines 1 (map desk l.workers)
