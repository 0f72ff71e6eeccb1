use Rattle.std.proofs.Common.{◌≡◌, ◌++◌, drop}
use Rattle.usp_tool.specs.Edge.Text.{note_lines}
use Rattle.usp_tool.proofs.edge.text.push_notes.Given as goal

-- the text so far, and the lines that are left, are the whole
abbrev pub invariant-notes : goal.invariant-notes
invariant-notes l =
    l.text.items ++ note_lines l.place.worker l.place.connection (drop l.note-index l.notes) ≡ l.fn.text.items ++ note_lines l.place.worker l.place.connection l.notes
