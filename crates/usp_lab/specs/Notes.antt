-- The notes of a run at an edge.
use Rattle.std.specs.Prelude.{ℕ, ◌==◌, List, [], ◌∷◌, ◌++◌, if◌then◌else◌}
use Rattle.usp_edge.specs.declared.note.Note.{Note}
use Rattle.usp_lab.specs.Rounds.{Served}

-- the notes of the asks at an edge, in their order
abbrev pub notes_at : (edge : ℕ) → List Served → List Note
notes_at edge [] = []
notes_at edge (served ∷ all) = (if served.ask.edge == edge then served.note ∷ [] else []) ++ notes_at edge all
