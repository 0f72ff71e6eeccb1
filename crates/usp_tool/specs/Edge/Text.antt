-- What an edge prints behind its last connection.
use Rattle.std.specs.Prelude.{ℕ, ◌+◌, ◌==◌, ◌||◌, Bool, List, [], ◌∷◌, ◌++◌, take, drop, position, codes, Option, Some, None}
use Rattle.std.specs.Fmt.{decimal}
use Rattle.usp_base.specs.Lines.{line_feed}
use Rattle.usp_nonce.specs.declared.answer.Turned.{Turned}
use Rattle.usp_rules.specs.Names.{name_of, number_of}
use Rattle.usp_edge.specs.declared.end.End.{End}
use Rattle.usp_edge.specs.declared.end.End.TheVariants as ending
use Rattle.usp_edge.specs.declared.note.Note.{Note}
use Rattle.usp_edge.specs.declared.note.Verdict.{Verdict}
use Rattle.usp_edge.specs.declared.note.Verdict.TheVariants as verdict
use Rattle.usp_tool.specs.Check.Line.{space}
use Rattle.usp_tool.specs.Edge.Desks.{Desk}
use Rattle.usp_tool.specs.declared.edge.visit.Visit.{Visit}

-- the query of a URI, and the parameters of its path, begin behind one of these: ? and ;
abbrev pub is_mark : ℕ → Bool
is_mark b = (b == 63) || (b == 59)

abbrev pub up_to : List ℕ → Option ℕ → List ℕ
up_to uri None = uri
up_to uri (Some place) = take place uri

-- the URI up to its first mark
abbrev pub plain_part : List ℕ → List ℕ
plain_part uri = up_to uri (position is_mark uri)

abbrev pub verdict_text : Verdict → (status : ℕ) → List ℕ
verdict_text verdict.Admitted status = codes "admitted " ++ decimal status
verdict_text (verdict.Denied rule) status =
    codes "denied " ++ (decimal (number_of rule) ++ (space ∷ name_of rule))

-- the nonce call, where there was one
abbrev pub turn_text : Option Turned → List ℕ
turn_text None = []
turn_text (Some turned) = codes " nonce " ++ (decimal turned.place ++ (codes " at " ++ decimal turned.moment))

abbrev pub end_name : End → List ℕ
end_name ending.Closed = codes "Closed"
end_name ending.CutShort = codes "CutShort"
end_name ending.BadHead = codes "BadHead"
end_name ending.HeadTooLong = codes "HeadTooLong"
end_name ending.ManyHeaders = codes "ManyHeaders"
end_name ending.ReadFault = codes "ReadFault"
end_name ending.Body = codes "Body"
end_name ending.Enough = codes "Enough"
end_name ending.WriteFault = codes "WriteFault"
end_name ending.NoMemory = codes "NoMemory"

-- what each line begins with: the number of the worker, and that of its connection
abbrev pub line_front : (worker connection : ℕ) → List ℕ
line_front worker connection = decimal worker ++ (space ∷ (decimal connection ++ space ∷ []))

abbrev pub note_line : (worker connection : ℕ) → Note → List ℕ
note_line worker connection note =
    line_front worker connection
    ++ (verdict_text note.verdict note.status
    ++ (turn_text note.call ++ (space ∷ (plain_part note.uri ++ line_feed ∷ []))))

abbrev pub note_lines : (worker connection : ℕ) → List Note → List ℕ
note_lines worker connection [] = []
note_lines worker connection (note ∷ notes) = note_line worker connection note ++ note_lines worker connection notes

abbrev pub end_line : (worker connection : ℕ) → End → List ℕ
end_line worker connection ends =
    line_front worker connection ++ (codes "end " ++ (end_name ends ++ line_feed ∷ []))

-- one connection: its notes, and then its end
abbrev pub visit_lines : (worker connection : ℕ) → List Note → Visit → List ℕ
visit_lines worker connection notes visit =
    note_lines worker connection (take visit.notes notes) ++ end_line worker connection visit.end

-- The notes of a worker are cut by its visits.
abbrev pub visits_lines : (worker connection : ℕ) → List Note → List Visit → List ℕ
visits_lines worker connection notes [] = []
visits_lines worker connection notes (visit ∷ visits) =
    visit_lines worker connection notes visit
    ++ visits_lines worker (connection + 1) (drop visit.notes notes) visits

-- the workers, from that number on
abbrev pub workers_lines : (worker : ℕ) → List Desk → List ℕ
workers_lines worker [] = []
workers_lines worker (desk ∷ desks) =
    visits_lines worker 1 desk.notes desk.visits ++ workers_lines (worker + 1) desks

abbrev pub last_line_of : (name : List ℕ) → (calls : ℕ) → List ℕ
last_line_of name calls = codes "edge " ++ (name ++ (codes " calls " ++ (decimal calls ++ line_feed ∷ [])))

-- The text of an edge with this name, whose workers made so many nonce calls.
abbrev pub edge_text : (name : List ℕ) → (calls : ℕ) → List Desk → List ℕ
edge_text name calls desks = workers_lines 1 desks ++ last_line_of name calls
