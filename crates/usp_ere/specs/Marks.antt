-- What a state of the reader stands for.
use Rattle.std.specs.Prelude.{◌≡◌, ℕ, List, [], ◌∷◌, ◌++◌, length, Some, None, Err, map}
use Rattle.usp_ere.specs.declared.tokens.Mark.{Mark}
use Rattle.usp_ere.specs.declared.tokens.Mark.TheVariants.{Atom, Anchor, Times, Brace, Opening, Closing, Bar, Bad}
use Rattle.usp_ere.specs.declared.parse.State.{State}
use Rattle.usp_ere.specs.declared.fault.EreFault.{EreFault}
use Rattle.usp_ere.specs.declared.fault.EreFault.TheVariants.{NoMemory}
use Rattle.usp_ere.specs.Expression.{Expr}
use Rattle.usp_ere.specs.Shape.{expr_of}
use Rattle.usp_ere.specs.Lines.{line_of}
use Rattle.usp_ere.specs.Tokens.{Token, atom, anchor, times, brace, opening, closing, bar, bad, tokens_of}
use Rattle.usp_ere.specs.Faults.{nothing, behind_token, fault_at_end, fault_in}
use Rattle.usp_ere.specs.declared.line.Line.{Line}
use Rattle.usp_ere.specs.Reading.{before_of, state, step, reading, fresh}
use Rattle.usp_ere.specs.Reading.{State as StateRead, Line as LineRead}

abbrev pub mark_of : Mark → Token
mark_of (Atom e bytes) = atom (expr_of e) bytes
mark_of (Anchor e) = anchor (expr_of e)
mark_of (Times least most bytes) = times least most bytes
mark_of Brace = brace
mark_of Opening = opening
mark_of Closing = closing
mark_of Bar = bar
mark_of (Bad f) = bad f

-- the lists around, the innermost first: the last of the stack
abbrev pub lines_of : List Line → List LineRead
lines_of [] = []
lines_of (l ∷ ls) = lines_of ls ++ line_of l ∷ []

abbrev pub state_of : State → StateRead
state_of s = state (line_of s.now) (lines_of s.around.items)

-- the token leads from one state to the other
abbrev pub StepsTo : State → Mark → State → Type 0
StepsTo s mark next = step (state_of s) (mark_of mark) ≡ Some (state_of next)

-- the token at a place is a fault there
abbrev pub IsFaultOf : ℕ → State → Mark → EreFault → Type 0
IsFaultOf at s mark NoMemory = Unit {0}
IsFaultOf at s mark f = behind_token at (before_of (line_of s.now)) (length s.around.items) (mark_of mark) ≡ Err f

-- the end of the text is a fault there
abbrev pub IsEndFaultOf : ℕ → State → EreFault → Type 0
IsEndFaultOf end s NoMemory = Unit {0}
IsEndFaultOf end s f = fault_at_end (before_of (line_of s.now)) (length s.around.items) end ≡ Some f

-- the tokens of the text are read as this expression
abbrev pub IsReading : List ℕ → Expr → Type 0
IsReading text e = reading (state (fresh None) []) (map (λ p. p.token) (tokens_of text)) ≡ Some e

-- the fault of the tokens of the text, but for want of memory
abbrev pub IsTokenFault : List ℕ → EreFault → Type 0
IsTokenFault text NoMemory = Unit {0}
IsTokenFault text f = fault_in nothing 0 (length text) (tokens_of text) ≡ Some f
