-- The reader's states, as the loop over the text keeps them.
use Rattle.std.proofs.Common.{◌≡◌, ℕ, ◌+◌, ◌-◌, ◌<◌, ◌≤◌, min, List, [], ◌∷◌, Result, Ok, Err, IfErr, refl, sym, ap, ◌∙◌, subst, arith, length, drop, slice_index}
use Rattle.std.proofs.lemmas.List.{length-append}
use Rattle.usp_ere.specs.declared.fault.EreFault.{EreFault}
use Rattle.usp_ere.specs.declared.fault.EreFault.TheVariants.{Syntax, Undefined, Repeat, TooLarge, NoMemory}
use Rattle.usp_ere.specs.declared.line.Line.{Line}
use Rattle.usp_ere.specs.declared.parse.State.{State}
use Rattle.usp_ere.specs.declared.tokens.Mark.{Mark}
use Rattle.usp_ere.specs.Lines.{line_of}
use Rattle.usp_ere.specs.Tokens.{token_at, bytes_of}
use Rattle.usp_ere.specs.Faults.{behind_token, fault_at_end}
use Rattle.usp_ere.specs.Reading.{before_of}
use Rattle.usp_ere.specs.Marks.{mark_of, lines_of, StepsTo, IsFaultOf, IsEndFaultOf, IsTokenFault}
use Rattle.usp_ere.proofs.WayLemmas.{IsOnTheWay, goes_on, stops_at, ends_wrong}

length-lines_of : (ls : List Line) → length (lines_of ls) ≡ length ls
length-lines_of [] = refl
length-lines_of (l ∷ ls) =
    let h : length (lines_of ls) ≡ length ls = length-lines_of ls in
    omega (arith, length-append (lines_of ls) (line_of l ∷ []))

-- the state is one on the way through the text, at a place
pub record Stands (text : List ℕ) (s : State) (at : ℕ) : Type 0 where
  pub way : IsOnTheWay text (line_of s.now) (lines_of s.around.items) at

pub stands_behind : (text : List ℕ) (s next : State) (mark : Mark) (at behind bytes : ℕ) → Stands text s at → at < length text → mark_of mark ≡ token_at at (slice_index text at) (drop (at + 1) text) → bytes ≡ bytes_of (mark_of mark) → behind ≡ min (at + 1 + (bytes - 1)) (length text) → StepsTo s mark next → Stands text next behind
stands_behind text s next mark at behind bytes h lt is size moves steps = record {
  way = goes_on text (line_of s.now) (line_of next.now) (lines_of s.around.items) (lines_of next.around.items) at behind (mark_of mark) h.way lt is (moves ∙ ap (λ n. min (at + 1 + (n - 1)) (length text)) size) steps;
}

-- a fault of the token is one of the text
pub token_fault : (text : List ℕ) (s : State) (mark : Mark) (at : ℕ) (f : EreFault) → Stands text s at → at < length text → mark_of mark ≡ token_at at (slice_index text at) (drop (at + 1) text) → IsFaultOf at s mark f → IsTokenFault text f
token_fault text s mark at NoMemory h lt is wrong = tt
token_fault text s mark at (Syntax n) h lt is wrong = stops_at text _ _ at (mark_of mark) (Syntax n) h.way lt is (ap (λ g. behind_token at (before_of (line_of s.now)) g (mark_of mark)) (length-lines_of s.around.items) ∙ wrong)
token_fault text s mark at (Undefined n) h lt is wrong = stops_at text _ _ at (mark_of mark) (Undefined n) h.way lt is (ap (λ g. behind_token at (before_of (line_of s.now)) g (mark_of mark)) (length-lines_of s.around.items) ∙ wrong)
token_fault text s mark at (Repeat n) h lt is wrong = stops_at text _ _ at (mark_of mark) (Repeat n) h.way lt is (ap (λ g. behind_token at (before_of (line_of s.now)) g (mark_of mark)) (length-lines_of s.around.items) ∙ wrong)
token_fault text s mark at TooLarge h lt is wrong = stops_at text _ _ at (mark_of mark) TooLarge h.way lt is (ap (λ g. behind_token at (before_of (line_of s.now)) g (mark_of mark)) (length-lines_of s.around.items) ∙ wrong)

-- what a `?` hands on
pub handed_on : {A : Type 0} (r : Result A EreFault) (text : List ℕ) (f y : EreFault) → r ≡ Err y → y ≡ f → IsTokenFault text f → IfErr r (λ e. IsTokenFault text e)
handed_on r text f y is same wrong =
    subst (λ z. IfErr z (λ e. IsTokenFault text e)) (sym is) (subst (IsTokenFault text) (sym same) wrong)

-- and so is a fault at the end
end_fault : (text : List ℕ) (s : State) (at : ℕ) (f : EreFault) → Stands text s at → length text ≤ at → IsEndFaultOf at s f → IsTokenFault text f
end_fault text s at NoMemory h past wrong = tt
end_fault text s at (Syntax n) h past wrong = ends_wrong text _ _ at (Syntax n) h.way past (ap (λ g. fault_at_end (before_of (line_of s.now)) g at) (length-lines_of s.around.items) ∙ wrong)
end_fault text s at (Undefined n) h past wrong = ends_wrong text _ _ at (Undefined n) h.way past (ap (λ g. fault_at_end (before_of (line_of s.now)) g at) (length-lines_of s.around.items) ∙ wrong)
end_fault text s at (Repeat n) h past wrong = ends_wrong text _ _ at (Repeat n) h.way past (ap (λ g. fault_at_end (before_of (line_of s.now)) g at) (length-lines_of s.around.items) ∙ wrong)
end_fault text s at TooLarge h past wrong = ends_wrong text _ _ at TooLarge h.way past (ap (λ g. fault_at_end (before_of (line_of s.now)) g at) (length-lines_of s.around.items) ∙ wrong)

pub end_faults : {A : Type 0} (r : Result A EreFault) (text : List ℕ) (s : State) (at : ℕ) → Stands text s at → length text ≤ at → IfErr r (λ f. IsEndFaultOf at s f) → IfErr r (λ f. IsTokenFault text f)
end_faults (Ok a) text s at h past wrong = wrong
end_faults (Err f) text s at h past wrong = end_fault text s at f h past wrong
