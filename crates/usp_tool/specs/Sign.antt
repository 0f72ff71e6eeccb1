-- What `sign` writes.
pub mod Line
use Rattle.std.specs.Prelude.{◌≡◌, ℕ, ◌+◌, List, [], ◌∷◌, ◌++◌}
use Rattle.usp_jws.specs.Keys.{KeyValue}
use Rattle.usp_base.specs.Lines.{line_feed}
use Rattle.usp_tool.specs.Outcome.{Outcome, empty, line_refusal}
use Rattle.usp_tool.specs.Sign.Line.{SignsLine}

abbrev pub with_signed : List ℕ → Outcome → Outcome
with_signed text more = record { text = text ++ (line_feed ∷ more.text); status = more.status }

-- The outcome of lines, the first of which has this number. A line for which nothing is signed is refused, and
-- none behind it is signed.
pub data SignsAll (attribute : List ℕ) (key : KeyValue) : ℕ → List (List ℕ) → Outcome → Type 0 where
  done : (number : ℕ) (outcome : Outcome) → outcome ≡ empty
      → SignsAll attribute key number [] outcome
  stops : (number : ℕ) (line : List ℕ) (lines : List (List ℕ)) (outcome : Outcome)
      → ((text : List ℕ) → SignsLine attribute key line text → ⊥) → outcome ≡ line_refusal number
      → SignsAll attribute key number (line ∷ lines) outcome
  signs : (number : ℕ) (line text : List ℕ) (lines : List (List ℕ)) (outcome more : Outcome)
      → SignsLine attribute key line text → SignsAll attribute key (number + 1) lines more
      → outcome ≡ with_signed text more → SignsAll attribute key number (line ∷ lines) outcome

-- A text is signed for each line, one after the other, and they are printed on lines of their own.
pub data SignsEach (attribute : List ℕ) (key : KeyValue)
    : List (List ℕ) → List (List ℕ) → List ℕ → Type 0 where
  none : SignsEach attribute key [] [] []
  more : (line text : List ℕ) (lines texts : List (List ℕ)) (printed : List ℕ)
      → SignsLine attribute key line text → SignsEach attribute key lines texts printed
      → SignsEach attribute key (line ∷ lines) (text ∷ texts) (text ++ line_feed ∷ printed)
