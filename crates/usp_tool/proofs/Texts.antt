-- Texts of the output, piece by piece.
use Rattle.std.proofs.Common.{◌≡◌, ap, ℕ, ◌+◌, ◌<◌, codes, List, [], ◌∷◌, ◌++◌, ◌∙◌, append_assoc, drop, length}
use Rattle.std.specs.Prelude.{slice_index_or}
use Rattle.usp_base.specs.declared.fault.Status.{Status}
use Rattle.usp_player.specs.declared.transcript.Step.{Step}
use Rattle.usp_tool.proofs.Serving.Texts.{drop_step, goes_on}
use Rattle.usp_tool.specs.Outcome.{Outcome}
use Rattle.usp_tool.specs.Play.Text.{step_line, step_lines}

abbrev pub made : List ℕ → Status → Outcome
made text status = record { text = text; status = status }

pub same_made : (t u : List ℕ) (s r : Status) → t ≡ u → s ≡ r → made t s ≡ made u r
same_made t u s r a b = cc

pub line_refusal_text : (text digits : List ℕ)
    → ((text ++ codes "refused line ") ++ digits) ++ 10 ∷ [] ≡ text ++ (codes "refused " ++ ((codes "line " ++ digits) ++ 10 ∷ []))
line_refusal_text text digits =
    append_assoc (text ++ codes "refused line ") digits (10 ∷ []) ∙ append_assoc text (codes "refused line ") (digits ++ 10 ∷ [])

pub admitted_text : (text digits content : List ℕ)
    → (((text ++ digits) ++ codes " admitted ") ++ content) ++ 10 ∷ [] ≡ text ++ (digits ++ (codes " admitted " ++ (content ++ 10 ∷ [])))
admitted_text text digits content =
    append_assoc ((text ++ digits) ++ codes " admitted ") content (10 ∷ [])
    ∙ (append_assoc (text ++ digits) (codes " admitted ") (content ++ 10 ∷ [])
    ∙ append_assoc text digits (codes " admitted " ++ (content ++ 10 ∷ [])))

pub denied_text : (text digits number name : List ℕ)
    → (((((text ++ digits) ++ codes " denied ") ++ number) ++ 32 ∷ []) ++ name) ++ 10 ∷ []
    ≡ text ++ (digits ++ (codes " denied " ++ (number ++ (32 ∷ (name ++ 10 ∷ [])))))
denied_text text digits number name =
    append_assoc ((((text ++ digits) ++ codes " denied ") ++ number) ++ 32 ∷ []) name (10 ∷ [])
    ∙ (append_assoc (((text ++ digits) ++ codes " denied ") ++ number) (32 ∷ []) (name ++ 10 ∷ [])
    ∙ (append_assoc ((text ++ digits) ++ codes " denied ") number (32 ∷ (name ++ 10 ∷ []))
    ∙ (append_assoc (text ++ digits) (codes " denied ") (number ++ (32 ∷ (name ++ 10 ∷ [])))
    ∙ append_assoc text digits (codes " denied " ++ (number ++ (32 ∷ (name ++ 10 ∷ [])))))))

pub step_text : (text number status authority path : List ℕ)
    → (((((((text ++ number) ++ 32 ∷ []) ++ status) ++ 32 ∷ []) ++ authority) ++ 32 ∷ []) ++ path) ++ 10 ∷ []
    ≡ text ++ (number ++ (32 ∷ (status ++ (32 ∷ (authority ++ (32 ∷ (path ++ 10 ∷ [])))))))
step_text text number status authority path =
    append_assoc ((((((text ++ number) ++ 32 ∷ []) ++ status) ++ 32 ∷ []) ++ authority) ++ 32 ∷ []) path (10 ∷ [])
    ∙ (append_assoc (((((text ++ number) ++ 32 ∷ []) ++ status) ++ 32 ∷ []) ++ authority) (32 ∷ []) (path ++ 10 ∷ [])
    ∙ (append_assoc ((((text ++ number) ++ 32 ∷ []) ++ status) ++ 32 ∷ []) authority (32 ∷ (path ++ 10 ∷ []))
    ∙ (append_assoc (((text ++ number) ++ 32 ∷ []) ++ status) (32 ∷ []) (authority ++ (32 ∷ (path ++ 10 ∷ [])))
    ∙ (append_assoc ((text ++ number) ++ 32 ∷ []) status (32 ∷ (authority ++ (32 ∷ (path ++ 10 ∷ []))))
    ∙ (append_assoc (text ++ number) (32 ∷ []) (status ++ (32 ∷ (authority ++ (32 ∷ (path ++ 10 ∷ [])))))
    ∙ append_assoc text number (32 ∷ (status ++ (32 ∷ (authority ++ (32 ∷ (path ++ 10 ∷ [])))))))))))

-- the requests go on by one
pub steps_step : (steps : List Step) (i : ℕ) (d : Step) (text whole : List ℕ) → i < length steps
    → text ++ step_lines (i + 1) (drop i steps) ≡ whole
    → (text ++ step_line (i + 1) (slice_index_or steps i d)) ++ step_lines (i + 1 + 1) (drop (i + 1) steps) ≡ whole
steps_step steps i d text whole lt so =
    goes_on text (step_line (i + 1) (slice_index_or steps i d)) (step_lines (i + 1 + 1) (drop (i + 1) steps)) whole
    (step_lines (i + 1) (drop i steps)) (ap (step_lines (i + 1)) (drop_step steps i d lt)) so
