-- The lines of `sign`, one after the other.
use Rattle.std.proofs.Common.{◌≡◌, ℕ, ◌+◌, ◌<◌, ◌≤◌, List, [], ◌∷◌, ◌++◌, length, refl, sym, ap, ◌∙◌, subst, arith, append_assoc, append-nil}
use Rattle.usp_base.specs.declared.fault.Status.TheVariants.{Done, Refused}
use Rattle.usp_jws.specs.Keys.{KeyValue}
use Rattle.usp_tool.proofs.Texts.{made, same_made}
use Rattle.usp_base.specs.Lines.{lines_of}
use Rattle.usp_tool.specs.Outcome.{Outcome, empty, line_refusal}
use Rattle.usp_tool.specs.Sign.{SignsAll, done, signs, stops}
use Rattle.usp_tool.specs.Sign.Line.{SignsLine}

-- The lines so far: what the rest gives is put behind their text
pub record Signed (attribute : List ℕ) (key : KeyValue) (input : List ℕ) (number : ℕ) (text rest : List ℕ) : Type 0 where
  pub carries : (more : Outcome) → SignsAll attribute key number (lines_of rest) more → SignsAll attribute key 1 (lines_of input) (made (text ++ more.text) more.status)
  pub count : number + length rest ≤ length input + 1

pub signed_first : (attribute : List ℕ) (key : KeyValue) (input text : List ℕ) → text ≡ [] → Signed attribute key input 1 text input
signed_first attribute key input text none =
    record { carries = λ more all. subst (λ t. SignsAll attribute key 1 (lines_of input) (made (t ++ more.text) more.status)) (sym none) all; count = omega arith }

pub signed_more : (attribute : List ℕ) (key : KeyValue) (input : List ℕ) (number : ℕ) (text rest first more signed whole : List ℕ)
    → Signed attribute key input number text rest → lines_of rest ≡ first ∷ lines_of more → length more < length rest → SignsLine attribute key first signed
    → whole ≡ (text ++ signed) ++ 10 ∷ [] → Signed attribute key input (number + 1) whole more
signed_more attribute key input number text rest first more signed whole k cut shorter s is =
    record {
      carries = λ o all.
          let here : SignsAll attribute key number (first ∷ lines_of more) (made (signed ++ (10 ∷ o.text)) o.status) =
          signs number first signed (lines_of more) (made (signed ++ (10 ∷ o.text)) o.status) o s all refl in
          let there = k.carries (made (signed ++ (10 ∷ o.text)) o.status)
          (subst (λ ls. SignsAll attribute key number ls (made (signed ++ (10 ∷ o.text)) o.status)) (sym cut) here) in
          let same : text ++ (signed ++ (10 ∷ o.text)) ≡ whole ++ o.text =
          sym (append_assoc text signed (10 ∷ o.text)) ∙ (sym (append_assoc (text ++ signed) (10 ∷ []) o.text) ∙ ap (λ t. t ++ o.text) (sym is)) in
          subst (λ p. SignsAll attribute key 1 (lines_of input) p) (same_made _ _ _ _ same refl) there;
      count = omega (arith, k.count, shorter);
    }

pub signed_refused : (attribute : List ℕ) (key : KeyValue) (input : List ℕ) (number : ℕ) (text rest first more whole : List ℕ)
    → Signed attribute key input number text rest → lines_of rest ≡ first ∷ lines_of more → ((signed : List ℕ) → SignsLine attribute key first signed → ⊥)
    → whole ≡ text ++ (line_refusal number).text → SignsAll attribute key 1 (lines_of input) (made whole Refused)
signed_refused attribute key input number text rest first more whole k cut none is =
    let here : SignsAll attribute key number (first ∷ lines_of more) (line_refusal number) = stops number first (lines_of more) (line_refusal number) none refl in
    let there = k.carries (line_refusal number) (subst (λ ls. SignsAll attribute key number ls (line_refusal number)) (sym cut) here) in
    subst (λ p. SignsAll attribute key 1 (lines_of input) p) (same_made _ _ _ _ (sym is) refl) there

pub signed_done : (attribute : List ℕ) (key : KeyValue) (input : List ℕ) (number : ℕ) (text rest : List ℕ) → Signed attribute key input number text rest → rest ≡ []
    → SignsAll attribute key 1 (lines_of input) (made text Done)
signed_done attribute key input number text rest k none =
    let here : SignsAll attribute key number (lines_of rest) empty =
    subst (λ r. SignsAll attribute key number (lines_of r) empty) (sym none) (done number empty refl) in
    subst (λ p. SignsAll attribute key 1 (lines_of input) p) (same_made _ _ _ _ (append-nil text) refl) (k.carries empty here)
