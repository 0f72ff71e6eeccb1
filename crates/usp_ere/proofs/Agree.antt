-- A text has no fault exactly where it is read.
use Rattle.std.proofs.Common.{◌≡◌, ℕ, List, [], ◌∷◌, Bool, true, false, Option, Some, None, Result, Ok, Err, if◌then◌else◌, nat_le, refl, subst, length, map}
use Rattle.usp_ere.specs.declared.fault.EreFault.{EreFault}
use Rattle.usp_ere.specs.declared.fault.EreFault.TheVariants.{Undefined}
use Rattle.usp_ere.specs.Expression.{Expr}
use Rattle.usp_ere.specs.Tokens.{Token, atom, anchor, times, brace, opening, closing, bar, bad, Placed, tokens_of}
use Rattle.usp_ere.specs.Faults.{repeatable, Standing, are_counts, behind_counts, behind_token, fault_at_end, or_behind, fault_in, fault_of, first_of_both, first_odd, place_of}
use Rattle.usp_ere.specs.Grammar.{Spells}
use Rattle.usp_ere.specs.Reading.{no_piece, open_piece, done_piece, before_of, Line, line, fresh, pushed, State, state, repeat_last, step, whole, on, reading}
use Rattle.usp_ere.proofs.Sound.{spelled_of}

abbrev pub StepAgrees : Result Standing EreFault → Option State → Type 0
StepAgrees (Ok (b, n)) (Some (state l around)) = (before_of l ≡ b) × (length around ≡ n)
StepAgrees (Err f) None = Unit {0}
StepAgrees r o = ⊥

counts_agree : (at : ℕ) (c : Bool) (branches : Option Expr) (pieces : List Expr) (e : Expr) (least : ℕ) (most : Option ℕ) (around : List Line) → StepAgrees (behind_counts at c (length around)) (repeat_last c branches pieces e least most around)
counts_agree at true branches pieces e least most around = (refl, refl)
counts_agree at false branches pieces e least most around = tt

push_before : (l : Line) (e : Expr) → before_of (pushed l e) ≡ repeatable
push_before (line b p la) e = refl

pub step_agrees : (at : ℕ) (l : Line) (around : List Line) (t : Token) → StepAgrees (behind_token at (before_of l) (length around) t) (step (state l around) t)
step_agrees at (line b p la) around (atom e bytes) = (refl, refl)
step_agrees at (line b p la) around (anchor e) = (refl, refl)
step_agrees at (line b p no_piece) around (times least most bytes) = tt
step_agrees at (line b p (open_piece e)) around (times least most bytes) = counts_agree at (are_counts least most) b p e least most around
step_agrees at (line b p (done_piece e)) around (times least most bytes) = tt
step_agrees at (line b p no_piece) around brace = tt
step_agrees at (line b p (open_piece e)) around brace = tt
step_agrees at (line b p (done_piece e)) around brace = tt
step_agrees at (line b p la) around opening = (refl, refl)
step_agrees at (line b p no_piece) [] closing = (refl, refl)
step_agrees at (line b p (open_piece e)) [] closing = (refl, refl)
step_agrees at (line b p (done_piece e)) [] closing = (refl, refl)
step_agrees at (line b p no_piece) (m ∷ around) closing = tt
step_agrees at (line b p (open_piece e)) (line c q lm ∷ around) closing = (refl, refl)
step_agrees at (line b p (done_piece e)) (line c q lm ∷ around) closing = (refl, refl)
step_agrees at (line b p no_piece) around bar = tt
step_agrees at (line b p (open_piece e)) around bar = (refl, refl)
step_agrees at (line b p (done_piece e)) around bar = (refl, refl)
step_agrees at (line b p la) around (bad f) = tt

abbrev pub Agree : Option EreFault → Option Expr → Type 0
Agree None (Some e) = Unit {0}
Agree (Some f) None = Unit {0}
Agree o p = ⊥

end_agrees : (l : Line) (around : List Line) (end : ℕ) → Agree (fault_at_end (before_of l) (length around) end) (whole (state l around))
end_agrees (line b p no_piece) [] end = tt
end_agrees (line b p (open_piece e)) [] end = tt
end_agrees (line b p (done_piece e)) [] end = tt
end_agrees l (m ∷ around) end = tt

abbrev tokens : List Placed → List Token
tokens ps = map (λ p. p.token) ps

on_agrees : (r : Result Standing EreFault) (o : Option State) (end : ℕ) (ps : List Placed) → StepAgrees r o → ((l : Line) (around : List Line) → Agree (fault_in (before_of l) (length around) end ps) (reading (state l around) (tokens ps))) → Agree (or_behind r (λ b n. fault_in b n end ps)) (on o (λ next. reading next (tokens ps)))
on_agrees (Ok (b, n)) (Some (state l around)) end ps h more =
    subst (λ x. Agree (fault_in x n end ps) (reading (state l around) (tokens ps))) h.0
    (subst (λ k. Agree (fault_in (before_of l) k end ps) (reading (state l around) (tokens ps))) h.1 (more l around))
on_agrees (Ok (b, n)) None end ps h more = absurd h
on_agrees (Err f) None end ps h more = tt
on_agrees (Err f) (Some s) end ps h more = absurd h

pub agrees : (ps : List Placed) (end : ℕ) (l : Line) (around : List Line) → Agree (fault_in (before_of l) (length around) end ps) (reading (state l around) (tokens ps))
agrees [] end l around = end_agrees l around end
agrees (p ∷ ps) end l around =
    on_agrees (behind_token p.at (before_of l) (length around) p.token) (step (state l around) p.token) end ps (step_agrees p.at l around p.token) (agrees ps end)

no_fault_read : (o : Option EreFault) (r : Option Expr) → Agree o r → o ≡ None → (e : Expr) × (r ≡ Some e)
no_fault_read None (Some e) h eq = (e, refl)
no_fault_read None None h eq = absurd h
no_fault_read (Some f) r h eq = cc

some_chosen : (c : Bool) (f g : EreFault) → (if c then Some f else Some g) ≡ None → Some f ≡ None
some_chosen true f g eq = eq
some_chosen false f g eq = cc

first_none : (o : Option EreFault) (p : Option ℕ) → first_of_both o p ≡ None → o ≡ None
first_none None None eq = refl
first_none (Some f) None eq = eq
first_none None (Some p) eq = refl
first_none (Some f) (Some p) eq = some_chosen (nat_le (place_of f) p) f (Undefined p) eq

-- a text without a fault spells an expression
pub spelled_without_fault : (text : List ℕ) → fault_of text ≡ None → (e : Expr) × Spells e text
spelled_without_fault text eq =
    let none = first_none _ (first_odd text) eq in
    let r = no_fault_read _ _ (agrees (tokens_of text) (length text) (fresh None) []) none in
    (r.0, (eq, spelled_of r.0 (tokens (tokens_of text)) r.1))
