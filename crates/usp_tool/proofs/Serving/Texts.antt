-- Texts of an edge, piece by piece.
use Rattle.std.proofs.Common.{◌≡◌, refl, sym, ap, ◌∙◌, subst, ℕ, zero, suc, ◌+◌, ◌<◌, List, [], ◌∷◌, ◌++◌, append_assoc, length, drop, map, arith}
use Rattle.std.specs.Prelude.{slice_index_or}
use Rattle.usp_edge.specs.declared.note.Note.{Note}
use Rattle.usp_tool.specs.Edge.Text.{note_line, note_lines, visit_lines, visits_lines, workers_lines}
use Rattle.usp_tool.specs.Edge.Desks.{Desk}
use Rattle.usp_tool.specs.declared.edge.visit.Visit.{Visit}

drop_suc : {A : Type 0} (xs : List A) (i : ℕ) (d : A) → i < length xs → drop i xs ≡ slice_index_or xs i d ∷ drop (suc i) xs
drop_suc [] i d lt = absurd (omega (arith, lt))
drop_suc (x ∷ xs) zero d lt = refl
drop_suc (x ∷ xs) (suc i) d lt = drop_suc xs i d (omega (arith, lt))

pub drop_step : {A : Type 0} (xs : List A) (i : ℕ) (d : A) → i < length xs → drop i xs ≡ slice_index_or xs i d ∷ drop (i + 1) xs
drop_step xs i d lt = subst (λ n. drop i xs ≡ slice_index_or xs i d ∷ drop n xs) (let e : suc i ≡ i + 1 = omega arith in e) (drop_suc xs i d lt)

-- one piece more is put, and the rest is left
pub goes_on : (text piece rest whole all : List ℕ) → all ≡ piece ++ rest → text ++ all ≡ whole → (text ++ piece) ++ rest ≡ whole
goes_on text piece rest whole all is so = append_assoc text piece rest ∙ (ap (λ (t : List ℕ). text ++ t) (sym is) ∙ so)

pub note_step : (worker connection : ℕ) (notes : List Note) (i : ℕ) (d : Note) (text whole : List ℕ) → i < length notes
    → text ++ note_lines worker connection (drop i notes) ≡ whole
    → (text ++ note_line worker connection (slice_index_or notes i d)) ++ note_lines worker connection (drop (i + 1) notes) ≡ whole
note_step worker connection notes i d text whole lt so =
    goes_on text (note_line worker connection (slice_index_or notes i d)) (note_lines worker connection (drop (i + 1) notes)) whole
    (note_lines worker connection (drop i notes)) (ap (note_lines worker connection) (drop_step notes i d lt)) so

pub visit_step : (worker : ℕ) (notes : List Note) (visits : List Visit) (i : ℕ) (d : Visit) (text whole : List ℕ) → i < length visits
    → text ++ visits_lines worker (i + 1) notes (drop i visits) ≡ whole
    → (text ++ visit_lines worker (i + 1) notes (slice_index_or visits i d)) ++ visits_lines worker (i + 1 + 1) (drop (slice_index_or visits i d).notes notes) (drop (i + 1) visits) ≡ whole
visit_step worker notes visits i d text whole lt so =
    goes_on text (visit_lines worker (i + 1) notes (slice_index_or visits i d))
    (visits_lines worker (i + 1 + 1) (drop (slice_index_or visits i d).notes notes) (drop (i + 1) visits)) whole
    (visits_lines worker (i + 1) notes (drop i visits)) (ap (visits_lines worker (i + 1) notes) (drop_step visits i d lt)) so

pub worker_step : {W : Type 0} (desk : W → Desk) (workers : List W) (i : ℕ) (d : W) (text whole : List ℕ) → i < length workers
    → text ++ workers_lines (i + 1) (map desk (drop i workers)) ≡ whole
    → (text ++ visits_lines (i + 1) 1 (desk (slice_index_or workers i d)).notes (desk (slice_index_or workers i d)).visits) ++ workers_lines (i + 1 + 1) (map desk (drop (i + 1) workers)) ≡ whole
worker_step desk workers i d text whole lt so =
    goes_on text (visits_lines (i + 1) 1 (desk (slice_index_or workers i d)).notes (desk (slice_index_or workers i d)).visits)
    (workers_lines (i + 1 + 1) (map desk (drop (i + 1) workers))) whole
    (workers_lines (i + 1) (map desk (drop i workers))) (ap (λ ws. workers_lines (i + 1) (map desk ws)) (drop_step workers i d lt)) so
