-- What the loops over workers do.
use Rattle.std.proofs.Common.{◌≡◌, refl, sym, ap, ◌∙◌, subst, ℕ, zero, suc, ◌+◌, ◌<◌, List, [], ◌∷◌, ◌++◌, length, map, take, drop, set, Option, Some, arith}
use Rattle.std.specs.Prelude.{All, slice_index_or}
use Rattle.std.proofs.lemmas.List.Elements.{All-map}
use Rattle.usp_shared.specs.Seats.{Seated}

-- ---- a loop that changes each element by f

pub at_rest : {W : Type 0} (f : W → W) (xs : List W) (i : ℕ) (d : W) → i < length xs → slice_index_or (map f (take i xs) ++ drop i xs) i d ≡ slice_index_or xs i d
at_rest f [] i d lt = absurd (omega (arith, lt))
at_rest f (x ∷ xs) zero d lt = refl
at_rest f (x ∷ xs) (suc i) d lt = at_rest f xs i d (omega (arith, lt))

set_next : {W : Type 0} (f : W → W) (xs : List W) (i : ℕ) (d : W) → i < length xs
    → set (map f (take i xs) ++ drop i xs) i (f (slice_index_or xs i d)) ≡ map f (take (suc i) xs) ++ drop (suc i) xs
set_next f [] i d lt = absurd (omega (arith, lt))
set_next f (x ∷ xs) zero d lt = refl
set_next f (x ∷ xs) (suc i) d lt = ap (λ l. f x ∷ l) (set_next f xs i d (omega (arith, lt)))

-- the element at the index is as it was
pub same_at : {W : Type 0} (f : W → W) (xs now : List W) (i : ℕ) (d : W) → i < length xs → now ≡ map f (take i xs) ++ drop i xs → slice_index_or now i d ≡ slice_index_or xs i d
same_at f xs now i d lt is = ap (λ l. slice_index_or l i d) is ∙ at_rest f xs i d lt

pub rest_next : {W : Type 0} (f : W → W) (xs now : List W) (i : ℕ) (d w : W) → i < length xs → now ≡ map f (take i xs) ++ drop i xs → w ≡ f (slice_index_or now i d)
    → set now i w ≡ map f (take (i + 1) xs) ++ drop (i + 1) xs
rest_next f xs now i d w lt is made =
    (λ j. set (is j) i ((made ∙ ap f (same_at f xs now i d lt is)) j))
    ∙ subst (λ n. set (map f (take i xs) ++ drop i xs) i (f (slice_index_or xs i d)) ≡ map f (take n xs) ++ drop n xs) (let e : suc i ≡ i + 1 = omega arith in e) (set_next f xs i d lt)

-- ---- a loop after which each element has P, and shows the same

pub cleared_next : {W : Type 0} (P : W → Type 0) (now : List W) (i : ℕ) (w : W) → i < length now → ((k : ℕ) (d : W) → k < i → P (slice_index_or now k d)) → P w
    → (k : ℕ) (d : W) → k < i + 1 → P (slice_index_or (set now i w) k d)
cleared_next P [] i w lt all is k d below = absurd (omega (arith, lt))
cleared_next P (x ∷ xs) zero w lt all is zero d below = is
cleared_next P (x ∷ xs) zero w lt all is (suc k) d below = absurd (omega (arith, below))
cleared_next P (x ∷ xs) (suc i) w lt all is zero d below = all zero d (omega arith)
cleared_next P (x ∷ xs) (suc i) w lt all is (suc k) d below =
    cleared_next P xs i w (omega (arith, lt)) (λ k d le. all (suc k) d (omega (arith, le))) is k d (omega (arith, below))

pub shown_next : {W V : Type 0} (f : W → V) (now : List W) (i : ℕ) (w d : W) → f w ≡ f (slice_index_or now i d) → map f (set now i w) ≡ map f now
shown_next f [] i w d is = refl
shown_next f (x ∷ xs) zero w d is = ap (λ v. v ∷ map f xs) is
shown_next f (x ∷ xs) (suc i) w d is = ap (λ l. f x ∷ l) (shown_next f xs i w d is)

-- ---- the seat that gives

pub kept_next : (a s n : Seated) (m : ℕ) → s ≡ record a { left = s.left } → n ≡ record s { left = m } → n ≡ record a { left = n.left }
kept_next a s n m kept is =
    is ∙ (ap (λ (t : Seated). record t { left = m }) kept ∙ ap (λ (k : ℕ). record a { left = k }) (sym (ap (λ (t : Seated). t.left) is)))

pub given_next : (a s : Seated) (part : ℕ) (to : Option Seated) → s ≡ record a { left = s.left } → to ≡ Some (record s { places = []; left = part }) → to ≡ Some (record a { places = []; left = part })
given_next a s part to kept is = is ∙ ap (λ (t : Seated). Some (record t { places = []; left = part })) kept

-- ---- what is said of all elements that f made

pub all_made : {W : Type 0} (P : W → Type 0) (f : W → W) (xs now : List W) → now ≡ map f xs → ((w : W) → P (f w)) → All P now
all_made P f xs now is each = subst (All P) (sym is) (All-map P f xs (λ k d lt. each (slice_index_or xs k d)))
