-- Removing dot segments by a stack of segments is removing them as the standard tells it.
use Rattle.std.proofs.Common.{◌≡◌, ℕ, Bool, true, false, cond, not, eqb, ◌&&◌, ◌||◌, List, [], ◌∷◌, ◌++◌, reverse, refl, sym, ap, subst, ◌∙◌, append_assoc, arith}
use Rattle.std.specs.List.{list_all}
use Rattle.std.proofs.lemmas.Bool.Decides.{nat_tests}
use Rattle.std.proofs.lemmas.List.{append-nil, reverse-append}
use Rattle.usp_uri.specs.Letters.{is_slash}
use Rattle.usp_uri.specs.Normal.{pieces, onto_first, segments_of, path_from, resolved, next_kept, without_last, is_single_dot, is_double_dot, remove_dot_segments}
use Rattle.usp_uri.specs.DotSegments.{has_no_slash, IsWithoutLast, segment, whole, is_at_slash, behind_slash, begins_with_dots, RemovesDots, b_self, b_end, c_parent, c_end, e_segment, done}
use Rattle.usp_uri.proofs.ComponentLaws.{both}
use Rattle.usp_uri.proofs.EscapeLaws.{all_pass}
use Rattle.usp_uri.proofs.DotLaws.{pieces-free}

-- ---- dots

swap : (a b : ℕ) → eqb a b ≡ eqb b a
swap a b = grind (arith, nat_tests)

no_slash : (c : ℕ) → not (is_slash c) ≡ true → eqb 47 c ≡ false
no_slash c e = grind (arith, nat_tests)

slash_no_dot : (c : ℕ) → is_slash c ≡ true → (eqb 46 c ≡ false) × (eqb c 46 ≡ false)
slash_no_dot c e = (grind (arith, nat_tests), grind (arith, nat_tests))

pub single_is : (s : List ℕ) → is_single_dot s ≡ true → s ≡ 46 ∷ []
single_is [] e = absurd cc
single_is (c ∷ []) e = ap (λ n. n ∷ []) (dot_is c (both (eqb c 46) true e).0)
  where
    dot_is : (c : ℕ) → eqb c 46 ≡ true → c ≡ 46
    dot_is c e = grind (arith, nat_tests)
single_is (c ∷ d ∷ s) e = absurd (cc (both (eqb c 46) false e).1)

pub double_is : (s : List ℕ) → is_double_dot s ≡ true → s ≡ 46 ∷ 46 ∷ []
double_is [] e = absurd cc
double_is (c ∷ []) e = absurd (cc (both (eqb c 46) false e).1)
double_is (c ∷ d ∷ []) e =
    let first = both (eqb c 46) (eqb d 46 && true) e in
    ap (λ n. n ∷ d ∷ []) (dot_is c first.0) ∙ ap (λ n. 46 ∷ n ∷ []) (dot_is d (both (eqb d 46) true first.1).0)
  where
    dot_is : (c : ℕ) → eqb c 46 ≡ true → c ≡ 46
    dot_is c e = grind (arith, nat_tests)
double_is (c ∷ d ∷ f ∷ s) e = absurd (cc (both (eqb d 46) false (both (eqb c 46) (eqb d 46 && false) e).1).1)

and_true : (a : Bool) → (a && true) ≡ a
and_true true = refl
and_true false = refl

and_false : (a : Bool) → (a && false) ≡ false
and_false true = refl
and_false false = refl

never_both : (a b : Bool) → (a && (b && true)) ≡ false → a ≡ true → b ≡ true → ⊥
never_both true true h e f = absurd cc
never_both true false h e f = absurd cc
never_both false b h e f = absurd cc

-- a segment that is no dot segment: none of the steps A to D fits
plain_input : (s rest : List ℕ) → is_single_dot s ≡ false → is_double_dot s ≡ false → has_no_slash s ≡ true → is_at_slash rest ≡ true → begins_with_dots (47 ∷ (s ++ rest)) ≡ false
plain_input [] [] single double free slash = refl
plain_input [] (c ∷ rest) single double free slash = let dots = slash_no_dot c slash in rw (dots.0, dots.1) refl
plain_input (c ∷ []) rest single double free slash =
    let no_dot : eqb c 46 ≡ false = sym (and_true (eqb c 46)) ∙ single in
    rw (swap 46 c, no_dot) refl
plain_input (c ∷ d ∷ []) rest single double free slash =
    let free_d = no_slash d (both (not (is_slash d)) true (both (not (is_slash c)) (not (is_slash d) && true) free).1).0 in
    by_dots (eqb c 46) (eqb d 46) refl refl free_d double
  where
    by_dots : (a b : Bool) → eqb c 46 ≡ a → eqb d 46 ≡ b → eqb 47 d ≡ false → (eqb c 46 && (eqb d 46 && true)) ≡ false → begins_with_dots (47 ∷ c ∷ d ∷ rest) ≡ false
    by_dots true true e f g h = absurd (never_both (eqb c 46) (eqb d 46) h e f)
    by_dots true false e f g h = rw (swap 46 c, swap 46 d, e, f, g) refl
    by_dots false b e f g h = rw (swap 46 c, e) refl
plain_input (c ∷ d ∷ f ∷ s) rest single double free slash =
    let first = both (not (is_slash c)) (not (is_slash d) && (not (is_slash f) && has_no_slash s)) free in
    let second = both (not (is_slash d)) (not (is_slash f) && has_no_slash s) first.1 in
    let third = both (not (is_slash f)) (has_no_slash s) second.1 in
    by_dots (eqb c 46) (eqb d 46) refl refl (no_slash d second.0) (no_slash f third.0)
  where
    by_dots : (a b : Bool) → eqb c 46 ≡ a → eqb d 46 ≡ b → eqb 47 d ≡ false → eqb 47 f ≡ false → begins_with_dots (47 ∷ c ∷ d ∷ f ∷ (s ++ rest)) ≡ false
    by_dots true true e g h i = rw (swap 46 c, swap 46 d, e, g, h, i) refl
    by_dots true false e g h i = rw (swap 46 c, swap 46 d, e, g, h) refl
    by_dots false b e g h i = rw (swap 46 c, e) refl

-- ---- the output buffer

path_from-last : (segments : List (List ℕ)) (s : List ℕ) → path_from (segments ++ s ∷ []) ≡ path_from segments ++ (47 ∷ s)
path_from-last [] s = ap (λ (t : List ℕ). 47 ∷ t) (append-nil s)
path_from-last (t ∷ ts) s = ap (λ (x : List ℕ). 47 ∷ t ++ x) (path_from-last ts s) ∙ sym (append_assoc (47 ∷ t) (path_from ts) (47 ∷ s))

pub output_more : (kept : List (List ℕ)) (s : List ℕ) → path_from (reverse kept) ++ (47 ∷ s) ≡ path_from (reverse (s ∷ kept))
output_more kept s = sym (path_from-last (reverse kept) s) ∙ ap path_from (sym (reverse-append (s ∷ []) kept))

output_less : (kept : List (List ℕ)) → list_all has_no_slash kept ≡ true → IsWithoutLast (path_from (reverse kept)) (path_from (reverse (without_last kept)))
output_less [] e = whole [] refl
output_less (s ∷ kept) e =
    let first = both (has_no_slash s) (list_all has_no_slash kept) e in
    subst (λ (t : List ℕ). IsWithoutLast t (path_from (reverse kept))) (output_more kept s) (segment (path_from (reverse kept)) s first.0)

pub less_free : (kept : List (List ℕ)) → list_all has_no_slash kept ≡ true → list_all has_no_slash (without_last kept) ≡ true
less_free [] e = refl
less_free (s ∷ kept) e = (both (has_no_slash s) (list_all has_no_slash kept) e).1

-- one segment goes to the output
moves : (kept : List (List ℕ)) (s rest result : List ℕ) → is_single_dot s ≡ false → is_double_dot s ≡ false → has_no_slash s ≡ true → is_at_slash rest ≡ true
    → RemovesDots rest (path_from (reverse (s ∷ kept))) result → RemovesDots (47 ∷ (s ++ rest)) (path_from (reverse kept)) result
moves kept s rest result single double free slash more =
    e_segment (47 ∷ s) rest (path_from (reverse kept)) result (plain_input s rest single double free slash) (behind_slash s rest free slash)
    (subst (λ (t : List ℕ). RemovesDots rest t result) (sym (output_more kept s)) more)

-- a '/' alone ends the path with an empty segment
ends : (kept : List (List ℕ)) → RemovesDots (47 ∷ []) (path_from (reverse kept)) (path_from (reverse ([] ∷ kept)))
ends kept = moves kept [] [] (path_from (reverse ([] ∷ kept))) refl refl refl refl (done (path_from (reverse ([] ∷ kept))))

last_case : (a b : Bool) (kept : List (List ℕ)) (s : List ℕ) → is_single_dot s ≡ a → is_double_dot s ≡ b → has_no_slash s ≡ true → list_all has_no_slash kept ≡ true
    → RemovesDots (47 ∷ (s ++ [])) (path_from (reverse kept)) (path_from (reverse (cond (a || b) ([] ∷ cond a kept (cond b (without_last kept) (s ∷ kept))) (cond a kept (cond b (without_last kept) (s ∷ kept))))))
last_case true b kept s single double free all =
    subst (λ (t : List ℕ). RemovesDots (47 ∷ (t ++ [])) (path_from (reverse kept)) (path_from (reverse ([] ∷ kept)))) (sym (single_is s single)) (b_end (path_from (reverse kept)) (path_from (reverse ([] ∷ kept))) (ends kept))
last_case false true kept s single double free all =
    subst (λ (t : List ℕ). RemovesDots (47 ∷ (t ++ [])) (path_from (reverse kept)) (path_from (reverse ([] ∷ without_last kept)))) (sym (double_is s double))
    (c_end (path_from (reverse kept)) (path_from (reverse (without_last kept))) (path_from (reverse ([] ∷ without_last kept))) (output_less kept all) (ends (without_last kept)))
last_case false false kept s single double free all = moves kept s [] (path_from (reverse (s ∷ kept))) single double free refl (done (path_from (reverse (s ∷ kept))))

next_case : (a b : Bool) (kept : List (List ℕ)) (s more result : List ℕ) → is_single_dot s ≡ a → is_double_dot s ≡ b → has_no_slash s ≡ true → list_all has_no_slash kept ≡ true
    → RemovesDots (47 ∷ more) (path_from (reverse (cond a kept (cond b (without_last kept) (s ∷ kept))))) result → RemovesDots (47 ∷ (s ++ (47 ∷ more))) (path_from (reverse kept)) result
next_case true b kept s more result single double free all go =
    subst (λ (t : List ℕ). RemovesDots (47 ∷ (t ++ (47 ∷ more))) (path_from (reverse kept)) result) (sym (single_is s single)) (b_self more (path_from (reverse kept)) result go)
next_case false true kept s more result single double free all go =
    subst (λ (t : List ℕ). RemovesDots (47 ∷ (t ++ (47 ∷ more))) (path_from (reverse kept)) result) (sym (double_is s double))
    (c_parent more (path_from (reverse kept)) (path_from (reverse (without_last kept))) result (output_less kept all) go)
next_case false false kept s more result single double free all go = moves kept s (47 ∷ more) result single double free refl go

kept_free : (a b : Bool) (kept : List (List ℕ)) (s : List ℕ) → has_no_slash s ≡ true → list_all has_no_slash kept ≡ true → list_all has_no_slash (cond a kept (cond b (without_last kept) (s ∷ kept))) ≡ true
kept_free true b kept s free all = all
kept_free false true kept s free all = less_free kept all
kept_free false false kept s free all = all_pass (has_no_slash s) (list_all has_no_slash kept) free all

removed_from : (kept segments : List (List ℕ)) → list_all has_no_slash kept ≡ true → list_all has_no_slash segments ≡ true → RemovesDots (path_from segments) (path_from (reverse kept)) (path_from (resolved kept segments))
removed_from kept [] all free = done (path_from (reverse kept))
removed_from kept (s ∷ []) all free = last_case (is_single_dot s) (is_double_dot s) kept s refl refl (both (has_no_slash s) true free).0 all
removed_from kept (s ∷ next ∷ others) all free =
    let first = both (has_no_slash s) (list_all has_no_slash (next ∷ others)) free in
    next_case (is_single_dot s) (is_double_dot s) kept s (next ++ path_from others) (path_from (resolved (next_kept kept s) (next ∷ others))) refl refl first.0 all
    (removed_from (next_kept kept s) (next ∷ others) (kept_free (is_single_dot s) (is_double_dot s) kept s first.0 all) first.1)

-- ---- the segments of a path, each behind a '/', are the path

onto_whole : (segments : List (List ℕ)) (c : ℕ) (rest : List ℕ) → path_from segments ≡ 47 ∷ rest → path_from (onto_first c segments) ≡ 47 ∷ c ∷ rest
onto_whole [] c rest e = absurd cc
onto_whole (s ∷ ss) c rest e = let same : s ++ path_from ss ≡ rest = cc in ap (λ (t : List ℕ). 47 ∷ c ∷ t) same

pieces_case : (b : Bool) (c : ℕ) (rest : List ℕ) → is_slash c ≡ b → path_from (pieces rest) ≡ 47 ∷ rest → path_from (cond b ([] ∷ pieces rest) (onto_first c (pieces rest))) ≡ 47 ∷ c ∷ rest
pieces_case true c rest is e = ap (λ (t : List ℕ). 47 ∷ t) e ∙ ap (λ n. 47 ∷ n ∷ rest) (sym (slash_is c is))
  where
    slash_is : (c : ℕ) → is_slash c ≡ true → c ≡ 47
    slash_is c e = grind (arith, nat_tests)
pieces_case false c rest is e = onto_whole (pieces rest) c rest e

pieces_whole : (text : List ℕ) → path_from (pieces text) ≡ 47 ∷ text
pieces_whole [] = refl
pieces_whole (c ∷ rest) = pieces_case (is_slash c) c rest refl (pieces_whole rest)

pub path_whole : (path : List ℕ) → is_at_slash path ≡ true → path_from (segments_of path) ≡ path
path_whole [] slash = refl
path_whole (c ∷ rest) slash = pieces_whole rest ∙ ap (λ n. n ∷ rest) (sym (slash_is c slash))
  where
    slash_is : (c : ℕ) → is_slash c ≡ true → c ≡ 47
    slash_is c e = grind (arith, nat_tests)

segments_free : (path : List ℕ) → list_all has_no_slash (segments_of path) ≡ true
segments_free [] = refl
segments_free (c ∷ rest) = pieces-free rest

-- What is removed is what the standard removes.
pub removed_as_told : (path : List ℕ) → is_at_slash path ≡ true → RemovesDots path [] (remove_dot_segments path)
removed_as_told path slash = subst (λ (t : List ℕ). RemovesDots t [] (remove_dot_segments path)) (path_whole path slash) (removed_from [] (segments_of path) refl (segments_free path))
