-- A path without dot segments stays as it is, and what the step makes has none.
use Rattle.std.proofs.Common.{◌≡◌, ℕ, Bool, true, false, cond, not, ◌&&◌, ◌||◌, List, [], ◌∷◌, ◌++◌, reverse, refl, sym, ap, ◌∙◌, append_assoc}
use Rattle.std.specs.List.{list_all}
use Rattle.std.proofs.lemmas.List.{append-nil, reverse-append}
use Rattle.std.proofs.lemmas.List.Folds.{list_all-append}
use Rattle.usp_uri.specs.Letters.{is_slash}
use Rattle.usp_uri.specs.Normal.{pieces, onto_first, segments_of, path_from, resolved, next_kept, at_the_end, without_last, is_single_dot, is_double_dot, remove_dot_segments}
use Rattle.usp_uri.proofs.DotLemmas.{pieces-cut}
use Rattle.usp_uri.proofs.GrammarLemmas.{is_free_of, begins_in, until-front, from_first-front}

abbrev pub is_plain : List ℕ → Bool
is_plain segment = not (is_single_dot segment || is_double_dot segment)

both : (a b : Bool) → (a && b) ≡ true → (a ≡ true) × (b ≡ true)
both true b e = (refl, e)
both false b e = absurd cc

not_either : (a b : Bool) → not (a || b) ≡ true → (a ≡ false) × (b ≡ false)
not_either false false e = (refl, refl)
not_either true b e = absurd cc
not_either false true e = absurd cc

path_begins : (segments : List (List ℕ)) → begins_in is_slash (path_from segments) ≡ true
path_begins [] = refl
path_begins (s ∷ ss) = refl

-- the segments of a path that is made of segments
pub segments_of-path_from : (segments : List (List ℕ)) → list_all (is_free_of is_slash) segments ≡ true → segments_of (path_from segments) ≡ segments
segments_of-path_from [] e = refl
segments_of-path_from (s ∷ ss) e =
    let parts = both _ _ e in
    let front = until-front is_slash s (path_from ss) parts.0 (path_begins ss) in
    let back = from_first-front is_slash s (path_from ss) parts.0 (path_begins ss) in
    rw (pieces-cut (s ++ path_from ss), front, back, segments_of-path_from ss parts.1) refl

kept_step : (a b : Bool) (kept : List (List ℕ)) (s : List ℕ) → a ≡ false → b ≡ false → cond a kept (cond b (without_last kept) (s ∷ kept)) ≡ s ∷ kept
kept_step false false kept s f g = refl
kept_step true b kept s f g = absurd cc
kept_step false true kept s f g = absurd cc

keeps : (kept : List (List ℕ)) (s : List ℕ) → is_plain s ≡ true → next_kept kept s ≡ s ∷ kept
keeps kept s e =
    let dots = not_either (is_single_dot s) (is_double_dot s) e in
    kept_step (is_single_dot s) (is_double_dot s) kept s dots.0 dots.1

end_step : (b : Bool) (kept : List (List ℕ)) → not b ≡ true → cond b ([] ∷ kept) kept ≡ kept
end_step false kept e = refl
end_step true kept e = absurd cc

ends : (kept : List (List ℕ)) (s : List ℕ) → is_plain s ≡ true → at_the_end kept s ≡ kept
ends kept s e = end_step (is_single_dot s || is_double_dot s) kept e

one_more : (s : List ℕ) (kept rest : List (List ℕ)) → reverse (s ∷ kept) ++ rest ≡ reverse kept ++ s ∷ rest
one_more s kept rest =
    ap (λ (t : List (List ℕ)). t ++ rest) (reverse-append (s ∷ []) kept) ∙ append_assoc (reverse kept) (s ∷ []) rest

-- plain segments are all kept
pub resolved-plain : (kept segments : List (List ℕ)) → list_all is_plain segments ≡ true → resolved kept segments ≡ reverse kept ++ segments
resolved-plain kept [] e = sym (append-nil (reverse kept))
resolved-plain kept (s ∷ []) e =
    let plain = (both _ _ e).0 in
    ap reverse (ap (λ (t : List (List ℕ)). at_the_end t s) (keeps kept s plain) ∙ ends (s ∷ kept) s plain) ∙ reverse-append (s ∷ []) kept
resolved-plain kept (s ∷ next ∷ others) e =
    let parts = both _ _ e in
    ap (λ (t : List (List ℕ)). resolved t (next ∷ others)) (keeps kept s parts.0) ∙ resolved-plain (s ∷ kept) (next ∷ others) parts.1 ∙ one_more s kept (next ∷ others)

-- ---- what is kept is plain, and free of '/'

abbrev pub is_clean : List ℕ → Bool
is_clean segment = is_plain segment && is_free_of is_slash segment

all_reversed : (xs : List (List ℕ)) → list_all is_clean xs ≡ true → list_all is_clean (reverse xs) ≡ true
all_reversed [] e = refl
all_reversed (x ∷ xs) e =
    let parts = both (is_clean x) (list_all is_clean xs) e in
    ap (list_all is_clean) (reverse-append (x ∷ []) xs) ∙ list_all-append is_clean (reverse xs) (x ∷ []) ∙ rw (all_reversed xs parts.1, parts.0) refl

clean_step : (a b : Bool) (kept : List (List ℕ)) (s : List ℕ) → is_single_dot s ≡ a → is_double_dot s ≡ b → is_free_of is_slash s ≡ true → list_all is_clean kept ≡ true
    → list_all is_clean (cond a kept (cond b (without_last kept) (s ∷ kept))) ≡ true
clean_step true b kept s f g free e = e
clean_step false true [] s f g free e = refl
clean_step false true (last ∷ before) s f g free e = (both _ _ e).1
clean_step false false kept s f g free e = rw (f, g, free, e) refl

next_clean : (kept : List (List ℕ)) (s : List ℕ) → is_free_of is_slash s ≡ true → list_all is_clean kept ≡ true → list_all is_clean (next_kept kept s) ≡ true
next_clean kept s free e = clean_step (is_single_dot s) (is_double_dot s) kept s refl refl free e

end_clean : (b : Bool) (kept : List (List ℕ)) → list_all is_clean kept ≡ true → list_all is_clean (cond b ([] ∷ kept) kept) ≡ true
end_clean true kept e = e
end_clean false kept e = e

pub resolved-clean : (kept segments : List (List ℕ)) → list_all is_clean kept ≡ true → list_all (is_free_of is_slash) segments ≡ true → list_all is_clean (resolved kept segments) ≡ true
resolved-clean kept [] e free = all_reversed kept e
resolved-clean kept (s ∷ []) e free =
    all_reversed (at_the_end (next_kept kept s) s) (end_clean (is_single_dot s || is_double_dot s) (next_kept kept s) (next_clean kept s (both _ _ free).0 e))
resolved-clean kept (s ∷ next ∷ others) e free =
    let parts = both _ _ free in
    resolved-clean (next_kept kept s) (next ∷ others) (next_clean kept s parts.0 e) parts.1

-- ---- the pieces of a text are free of '/'

onto_free : (b : Bool) (c : ℕ) (rest : List ℕ) → is_slash c ≡ b → list_all (is_free_of is_slash) (pieces rest) ≡ true
    → list_all (is_free_of is_slash) (cond b ([] ∷ pieces rest) (onto_first c (pieces rest))) ≡ true
onto_free true c rest is e = e
onto_free false c rest is e = onto (pieces rest) e
  where
    onto : (ss : List (List ℕ)) → list_all (is_free_of is_slash) ss ≡ true → list_all (is_free_of is_slash) (onto_first c ss) ≡ true
    onto [] e = rw is refl
    onto (s ∷ ss) e = rw is e

pub pieces-free : (text : List ℕ) → list_all (is_free_of is_slash) (pieces text) ≡ true
pieces-free [] = refl
pieces-free (c ∷ rest) = onto_free (is_slash c) c rest refl (pieces-free rest)

segments-free : (path : List ℕ) → list_all (is_free_of is_slash) (segments_of path) ≡ true
segments-free [] = refl
segments-free (slash ∷ rest) = pieces-free rest

parts_clean : (xs : List (List ℕ)) → list_all is_clean xs ≡ true → (list_all is_plain xs ≡ true) × (list_all (is_free_of is_slash) xs ≡ true)
parts_clean [] e = (refl, refl)
parts_clean (x ∷ xs) e =
    let parts = both (is_clean x) (list_all is_clean xs) e in
    let this = both (is_plain x) (is_free_of is_slash x) parts.0 in
    let others = parts_clean xs parts.1 in
    (rw (this.0, others.0) refl, rw (this.1, others.1) refl)

-- Removing the dot segments twice is removing them once.
pub remove_dot_segments-twice : (path : List ℕ) → remove_dot_segments (remove_dot_segments path) ≡ remove_dot_segments path
remove_dot_segments-twice path =
    let kept = resolved [] (segments_of path) in
    let clean = parts_clean kept (resolved-clean [] (segments_of path) refl (segments-free path)) in
    ap (λ (t : List (List ℕ)). path_from (resolved [] t)) (segments_of-path_from kept clean.1) ∙ ap path_from (resolved-plain [] kept clean.0)
