-- The steps of RFC 3986 section 5.2.4 lead to one result only: that of the stack of segments.
use Rattle.std.proofs.Common.{◌≡◌, ℕ, Bool, true, false, not, List, [], ◌∷◌, ◌++◌, reverse, refl, sym, ap, subst, ◌∙◌, arith}
use Rattle.std.specs.List.{list_all}
use Rattle.std.proofs.lemmas.Bool.Decides.{nat_tests}
use Rattle.std.proofs.lemmas.List.{append-nil}
use Rattle.usp_uri.specs.Letters.{is_slash}
use Rattle.usp_uri.specs.Normal.{segments_of, path_from, resolved, without_last, is_single_dot, is_double_dot, remove_dot_segments}
use Rattle.usp_uri.specs.DotSegments.{has_no_slash, IsWithoutLast, segment, whole, is_at_slash, behind_slash, bare, begins_with_dots, RemovesDots, a_parent, a_self, b_self, b_end, c_parent, c_end, d_self, d_parent, e_segment, done}
use Rattle.usp_uri.proofs.ComponentLaws.{both}
use Rattle.usp_uri.proofs.EscapeLaws.{all_pass}
use Rattle.usp_uri.proofs.DotLemmas.{pieces-cut, goes_on}
use Rattle.usp_uri.proofs.GrammarLemmas.{begins_in, until-front, from_first-front}
use Rattle.usp_uri.proofs.StandardLaws.{output_more, single_is, double_is, less_free}

slash_is : (c : ℕ) → is_slash c ≡ true → c ≡ 47
slash_is c e = grind (arith, nat_tests)

never : (c : ℕ) → is_slash c ≡ true → not (is_slash c) ≡ true → ⊥
never c e f = grind (arith, nat_tests)

-- ---- the last segment of a buffer

slashed : (front s : List ℕ) → has_no_slash (front ++ (47 ∷ s)) ≡ true → ⊥
slashed [] s e = cc
slashed (c ∷ front) s e = slashed front s (both (not (is_slash c)) (has_no_slash (front ++ (47 ∷ s))) e).1

-- a text has one last '/'
last_slash : (before last front s : List ℕ) → has_no_slash last ≡ true → has_no_slash s ≡ true → before ++ (47 ∷ last) ≡ front ++ (47 ∷ s) → before ≡ front
last_slash [] last [] s free own e = refl
last_slash [] last (c ∷ front) s free own e =
    let after : last ≡ front ++ (47 ∷ s) = cc in
    let split = sym (ap has_no_slash after) ∙ free in
    absurd (slashed front s split)
last_slash (b ∷ before) last [] s free own e =
    let after : before ++ (47 ∷ last) ≡ s = cc in
    let split = ap has_no_slash after ∙ own in
    absurd (slashed before last split)
last_slash (b ∷ before) last (c ∷ front) s free own e =
    let same : b ≡ c = cc in
    let rest : before ++ (47 ∷ last) ≡ front ++ (47 ∷ s) = cc in
    rw same (ap (λ (t : List ℕ). c ∷ t) (last_slash before last front s free own rest))

never_empty : (front s : List ℕ) → front ++ (47 ∷ s) ≡ [] → ⊥
never_empty [] s e = cc
never_empty (c ∷ front) s e = cc

less_is : (output less : List ℕ) (kept : List (List ℕ)) → IsWithoutLast output less → output ≡ path_from (reverse kept) → list_all has_no_slash kept ≡ true → less ≡ path_from (reverse (without_last kept))
less_is _ _ [] (segment before last free) e all = absurd (never_empty before last e)
less_is _ _ (s ∷ kept) (segment before last free) e all =
    last_slash before last (path_from (reverse kept)) s free (both (has_no_slash s) (list_all has_no_slash kept) all).0 (e ∙ sym (output_more kept s))
less_is _ _ [] (whole last free) e all = refl
less_is _ _ (s ∷ kept) (whole last free) e all =
    absurd (slashed (path_from (reverse kept)) s (ap has_no_slash (output_more kept s ∙ sym e) ∙ free))

-- ---- the first segment of an input

begins : (rest : List ℕ) → is_at_slash rest ≡ true → begins_in is_slash rest ≡ true
begins [] e = refl
begins (c ∷ rest) e = e

first_cut : (s rest : List ℕ) → has_no_slash s ≡ true → is_at_slash rest ≡ true → segments_of (47 ∷ (s ++ rest)) ≡ s ∷ segments_of rest
first_cut s rest free slash =
    pieces-cut (s ++ rest) ∙ rw (until-front is_slash s rest free (begins rest slash), from_first-front is_slash s rest free (begins rest slash)) refl

dot_begins : (rest : List ℕ) → is_at_slash rest ≡ true → begins_with_dots (47 ∷ 46 ∷ rest) ≡ true
dot_begins [] slash = refl
dot_begins (c ∷ rest) slash = rw (slash_is c slash) refl

dots_begin : (rest : List ℕ) → is_at_slash rest ≡ true → begins_with_dots (47 ∷ 46 ∷ 46 ∷ rest) ≡ true
dots_begin [] slash = refl
dots_begin (c ∷ rest) slash = rw (slash_is c slash) refl

-- a segment that goes to the output is no dot segment
goes : (a b : Bool) (s rest : List ℕ) → is_single_dot s ≡ a → is_double_dot s ≡ b → begins_with_dots (47 ∷ (s ++ rest)) ≡ false → is_at_slash rest ≡ true → (a ≡ false) × (b ≡ false)
goes false false s rest single double none slash = (refl, refl)
goes true b s rest single double none slash =
    let yes : begins_with_dots (47 ∷ (s ++ rest)) ≡ true = subst (λ (t : List ℕ). begins_with_dots (47 ∷ (t ++ rest)) ≡ true) (sym (single_is s single)) (dot_begins rest slash) in
    absurd (cc (sym none ∙ yes))
goes false true s rest single double none slash =
    let yes : begins_with_dots (47 ∷ (s ++ rest)) ≡ true = subst (λ (t : List ℕ). begins_with_dots (47 ∷ (t ++ rest)) ≡ true) (sym (double_is s double)) (dots_begin rest slash) in
    absurd (cc (sym none ∙ yes))

pushed : (kept : List (List ℕ)) (s rest : List ℕ) → is_single_dot s ≡ false → is_double_dot s ≡ false → is_at_slash rest ≡ true → resolved kept (s ∷ segments_of rest) ≡ resolved (s ∷ kept) (segments_of rest)
pushed kept s [] single double slash = rw (single, double) refl
pushed kept s (c ∷ rest) single double slash = goes_on kept s (c ∷ rest) (omega arith) ∙ rw (single, double) refl

plain_step : (kept : List (List ℕ)) (s rest : List ℕ) → begins_with_dots (47 ∷ (s ++ rest)) ≡ false → has_no_slash s ≡ true → is_at_slash rest ≡ true
    → resolved (s ∷ kept) (segments_of rest) ≡ resolved kept (segments_of (47 ∷ (s ++ rest)))
plain_step kept s rest none free slash =
    let plain = goes (is_single_dot s) (is_double_dot s) s rest refl refl none slash in
    sym (pushed kept s rest plain.0 plain.1 slash) ∙ ap (resolved kept) (sym (first_cut s rest free slash))

-- ---- dot segments

self_step : (kept : List (List ℕ)) (rest : List ℕ) → resolved kept (segments_of (47 ∷ rest)) ≡ resolved kept (segments_of (47 ∷ 46 ∷ 47 ∷ rest))
self_step kept rest = rw (pieces-cut rest) refl

parent_step : (kept : List (List ℕ)) (rest : List ℕ) → resolved (without_last kept) (segments_of (47 ∷ rest)) ≡ resolved kept (segments_of (47 ∷ 46 ∷ 46 ∷ 47 ∷ rest))
parent_step kept rest = rw (pieces-cut rest) refl

removed : (input output result : List ℕ) (kept : List (List ℕ)) → RemovesDots input output result → is_at_slash input ≡ true → output ≡ path_from (reverse kept) → list_all has_no_slash kept ≡ true
    → result ≡ path_from (resolved kept (segments_of input))
removed _ _ _ kept (a_parent rest output result more) slash e all = absurd cc
removed _ _ _ kept (a_self rest output result more) slash e all = absurd cc
removed _ _ _ kept (b_self rest output result more) slash e all = removed (47 ∷ rest) output result kept more refl e all ∙ ap path_from (self_step kept rest)
removed _ _ _ kept (b_end output result more) slash e all = removed (47 ∷ []) output result kept more refl e all
removed _ _ _ kept (c_parent rest output less result last more) slash e all =
    removed (47 ∷ rest) less result (without_last kept) more refl (less_is output less kept last e all) (less_free kept all) ∙ ap path_from (parent_step kept rest)
removed _ _ _ kept (c_end output less result last more) slash e all =
    removed (47 ∷ []) less result (without_last kept) more refl (less_is output less kept last e all) (less_free kept all)
removed _ _ _ kept (d_self output result more) slash e all = absurd cc
removed _ _ _ kept (d_parent output result more) slash e all = absurd cc
removed _ _ _ kept (e_segment _ _ output result none (behind_slash s rest free at) more) slash e all =
    removed rest (output ++ (47 ∷ s)) result (s ∷ kept) more at (ap (λ (t : List ℕ). t ++ (47 ∷ s)) e ∙ output_more kept s) (all_pass (has_no_slash s) (list_all has_no_slash kept) free all)
    ∙ ap path_from (plain_step kept s rest none free at)
removed _ _ _ kept (e_segment _ _ output result none (bare [] rest free at) more) slash e all =
    removed rest (output ++ []) result kept more at (append-nil output ∙ e) all
removed _ _ _ kept (e_segment _ _ output result none (bare (c ∷ s) rest free at) more) slash e all =
    absurd (never c slash (both (not (is_slash c)) (has_no_slash s) free).0)
removed _ _ _ kept (done output) slash e all = e

-- Whatever the standard removes, it is this.
pub removed_only : (path result : List ℕ) → is_at_slash path ≡ true → RemovesDots path [] result → result ≡ remove_dot_segments path
removed_only path result slash more = removed path [] result [] more slash refl refl
