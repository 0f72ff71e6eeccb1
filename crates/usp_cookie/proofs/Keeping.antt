-- The segments of a cookie's path, one after the other.
use Rattle.std.proofs.Common.{◌≡◌, ℕ, zero, suc, ◌+◌, ◌-◌, ◌≤◌, Bool, true, false, not, List, [], ◌∷◌, ◌++◌, length, take, drop, refl, sym, ap, ◌∙◌, append_assoc, arith}
use Rattle.std.specs.List.{list_all, position_or_len}
use Rattle.std.proofs.lemmas.List.{append-nil, length-append, length-drop, length-take, take-append-drop}
use Rattle.usp_uri.specs.Delimited.{from_first, until}
use Rattle.usp_uri.specs.Letters.{is_slash}
use Rattle.usp_uri.specs.Normal.{path_from, segments_of}
use Rattle.usp_uri.proofs.ComponentLaws.{both}
use Rattle.usp_uri.proofs.DotLemmas.{pieces-cut}
use Rattle.usp_cookie.specs.Cookies.{MayKeep, has_semicolon, kept_count, kept_segments}

-- ---- one segment

keep_count : (depth : ℕ) (s n : List ℕ) (others : List (List ℕ)) → 1 ≤ depth → has_semicolon s ≡ false → kept_count depth (s ∷ n ∷ others) ≡ suc (kept_count (depth - 1) (n ∷ others))
keep_count depth s n others some free =
    let first : position_or_len has_semicolon (s ∷ n ∷ others) ≡ 1 + position_or_len has_semicolon (n ∷ others) = rw free refl in
    omega (arith, first)

keep_more : (depth : ℕ) (s n : List ℕ) (others : List (List ℕ)) → 1 ≤ depth → has_semicolon s ≡ false → kept_segments depth (s ∷ n ∷ others) ≡ s ∷ kept_segments (depth - 1) (n ∷ others)
keep_more depth s n others some free = ap (λ k. take k (s ∷ n ∷ others)) (keep_count depth s n others some free)

-- a segment that others follow
pub keep_next : (depth : ℕ) (s next : List ℕ) → 1 ≤ depth → has_semicolon s ≡ false → 1 ≤ length next → kept_segments depth (s ∷ segments_of next) ≡ s ∷ kept_segments (depth - 1) (segments_of next)
keep_next depth s [] some free more = absurd (omega arith)
keep_next depth s (slash ∷ text) some free more = rw (pieces-cut text) (keep_more depth s (until is_slash text) (segments_of (from_first is_slash text)) some free)

none_kept : (count : ℕ) (segments : List (List ℕ)) → count ≡ 0 → take count segments ≡ []
none_kept count segments e = ap (λ n. take n segments) e

pub keep_none : (segments : List (List ℕ)) → kept_segments 0 segments ≡ []
keep_none segments = none_kept (kept_count 0 segments) segments (omega arith)

pub keep_not_last : (depth : ℕ) (s next : List ℕ) → length next ≡ 0 → kept_segments depth (s ∷ segments_of next) ≡ []
keep_not_last depth s [] none = none_kept (kept_count depth (s ∷ [])) (s ∷ []) (omega arith)
keep_not_last depth s (c ∷ text) none = absurd (omega arith)

pub keep_free : (depth : ℕ) (s : List ℕ) (others : List (List ℕ)) → has_semicolon s ≡ true → kept_segments depth (s ∷ others) ≡ []
keep_free depth s others hit =
    let first : position_or_len has_semicolon (s ∷ others) ≡ 0 = rw hit refl in
    none_kept (kept_count depth (s ∷ others)) (s ∷ others) (omega (arith, first))

-- ---- the path that is written

out_more : (out s : List ℕ) (kept : List (List ℕ)) → ((out ++ (47 ∷ [])) ++ s) ++ path_from kept ≡ out ++ path_from (s ∷ kept)
out_more out s kept = append_assoc (out ++ (47 ∷ [])) s (path_from kept) ∙ append_assoc out (47 ∷ []) (s ++ path_from kept)

pub kept_more : (out new total : List ℕ) (left : ℕ) (rest s next : List ℕ) → segments_of rest ≡ s ∷ segments_of next
    → kept_segments left (s ∷ segments_of next) ≡ s ∷ kept_segments (left - 1) (segments_of next) → new ≡ (out ++ (47 ∷ [])) ++ s
    → out ++ path_from (kept_segments left (segments_of rest)) ≡ total → new ++ path_from (kept_segments (left - 1) (segments_of next)) ≡ total
kept_more out new total left rest s next cut keep is so_far =
    rw is (out_more out s (kept_segments (left - 1) (segments_of next)) ∙ ap (λ k. out ++ path_from k) (sym keep ∙ ap (kept_segments left) (sym cut)) ∙ so_far)

pub kept_done : (out total : List ℕ) (left : ℕ) (rest s next : List ℕ) → segments_of rest ≡ s ∷ segments_of next → kept_segments left (s ∷ segments_of next) ≡ []
    → out ++ path_from (kept_segments left (segments_of rest)) ≡ total → out ≡ total
kept_done out total left rest s next cut none so_far =
    sym (append-nil out) ∙ ap (λ k. out ++ path_from k) (sym (ap (kept_segments left) cut ∙ none)) ∙ so_far

-- ---- the most segments

abbrev is_free : List ℕ → Bool
is_free s = not (has_semicolon s)

nothing_free : (n : ℕ) → list_all is_free (take n []) ≡ true
nothing_free zero = refl
nothing_free (suc n) = refl

front_case : (hit : Bool) (count : ℕ) (s : List ℕ) (others : List (List ℕ)) → has_semicolon s ≡ hit → (count ≤ position_or_len has_semicolon others → list_all is_free (take count others) ≡ true)
    → suc count ≤ position_or_len has_semicolon (s ∷ others) → list_all is_free (take (suc count) (s ∷ others)) ≡ true
front_case true count s others is more le = let first : position_or_len has_semicolon (s ∷ others) ≡ 0 = rw is refl in absurd (omega (arith, first))
front_case false count s others is more le =
    let next : position_or_len has_semicolon (s ∷ others) ≡ 1 + position_or_len has_semicolon others = rw is refl in
    rw is (more (omega (arith, next)))

free_front : (count : ℕ) (segments : List (List ℕ)) → count ≤ position_or_len has_semicolon segments → list_all is_free (take count segments) ≡ true
free_front count [] le = nothing_free count
free_front zero (s ∷ others) le = refl
free_front (suc count) (s ∷ others) le = front_case (has_semicolon s) count s others refl (free_front count others) le

length_case : (hit : Bool) (s : List ℕ) (kept rest : List (List ℕ)) → has_semicolon s ≡ hit → list_all is_free (s ∷ kept) ≡ true → (list_all is_free kept ≡ true → length kept ≤ position_or_len has_semicolon (kept ++ rest))
    → length (s ∷ kept) ≤ position_or_len has_semicolon ((s ∷ kept) ++ rest)
length_case true s kept rest is free more =
    let no : not (has_semicolon s) ≡ true = (both (is_free s) (list_all is_free kept) free).0 in
    absurd (cc (sym (ap not is) ∙ no))
length_case false s kept rest is free more =
    let next : position_or_len has_semicolon ((s ∷ kept) ++ rest) ≡ 1 + position_or_len has_semicolon (kept ++ rest) = rw is refl in
    omega (arith, next, more (both (is_free s) (list_all is_free kept) free).1)

free_length : (kept rest : List (List ℕ)) → list_all is_free kept ≡ true → length kept ≤ position_or_len has_semicolon (kept ++ rest)
free_length [] rest free = omega arith
free_length (s ∷ kept) rest free = length_case (has_semicolon s) s kept rest refl free (free_length kept rest)

pub may_keep : (depth : ℕ) (segments : List (List ℕ)) → 1 ≤ length segments → MayKeep depth segments (kept_segments depth segments)
may_keep depth segments some =
    let count = kept_count depth segments in
    record {
      rest = drop count segments;
      whole = sym (take-append-drop count segments);
      few = omega (arith, length-take count segments);
      not_all = omega (arith, length-drop count segments, some);
      free = free_front count segments (omega arith);
    }

pub keeps_most : (depth : ℕ) (segments kept : List (List ℕ)) → MayKeep depth segments kept → length kept ≤ length (kept_segments depth segments)
keeps_most depth segments kept m =
    let count = kept_count depth segments in
    let free : length kept ≤ position_or_len has_semicolon segments = rw m.whole (free_length kept m.rest m.free) in
    omega (arith, length-take count segments, ap length m.whole, length-append kept m.rest, m.few, m.not_all, free)
