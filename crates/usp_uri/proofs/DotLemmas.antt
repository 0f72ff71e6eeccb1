-- Dot segments, one segment at a time.
use Rattle.std.proofs.Common.{◌≡◌, ℕ, ◌-◌, ◌≤◌, take, drop, Bool, true, false, cond, List, [], ◌∷◌, length, refl, sym, ap, ◌∙◌, arith}
use Rattle.std.proofs.lemmas.List.{take_rest}
use Rattle.usp_uri.specs.Letters.{is_slash}
use Rattle.usp_uri.specs.Delimited.{until, from_first}
use Rattle.usp_uri.specs.Normal.{pieces, onto_first, segments_of, resolved, next_kept, at_the_end}

pieces_step : (b : Bool) (c : ℕ) (rest u f : List ℕ) → pieces rest ≡ u ∷ segments_of f
    → cond b ([] ∷ pieces rest) (onto_first c (pieces rest)) ≡ cond b [] (c ∷ u) ∷ segments_of (cond b (c ∷ rest) f)
pieces_step true c rest u f e = refl
pieces_step false c rest u f e = rw e refl

pub pieces-cut : (text : List ℕ) → pieces text ≡ until is_slash text ∷ segments_of (from_first is_slash text)
pieces-cut [] = refl
pieces-cut (c ∷ rest) = pieces_step (is_slash c) c rest (until is_slash rest) (from_first is_slash rest) (pieces-cut rest)

-- a segment that others follow
pub goes_on : (kept : List (List ℕ)) (segment next : List ℕ) → 1 ≤ length next
    → resolved kept (segment ∷ segments_of next) ≡ resolved (next_kept kept segment) (segments_of next)
goes_on kept segment [] h = absurd (omega arith)
goes_on kept segment (slash ∷ more) h = rw (pieces-cut more) refl

pub cut_path : (rest segment next : List ℕ) → 1 ≤ length rest → segment ≡ until is_slash (take (length rest - 1) (drop 1 rest)) → next ≡ from_first is_slash (take (length rest - 1) (drop 1 rest)) → segments_of rest ≡ segment ∷ segments_of next
cut_path [] segment next some s n = absurd (omega arith)
cut_path (slash ∷ after) segment next some s n =
    let whole : take (length (slash ∷ after) - 1) after ≡ after = take_rest (slash ∷ after) 1 in
    rw (s, n, whole) (pieces-cut after)

pub step_more : (kept : List (List ℕ)) (rest segment next : List ℕ) (new total : List (List ℕ)) → 1 ≤ length rest → segment ≡ until is_slash (take (length rest - 1) (drop 1 rest)) → next ≡ from_first is_slash (take (length rest - 1) (drop 1 rest))
    → 1 ≤ length next → new ≡ next_kept kept segment → resolved kept (segments_of rest) ≡ total → resolved new (segments_of next) ≡ total
step_more kept rest segment next new total some s n more is so_far =
    rw is (sym (goes_on kept segment next more) ∙ ap (resolved kept) (sym (cut_path rest segment next some s n)) ∙ so_far)

at_last : (kept : List (List ℕ)) (segment next : List ℕ) → length next ≡ 0 → resolved (at_the_end (next_kept kept segment) segment) (segments_of next) ≡ resolved kept (segment ∷ segments_of next)
at_last kept segment [] h = refl
at_last kept segment (c ∷ more) h = absurd (omega arith)

pub step_last : (kept : List (List ℕ)) (rest segment next : List ℕ) (new total : List (List ℕ)) → 1 ≤ length rest → segment ≡ until is_slash (take (length rest - 1) (drop 1 rest)) → next ≡ from_first is_slash (take (length rest - 1) (drop 1 rest))
    → length next ≡ 0 → new ≡ at_the_end (next_kept kept segment) segment → resolved kept (segments_of rest) ≡ total → resolved new (segments_of next) ≡ total
step_last kept rest segment next new total some s n none is so_far =
    rw is (at_last kept segment next none ∙ ap (resolved kept) (sym (cut_path rest segment next some s n)) ∙ so_far)
