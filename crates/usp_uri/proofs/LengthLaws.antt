-- How long a normal form is. The '/' of an empty path alone makes it longer than its text.
use Rattle.std.proofs.Common.{◌≡◌, ℕ, ◌+◌, ◌≤◌, Bool, true, false, cond, ◌||◌, eqb, List, [], ◌∷◌, ◌++◌, length, map, reverse, Option, Some, None, refl, ap, ◌∙◌, arith}
use Rattle.std.specs.Prelude.{codes, nat_lt}
use Rattle.std.specs.Option.{option_map}
use Rattle.std.specs.Str.{bytes_eq}
use Rattle.std.specs.Char.{to_ascii_lowercase}
use Rattle.std.proofs.lemmas.Bool.{le-ltb}
use Rattle.std.proofs.lemmas.Bool.Decides.{nat_tests}
use Rattle.std.proofs.lemmas.List.{length-append, length-map}
use Rattle.usp_uri.specs.declared.limits.TheConstants.{MAX_LEN}
use Rattle.usp_uri.specs.Letters.{is_slash, is_unreserved, escaped_byte}
use Rattle.usp_uri.specs.Delimited.{with_mark}
use Rattle.usp_uri.specs.Components.{Components, text_of, authority_of, target_of, components_of, path_in}
use Rattle.usp_uri.specs.Normal.{normal_escape, normal_escapes, segments_of, path_from, resolved, next_kept, at_the_end, without_last, is_single_dot, is_double_dot, remove_dot_segments, kept_port, own_port, rooted, normal_components}
use Rattle.usp_uri.specs.DotSegments.{is_at_slash}
use Rattle.usp_uri.specs.Faults.{text_fault, length_fault, scheme_fault, userinfo_fault, host_fault, port_fault, rest_fault}
use Rattle.usp_uri.specs.Grammar.{is_path}
use Rattle.usp_uri.proofs.ComponentLaws.{both}
use Rattle.usp_uri.proofs.EscapeLaws.{escapes_at, escapes_past}
use Rattle.usp_uri.proofs.StandardLaws.{output_more, path_whole}
use Rattle.usp_uri.proofs.NormalLemmas.{second}
use Rattle.usp_uri.proofs.AcceptedLaws.{accepted_spelled}
use Rattle.usp_uri.proofs.NormalLaws.{within_limit}

-- ---- dot segments

one_longer : (s : List ℕ) (ss : List (List ℕ)) → length (path_from (s ∷ ss)) ≡ 1 + length s + length (path_from ss)
one_longer s ss = omega (arith, length-append (47 ∷ s) (path_from ss))

length-reversed : (kept : List (List ℕ)) → length (path_from (reverse kept)) ≡ length (path_from kept)
length-reversed [] = refl
length-reversed (s ∷ kept) =
    omega (arith, ap length (output_more kept s), length-append (path_from (reverse kept)) (47 ∷ s), one_longer s kept, length-reversed kept)

one_less : (kept : List (List ℕ)) → length (path_from (without_last kept)) ≤ length (path_from kept)
one_less [] = omega arith
one_less (s ∷ kept) = omega (arith, one_longer s kept)

kept_length : (a b : Bool) (kept : List (List ℕ)) (s : List ℕ) → length (path_from (cond a kept (cond b (without_last kept) (s ∷ kept)))) ≤ length (path_from kept) + (1 + length s)
kept_length true b kept s = omega arith
kept_length false true kept s = omega (arith, one_less kept)
kept_length false false kept s = omega (arith, one_longer s kept)

last_length : (a b : Bool) (kept : List (List ℕ)) (s : List ℕ)
    → length (path_from (cond (a || b) ([] ∷ cond a kept (cond b (without_last kept) (s ∷ kept))) (cond a kept (cond b (without_last kept) (s ∷ kept))))) ≤ length (path_from kept) + (1 + length s)
last_length true b kept s = omega (arith, one_longer [] kept)
last_length false true kept s = omega (arith, one_longer [] (without_last kept), one_less kept)
last_length false false kept s = omega (arith, one_longer s kept)

resolved_length : (kept segments : List (List ℕ)) → length (path_from (resolved kept segments)) ≤ length (path_from kept) + length (path_from segments)
resolved_length kept [] = omega (arith, length-reversed kept)
resolved_length kept (s ∷ []) =
    omega (arith, length-reversed (at_the_end (next_kept kept s) s), last_length (is_single_dot s) (is_double_dot s) kept s, one_longer s [])
resolved_length kept (s ∷ next ∷ others) =
    omega (arith, resolved_length (next_kept kept s) (next ∷ others), kept_length (is_single_dot s) (is_double_dot s) kept s, one_longer s (next ∷ others))

removed_length : (path : List ℕ) → is_at_slash path ≡ true → length (remove_dot_segments path) ≤ length path
removed_length path slash = omega (arith, resolved_length [] (segments_of path), ap length (path_whole path slash))

-- ---- escapes

few : (b : Bool) (c high low : ℕ) → length (cond b (c ∷ []) (37 ∷ high ∷ low ∷ [])) ≤ 3
few true c high low = omega arith
few false c high low = omega arith

escapes_case : (b : Bool) (c high low : ℕ) (rest : List ℕ) → eqb c 37 ≡ b → length (normal_escapes (high ∷ low ∷ rest)) ≤ 2 + length rest → length (normal_escapes rest) ≤ length rest
    → length (normal_escapes (c ∷ high ∷ low ∷ rest)) ≤ 3 + length rest
escapes_case true c high low rest is more last =
    let three : length (normal_escape high low) ≤ 3 = few (is_unreserved (escaped_byte high low)) _ _ _ in
    omega (arith, ap length (escapes_at c high low rest is), length-append (normal_escape high low) (normal_escapes rest), three, last)
escapes_case false c high low rest is more last = omega (arith, ap length (escapes_past c (high ∷ low ∷ rest) is), more)

escapes_length : (text : List ℕ) → length (normal_escapes text) ≤ length text
escapes_length [] = omega arith
escapes_length (c ∷ []) = omega arith
escapes_length (c ∷ d ∷ []) = omega arith
escapes_length (c ∷ high ∷ low ∷ rest) =
    let all : length (normal_escapes (c ∷ high ∷ low ∷ rest)) ≤ 3 + length rest =
    escapes_case (eqb c 37) c high low rest refl (omega (arith, escapes_length (high ∷ low ∷ rest))) (escapes_length rest) in
    omega (arith, all)

slash_no_percent : (c : ℕ) → is_slash c ≡ true → eqb c 37 ≡ false
slash_no_percent c e = grind (arith, nat_tests)

escapes_slash : (path : List ℕ) → is_at_slash path ≡ true → is_at_slash (normal_escapes path) ≡ true
escapes_slash [] slash = refl
escapes_slash (c ∷ rest) slash = rw (escapes_past c rest (slash_no_percent c slash)) slash

-- ---- one component each

rooted_length : (path : List ℕ) (most : ℕ) → 1 ≤ most → length path ≤ most → length (rooted path) ≤ most
rooted_length [] most some short = some
rooted_length (c ∷ rest) most some short = short

path_length : (path : List ℕ) → is_at_slash path ≡ true → 1 ≤ length path → length (rooted (remove_dot_segments (normal_escapes path))) ≤ length path
path_length path slash some =
    rooted_length (remove_dot_segments (normal_escapes path)) (length path) some
    (omega (arith, removed_length (normal_escapes path) (escapes_slash path slash), escapes_length path))

kept_case : (b : Bool) (port : List ℕ) → length (with_mark 58 (cond b None (Some port))) ≤ length (58 ∷ port)
kept_case true port = omega arith
kept_case false port = omega arith

port_length : (scheme : List ℕ) (port : Option (List ℕ)) → length (with_mark 58 (kept_port scheme port)) ≤ length (with_mark 58 port)
port_length scheme None = omega arith
port_length scheme (Some port) = kept_case (bytes_eq port [] || bytes_eq port (own_port scheme)) port

query_length : (query : Option (List ℕ)) → length (with_mark 63 (option_map normal_escapes query)) ≤ length (with_mark 63 query)
query_length None = omega arith
query_length (Some query) = omega (arith, escapes_length query)

-- ---- the whole

pub length-text_of : (p : Components) → length (text_of p) ≡ length p.scheme + 3 + length p.host + length (with_mark 58 p.port) + length p.path + length (with_mark 63 p.query)
length-text_of p =
    omega (
      arith,
      length-append p.scheme (codes "://" ++ (authority_of p ++ target_of p)),
      length-append (authority_of p) (target_of p),
      length-append p.host (with_mark 58 p.port),
      length-append p.path (with_mark 63 p.query),
    )

normal_length : (p : Components) → length (text_of (normal_components p))
    ≡ length p.scheme + 3 + length p.host + length (with_mark 58 (kept_port (map to_ascii_lowercase p.scheme) p.port)) + length (rooted (remove_dot_segments (normal_escapes p.path)))
    + length (with_mark 63 (option_map normal_escapes p.query))
normal_length p =
    length-text_of (normal_components p)
    ∙ rw (length-map p.scheme to_ascii_lowercase, length-map p.host to_ascii_lowercase) refl

-- a path that is not empty
no_longer : (p : Components) → is_at_slash p.path ≡ true → 1 ≤ length p.path → length (text_of (normal_components p)) ≤ length (text_of p)
no_longer p slash some =
    omega (arith, normal_length p, length-text_of p, port_length (map to_ascii_lowercase p.scheme) p.port, path_length p.path slash some, query_length p.query)

pub stays_short : (p : Components) → is_at_slash p.path ≡ true → 1 ≤ length p.path → length (text_of p) ≤ MAX_LEN → nat_lt MAX_LEN (length (text_of (normal_components p))) ≡ false
stays_short p slash some short = le-ltb MAX_LEN (length (text_of (normal_components p))) (omega (arith, no_longer p slash some, short))

pub is_some_length : (path : List ℕ) → eqb (length path) 0 ≡ false → 1 ≤ length path
is_some_length path e = grind (arith, nat_tests)

-- ---- texts without a fault

path_slash : (path : List ℕ) → is_path path ≡ true → is_at_slash path ≡ true
path_slash [] e = refl
path_slash (c ∷ rest) e = (both (is_slash c) _ e).0

pub accepted_slash : (text : List ℕ) → text_fault text ≡ None → is_at_slash (path_in text) ≡ true
accepted_slash text none = path_slash (path_in text) (accepted_spelled text none).uri.path

pub accepted_short : (text : List ℕ) → text_fault text ≡ None → length (text_of (components_of text)) ≤ MAX_LEN
accepted_short text none =
    let s = second (length_fault text) (scheme_fault text ∷ userinfo_fault text ∷ host_fault text ∷ port_fault text ∷ rest_fault text ∷ []) none in
    omega (arith, within_limit text s.0, ap length (accepted_spelled text none).whole)
