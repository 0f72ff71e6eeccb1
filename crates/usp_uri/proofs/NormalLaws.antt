-- The normal form of a URI is a URI, and its own normal form.
use Rattle.std.proofs.Common.{◌≡◌, ℕ, ◌≤◌, Bool, true, false, cond, eqb, ◌&&◌, ◌||◌, List, [], ◌∷◌, length, map, reverse, Option, Some, None, Ok, refl, sym, ap, subst, ◌∙◌, arith}
use Rattle.std.specs.Prelude.{codes, IfSome, IsTrue, option_map}
use Rattle.std.specs.List.{list_all}
use Rattle.std.specs.Str.{bytes_eq}
use Rattle.std.specs.Char.{to_ascii_lowercase}
use Rattle.std.proofs.lemmas.Bool.Decides.{nat_tests}
use Rattle.std.proofs.lemmas.List.{reverse-append}
use Rattle.std.proofs.lemmas.List.Folds.{list_all-append}
use Rattle.usp_uri.specs.declared.limits.TheConstants.{MAX_LEN}
use Rattle.usp_uri.specs.Letters.{is_slash, is_host_byte}
use Rattle.usp_uri.specs.Components.{Components, components_of, text_of}
use Rattle.usp_uri.specs.Faults.{is_port, normal_of, length_fault}
use Rattle.usp_uri.specs.Grammar.{IsUri, is_scheme, is_host, is_path, is_query, are_pchars_or}
use Rattle.usp_uri.specs.Normal.{normal_escapes, segments_of, path_from, resolved, next_kept, at_the_end, without_last, is_single_dot, is_double_dot, remove_dot_segments, rooted, own_port, kept_port, normal_components}
use Rattle.usp_uri.proofs.ComponentLaws.{both, same_components, components_of-spelled}
use Rattle.usp_uri.proofs.DotLaws.{remove_dot_segments-twice}
use Rattle.usp_uri.proofs.EscapeLaws.{are_settled_or, all_pass, escapes_settled, escapes_stay, escapes_past, settled_pchars, pieces_settled, path_settled}
use Rattle.usp_uri.proofs.NormalLemmas.{accepted}
use Rattle.usp_uri.proofs.AcceptedLaws.{accepted_spelled}
use Rattle.usp_uri.proofs.SpelledLaws.{spelled_normal}

-- ---- letters in lower case

lower_again : (c : ℕ) → to_ascii_lowercase (to_ascii_lowercase c) ≡ to_ascii_lowercase c
lower_again c = grind (arith, nat_tests)

lower_twice : (text : List ℕ) → map to_ascii_lowercase (map to_ascii_lowercase text) ≡ map to_ascii_lowercase text
lower_twice [] = refl
lower_twice (c ∷ rest) = rw (lower_again c, lower_twice rest) refl

lower_host_byte : (c : ℕ) → is_host_byte c ≡ true → is_host_byte (to_ascii_lowercase c) ≡ true
lower_host_byte c e = grind (arith, nat_tests)

lower_host_bytes : (text : List ℕ) → list_all is_host_byte text ≡ true → list_all is_host_byte (map to_ascii_lowercase text) ≡ true
lower_host_bytes [] e = refl
lower_host_bytes (c ∷ rest) e =
    let first = both (is_host_byte c) (list_all is_host_byte rest) e in
    all_pass (is_host_byte (to_ascii_lowercase c)) (list_all is_host_byte (map to_ascii_lowercase rest)) (lower_host_byte c first.0) (lower_host_bytes rest first.1)

lower_host : (host : List ℕ) → is_host host ≡ true → is_host (map to_ascii_lowercase host) ≡ true
lower_host [] e = absurd cc
lower_host (c ∷ rest) e = lower_host_bytes (c ∷ rest) e

lower_scheme : (scheme : List ℕ) → is_scheme scheme ≡ true → is_scheme (map to_ascii_lowercase scheme) ≡ true
lower_scheme scheme e =
    ap (λ (t : List ℕ). bytes_eq t (map to_ascii_lowercase (codes "http")) || bytes_eq t (map to_ascii_lowercase (codes "https"))) (lower_twice scheme) ∙ e

-- ---- the port

port_case : (b : Bool) (port : List ℕ) → is_port port ≡ true → IfSome (cond b None (Some port)) (λ p. IsTrue (is_port p))
port_case true port e = tt
port_case false port e = e

port_stays : (scheme : List ℕ) (port : Option (List ℕ)) → IfSome port (λ p. IsTrue (is_port p)) → IfSome (kept_port scheme port) (λ p. IsTrue (is_port p))
port_stays scheme None h = tt
port_stays scheme (Some port) h = port_case (bytes_eq port [] || bytes_eq port (own_port scheme)) port h

port_twice_case : (b : Bool) (scheme port : List ℕ) → (bytes_eq port [] || bytes_eq port (own_port scheme)) ≡ b → kept_port scheme (cond b None (Some port)) ≡ cond b None (Some port)
port_twice_case true scheme port is = refl
port_twice_case false scheme port is = rw is refl

port_twice : (scheme : List ℕ) (port : Option (List ℕ)) → kept_port scheme (kept_port scheme port) ≡ kept_port scheme port
port_twice scheme None = refl
port_twice scheme (Some port) = port_twice_case (bytes_eq port [] || bytes_eq port (own_port scheme)) scheme port refl

-- ---- the path

abbrev all_settled : List (List ℕ) → Bool
all_settled segments = list_all (are_settled_or []) segments

reversed : (xs : List (List ℕ)) → all_settled xs ≡ true → all_settled (reverse xs) ≡ true
reversed [] e = refl
reversed (x ∷ xs) e =
    let first = both (are_settled_or [] x) (all_settled xs) e in
    ap all_settled (reverse-append (x ∷ []) xs) ∙ list_all-append (are_settled_or []) (reverse xs) (x ∷ []) ∙ all_pass (all_settled (reverse xs)) (all_settled (x ∷ [])) (reversed xs first.1) (all_pass (are_settled_or [] x) true first.0 refl)

kept_case : (a b : Bool) (kept : List (List ℕ)) (s : List ℕ) → are_settled_or [] s ≡ true → all_settled kept ≡ true → all_settled (cond a kept (cond b (without_last kept) (s ∷ kept))) ≡ true
kept_case true b kept s e f = f
kept_case false true [] s e f = refl
kept_case false true (last ∷ before) s e f = (both (are_settled_or [] last) (all_settled before) f).1
kept_case false false kept s e f = all_pass (are_settled_or [] s) (all_settled kept) e f

end_case : (b : Bool) (kept : List (List ℕ)) → all_settled kept ≡ true → all_settled (cond b ([] ∷ kept) kept) ≡ true
end_case true kept e = e
end_case false kept e = e

resolved_settled : (kept segments : List (List ℕ)) → all_settled kept ≡ true → all_settled segments ≡ true → all_settled (resolved kept segments) ≡ true
resolved_settled kept [] e f = reversed kept e
resolved_settled kept (s ∷ []) e f =
    let first = both (are_settled_or [] s) true f in
    reversed (at_the_end (next_kept kept s) s) (end_case (is_single_dot s || is_double_dot s) (next_kept kept s) (kept_case (is_single_dot s) (is_double_dot s) kept s first.0 e))
resolved_settled kept (s ∷ next ∷ others) e f =
    let first = both (are_settled_or [] s) (all_settled (next ∷ others)) f in
    resolved_settled (next_kept kept s) (next ∷ others) (kept_case (is_single_dot s) (is_double_dot s) kept s first.0 e) first.1

-- a path in normal form: nothing or a '/' first, and each escape in normal form
abbrev is_settled_path : List ℕ → Bool
is_settled_path [] = true
is_settled_path (c ∷ rest) = is_slash c && are_settled_or (codes "/") rest

from_segments : (segments : List (List ℕ)) → all_settled segments ≡ true → is_settled_path (path_from segments) ≡ true
from_segments [] e = refl
from_segments (s ∷ ss) e = path_settled (s ∷ ss) e

rooted_settled : (path : List ℕ) → is_settled_path path ≡ true → is_settled_path (rooted path) ≡ true
rooted_settled [] e = refl
rooted_settled (c ∷ rest) e = e

slash_no_percent : (c : ℕ) → is_slash c ≡ true → eqb c 37 ≡ false
slash_no_percent c e = grind (arith, nat_tests)

normal_path_settled : (path : List ℕ) → is_path path ≡ true → is_settled_path (rooted (remove_dot_segments (normal_escapes path))) ≡ true
normal_path_settled [] e = refl
normal_path_settled (c ∷ rest) e =
    let first = both (is_slash c) (are_pchars_or (codes "/") rest) e in
    let past = escapes_past c rest (slash_no_percent c first.0) in
    let settled = pieces_settled (normal_escapes rest) (escapes_settled (codes "/") refl rest first.1) in
    ap (λ (t : List ℕ). is_settled_path (rooted (remove_dot_segments t))) past
    ∙ rooted_settled (remove_dot_segments (c ∷ normal_escapes rest)) (from_segments (resolved [] (segments_of (c ∷ normal_escapes rest))) (resolved_settled [] (segments_of (c ∷ normal_escapes rest)) refl settled))

settled_is_path : (path : List ℕ) → is_settled_path path ≡ true → is_path path ≡ true
settled_is_path [] e = refl
settled_is_path (c ∷ rest) e =
    let first = both (is_slash c) (are_settled_or (codes "/") rest) e in
    all_pass (is_slash c) (are_pchars_or (codes "/") rest) first.0 (settled_pchars (codes "/") rest first.1)

settled_path_stays : (path : List ℕ) → is_settled_path path ≡ true → normal_escapes path ≡ path
settled_path_stays [] e = refl
settled_path_stays (c ∷ rest) e =
    let first = both (is_slash c) (are_settled_or (codes "/") rest) e in
    escapes_past c rest (slash_no_percent c first.0) ∙ ap (λ (t : List ℕ). c ∷ t) (escapes_stay (codes "/") refl rest first.1)

rooted_twice : (path : List ℕ) → remove_dot_segments path ≡ path → rooted (remove_dot_segments (rooted path)) ≡ rooted path
rooted_twice [] e = refl
rooted_twice (c ∷ rest) e = ap rooted e

path_twice : (path : List ℕ) → is_path path ≡ true
    → rooted (remove_dot_segments (normal_escapes (rooted (remove_dot_segments (normal_escapes path))))) ≡ rooted (remove_dot_segments (normal_escapes path))
path_twice path e =
    ap (λ (t : List ℕ). rooted (remove_dot_segments t)) (settled_path_stays (rooted (remove_dot_segments (normal_escapes path))) (normal_path_settled path e))
    ∙ rooted_twice (remove_dot_segments (normal_escapes path)) (remove_dot_segments-twice (normal_escapes path))

-- ---- the query

query_stays : (query : Option (List ℕ)) → IfSome query (λ q. IsTrue (is_query q)) → IfSome (option_map normal_escapes query) (λ q. IsTrue (is_query q))
query_stays None h = tt
query_stays (Some query) h = settled_pchars (codes "/?") (normal_escapes query) (escapes_settled (codes "/?") refl query h)

query_twice : (query : Option (List ℕ)) → IfSome query (λ q. IsTrue (is_query q)) → option_map normal_escapes (option_map normal_escapes query) ≡ option_map normal_escapes query
query_twice None h = refl
query_twice (Some query) h = ap (λ (t : List ℕ). Some t) (escapes_stay (codes "/?") refl (normal_escapes query) (escapes_settled (codes "/?") refl query h))

-- ---- the whole

-- The components of a normal form are those of a URI.
pub normal_is_uri : (p : Components) → IsUri p → IsUri (normal_components p)
normal_is_uri p u =
    record {
      scheme = lower_scheme p.scheme u.scheme;
      host = lower_host p.host u.host;
      port = port_stays (map to_ascii_lowercase p.scheme) p.port u.port;
      path = settled_is_path (rooted (remove_dot_segments (normal_escapes p.path))) (normal_path_settled p.path u.path);
      query = query_stays p.query u.query;
    }

-- The four steps taken twice are the steps taken once.
pub normal_twice : (p : Components) → IsUri p → normal_components (normal_components p) ≡ normal_components p
normal_twice p u =
    same_components (normal_components (normal_components p)) (normal_components p) (lower_twice p.scheme) (lower_twice p.host)
    (ap (λ (s : List ℕ). kept_port s (kept_port (map to_ascii_lowercase p.scheme) p.port)) (lower_twice p.scheme) ∙ port_twice (map to_ascii_lowercase p.scheme) p.port)
    (path_twice p.path u.path) (query_twice p.query u.query)

-- ---- texts in normal form

-- components that the four steps leave as they are
pub record IsNormal (p : Components) : Type 0 where
  pub uri : IsUri p
  pub stays : normal_components p ≡ p

pub within_limit : (text : List ℕ) → length_fault text ≡ None → length text ≤ MAX_LEN
within_limit text e = grind (arith, nat_tests)

-- a text that is its own normal form
pub normal_has : (text : List ℕ) → normal_of text ≡ Ok text → IsNormal (components_of text)
normal_has text e =
    let a = accepted text text e in
    let u = (accepted_spelled text a.0).uri in
    record {
      uri = u;
      stays = sym (components_of-spelled (normal_components (components_of text)) text (normal_is_uri (components_of text) u) (sym a.2));
    }

pub normal_reads : (p : Components) → IsNormal p → length (text_of p) ≤ MAX_LEN → normal_of (text_of p) ≡ Ok (text_of p)
normal_reads p n short =
    let same = ap (λ q. text_of q) n.stays in
    spelled_normal p (text_of p) n.uri refl short (omega (arith, ap length same)) ∙ ap Ok same

-- A normal form, read again, is itself.
pub normal_again : (text normal : List ℕ) → normal_of text ≡ Ok normal → normal_of normal ≡ Ok normal
normal_again text normal e =
    let a = accepted text normal e in
    let u = (accepted_spelled text a.0).uri in
    let n : IsNormal (normal_components (components_of text)) = record { uri = normal_is_uri (components_of text) u; stays = normal_twice (components_of text) u } in
    let short = within_limit normal a.1 in
    subst (λ (t : List ℕ). normal_of t ≡ Ok t) a.2 (normal_reads (normal_components (components_of text)) n (omega (arith, ap length a.2)))
