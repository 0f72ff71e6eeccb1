-- A short text that the grammar spells has no fault.
use Rattle.std.proofs.Common.{◌≡◌, ℕ, ◌+◌, ◌≤◌, Bool, true, false, cond, not, eqb, ◌&&◌, ◌||◌, List, [], ◌∷◌, ◌++◌, length, map, Option, Some, None, refl, sym, ap, ◌∙◌, arith}
use Rattle.std.specs.Prelude.{codes, IfSome, IsTrue}
use Rattle.std.specs.List.{list_all, list_any}
use Rattle.std.specs.Str.{bytes_eq, str_eq_ignore_ascii_case}
use Rattle.std.specs.Char.{is_ascii_digit, to_ascii_lowercase}
use Rattle.std.proofs.lemmas.Bool.Decides.{nat_tests}
use Rattle.std.proofs.lemmas.List.{append-nil}
use Rattle.std.proofs.lemmas.List.Folds.{list_all-append}
use Rattle.usp_uri.specs.declared.limits.TheConstants.{MAX_LEN}
use Rattle.usp_uri.specs.declared.fault.UriFault.TheVariants as fault
use Rattle.usp_uri.specs.Letters.{is_slash, is_host_byte, is_unreserved, is_sub_delim, is_one_of, is_literal}
use Rattle.usp_uri.specs.Delimited.{with_mark, first_outside}
use Rattle.usp_uri.specs.Components.{Components, text_of, authority_of, target_of, authority_in, authority_start}
use Rattle.usp_uri.specs.Faults.{is_port, begins_with_digits, is_allowed, begins_in_any_case, scheme_fault, userinfo_fault, host_fault, host_fault_at, port_fault, port_fault_in, rest_fault, rest_fault_at, text_fault, normal_of}
use Rattle.usp_uri.specs.Grammar.{IsUri, is_host, is_path, is_query, are_pchars_or}
use Rattle.usp_uri.proofs.GrammarLemmas.{is_free_of}
use Rattle.usp_uri.proofs.ComponentLaws.{components_of-spelled, IsApart-from_uri, both, apart, host_all, port_all, authority_is, target_is, host_is, port_is}
use Rattle.usp_uri.proofs.ReadLemmas.{no_fault}
use Rattle.usp_uri.proofs.NormalLemmas.{reads}
use Rattle.usp_uri.specs.Normal.{normal_components}
use Rattle.std.specs.Prelude.{Ok}

-- a text that begins with a scheme begins with its name and "://"
name_begins : (name scheme rest : List ℕ) → bytes_eq (map to_ascii_lowercase scheme) (map to_ascii_lowercase name) ≡ true
    → begins_in_any_case (name ++ codes "://") (scheme ++ (codes "://" ++ rest)) ≡ true
name_begins [] [] rest e = refl
name_begins [] (c ∷ scheme) rest e = absurd cc
name_begins (l ∷ name) [] rest e = absurd cc
name_begins (l ∷ name) (c ∷ scheme) rest e =
    let parts = both (eqb (to_ascii_lowercase c) (to_ascii_lowercase l)) (bytes_eq (map to_ascii_lowercase scheme) (map to_ascii_lowercase name)) e in
    rw (parts.0, name_begins name scheme rest parts.1) refl

either : (a b : Bool) → b ≡ true → cond (a || b) None (Some fault.Scheme) ≡ None
either true b e = refl
either false b e = rw e refl

scheme_good : (a b : Bool) (scheme rest : List ℕ) → str_eq_ignore_ascii_case scheme (codes "http") ≡ a → str_eq_ignore_ascii_case scheme (codes "https") ≡ b → (a || b) ≡ true
    → scheme_fault (scheme ++ (codes "://" ++ rest)) ≡ None
scheme_good true b scheme rest http https e = rw (name_begins (codes "http") scheme rest http) refl
scheme_good false true scheme rest http https e = either (begins_in_any_case (codes "http://") (scheme ++ (codes "://" ++ rest))) _ (name_begins (codes "https") scheme rest https)
scheme_good false false scheme rest http https e = absurd cc

none_any : (stops : ℕ → Bool) (text : List ℕ) → is_free_of stops text ≡ true → list_any stops text ≡ false
none_any stops [] e = refl
none_any stops (c ∷ rest) e =
    let parts = both (not (stops c)) (is_free_of stops rest) e in
    none_step (stops c) _ parts.0 (none_any stops rest parts.1)
  where
    none_step : (a b : Bool) → not a ≡ true → b ≡ false → (a || b) ≡ false
    none_step false b e f = f
    none_step true b e f = absurd cc

host_no_at : (c : ℕ) → is_host_byte c ≡ true → eqb c 64 ≡ false
host_no_at c e = grind (arith, nat_tests)

digit_no_at : (c : ℕ) → is_ascii_digit c ≡ true → eqb c 64 ≡ false
digit_no_at c e = grind (arith, nat_tests)

port_no_at : (port : Option (List ℕ)) → IfSome port (λ p. IsTrue (is_port p)) → is_free_of (λ c. eqb c 64) (with_mark 58 port) ≡ true
port_no_at None h = refl
port_no_at (Some port) h = apart is_ascii_digit (λ c. eqb c 64) digit_no_at port (port_all port h)

authority_no_at : (p : Components) → IsUri p → list_any (λ c. eqb c 64) (authority_of p) ≡ false
authority_no_at p u =
    none_any (λ c. eqb c 64) (authority_of p)
    (list_all-append (λ c. not (eqb c 64)) p.host (with_mark 58 p.port) ∙ rw (apart is_host_byte (λ c. eqb c 64) host_no_at p.host (host_all p.host u.host), port_no_at p.port u.port) refl)

none_outside : (good : ℕ → Bool) (at : ℕ) (text : List ℕ) → list_all good text ≡ true → first_outside good at text ≡ None
none_outside good at [] e = refl
none_outside good at (c ∷ rest) e =
    let parts = both (good c) (list_all good rest) e in
    rw parts.0 (none_outside good (at + 1) rest parts.1)

host_good : (at : ℕ) (host : List ℕ) → is_host host ≡ true → host_fault_at at host ≡ None
host_good at [] e = absurd cc
host_good at (c ∷ rest) e = rw (none_outside is_host_byte at (c ∷ rest) e) refl

port_good : (port : Option (List ℕ)) → IfSome port (λ p. IsTrue (is_port p)) → port_fault_in port ≡ None
port_good None h = refl
port_good (Some port) h = rw h refl

-- ---- path and query

pub digits_stay : (text more : List ℕ) → begins_with_digits text ≡ true → begins_with_digits (text ++ more) ≡ true
digits_stay [] more e = absurd cc
digits_stay (high ∷ []) more e = absurd cc
digits_stay (high ∷ low ∷ rest) more e = e

allowed_step : (literal one more percent digits still : Bool) → (one ≡ true → literal ≡ true) → (digits ≡ true → still ≡ true) → (one || (percent && digits)) ≡ true → (literal || (percent && still)) ≡ true
allowed_step true one more percent digits still l s e = refl
allowed_step false true more percent digits still l s e = absurd (cc (l refl))
allowed_step false false more true digits still l s e = s e
allowed_step false false more false digits still l s e = absurd cc

slash_literal : (c : ℕ) → (is_unreserved c || is_sub_delim c || is_one_of (codes ":@") c || is_one_of (codes "/") c) ≡ true → is_literal c ≡ true
slash_literal c e = grind (arith, nat_tests)

query_literal : (c : ℕ) → (is_unreserved c || is_sub_delim c || is_one_of (codes ":@") c || is_one_of (codes "/?") c) ≡ true → is_literal c ≡ true
query_literal c e = grind (arith, nat_tests)

pchars_good : (others : List ℕ) → ((c : ℕ) → (is_unreserved c || is_sub_delim c || is_one_of (codes ":@") c || is_one_of others c) ≡ true → is_literal c ≡ true)
    → (at : ℕ) (text more : List ℕ) → are_pchars_or others text ≡ true → ((n : ℕ) → rest_fault_at n more ≡ None) → rest_fault_at at (text ++ more) ≡ None
pchars_good others literal at [] more e good = good at
pchars_good others literal at (c ∷ rest) more e good =
    let parts = both (is_unreserved c || is_sub_delim c || is_one_of (codes ":@") c || is_one_of others c || (eqb c 37 && begins_with_digits rest)) (are_pchars_or others rest) e in
    let this : is_allowed c (rest ++ more) ≡ true =
    allowed_step (is_literal c) (is_unreserved c || is_sub_delim c || is_one_of (codes ":@") c || is_one_of others c) true (eqb c 37) (begins_with_digits rest) (begins_with_digits (rest ++ more))
    (literal c) (digits_stay rest more) parts.0 in
    rw this (pchars_good others literal (at + 1) rest more parts.1 good)

query_good : (query : Option (List ℕ)) → IfSome query (λ q. IsTrue (is_query q)) → (at : ℕ) → rest_fault_at at (with_mark 63 query) ≡ None
query_good None h at = refl
query_good (Some query) h at =
    ap (rest_fault_at (at + 1)) (sym (append-nil query)) ∙ pchars_good (codes "/?") query_literal (at + 1) query [] h (λ n. refl)

slash_is : (c : ℕ) (rest : List ℕ) → is_slash c ≡ true → is_allowed c rest ≡ true
slash_is c rest e = left (is_literal c) _ (literal c e)
  where
    left : (a b : Bool) → a ≡ true → (a || b) ≡ true
    left true b e = refl
    left false b e = absurd cc

    literal : (c : ℕ) → is_slash c ≡ true → is_literal c ≡ true
    literal c e = grind (arith, nat_tests)

target_good : (at : ℕ) (path : List ℕ) (query : Option (List ℕ)) → is_path path ≡ true → IfSome query (λ q. IsTrue (is_query q)) → rest_fault_at at (path ++ with_mark 63 query) ≡ None
target_good at [] query e h = query_good query h at
target_good at (c ∷ rest) query e h =
    let parts = both (is_slash c) (are_pchars_or (codes "/") rest) e in
    rw (slash_is c (rest ++ with_mark 63 query) parts.0) (pchars_good (codes "/") slash_literal (at + 1) rest (with_mark 63 query) parts.1 (query_good query h))

pub spelled_no_fault : (p : Components) → IsUri p → length (text_of p) ≤ MAX_LEN → text_fault (text_of p) ≡ None
spelled_no_fault p u short =
    let a = IsApart-from_uri p u in
    let t = text_of p in
    let s = scheme_good _ _ p.scheme (authority_of p ++ target_of p) refl refl u.scheme in
    let userinfo : userinfo_fault t ≡ None = ap (λ (x : List ℕ). cond (list_any (λ c. eqb c 64) x) (Some fault.Userinfo) None) (authority_is p a) ∙ rw (authority_no_at p u) refl in
    let host : host_fault t ≡ None = ap (host_fault_at (authority_start t)) (host_is p a) ∙ host_good (authority_start t) p.host u.host in
    let port : port_fault t ≡ None = ap port_fault_in (port_is p a) ∙ port_good p.port u.port in
    let at = authority_start t + length (authority_in t) in
    let rest : rest_fault t ≡ None = ap (rest_fault_at at) (target_is p a) ∙ target_good at p.path p.query u.path u.query in
    no_fault t short s userinfo host port rest

-- What the grammar spells, and is short enough, has the normal form of its components.
pub spelled_normal : (p : Components) (text : List ℕ) → IsUri p → text ≡ text_of p → length text ≤ MAX_LEN → length (text_of (normal_components p)) ≤ MAX_LEN → normal_of text ≡ Ok (text_of (normal_components p))
spelled_normal p text u e short short_normal =
    let none : text_fault text ≡ None = ap text_fault e ∙ spelled_no_fault p u (omega (arith, ap length e)) in
    reads text (text_of (normal_components p)) none (ap (λ q. text_of (normal_components q)) (sym (components_of-spelled p text u e))) short_normal
