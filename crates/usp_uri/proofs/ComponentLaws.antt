-- A text that the grammar spells is cut into the components that spell it.
use Rattle.std.proofs.Common.{◌≡◌, ℕ, suc, ◌+◌, Bool, true, false, not, eqb, ◌&&◌, ◌||◌, List, [], ◌∷◌, ◌++◌, length, map, drop, Option, Some, None, refl, sym, ap, ◌∙◌, arith}
use Rattle.std.specs.Prelude.{codes, IfSome, IsTrue}
use Rattle.std.specs.List.{list_all}
use Rattle.std.specs.Str.{bytes_eq, str_eq_ignore_ascii_case}
use Rattle.std.specs.Char.{is_ascii_digit, is_ascii_lowercase, to_ascii_lowercase}
use Rattle.std.proofs.lemmas.Bool.Decides.{nat_tests}
use Rattle.std.proofs.lemmas.List.{append-nil}
use Rattle.std.proofs.lemmas.List.Folds.{list_all-append}
use Rattle.usp_uri.specs.Letters.{is_colon, is_slash, is_hash, ends_authority, ends_path, is_host_byte, is_unreserved, is_sub_delim, is_one_of}
use Rattle.usp_uri.specs.Delimited.{until, from_first, after_mark, with_mark}
use Rattle.usp_uri.specs.Components.{Components, text_of, authority_of, target_of, components_of, scheme_in, after_scheme, authority_in, after_authority, host_in, port_in, path_in, query_in}
use Rattle.usp_uri.specs.Faults.{is_port, begins_with_digits}
use Rattle.usp_uri.specs.Grammar.{IsUri, is_host, is_path, is_query, are_pchars_or}
use Rattle.usp_uri.proofs.GrammarLemmas.{is_free_of, begins_in, until-front, from_first-front}

-- what the classes leave out: the facts on which the cutting rests
pub record IsApart (p : Components) : Type 0 where
  pub scheme : is_free_of is_colon p.scheme ≡ true
  pub host_colon : is_free_of is_colon p.host ≡ true
  pub authority : is_free_of ends_authority (authority_of p) ≡ true
  pub target : begins_in ends_authority (target_of p) ≡ true
  pub path : is_free_of ends_path p.path ≡ true
  pub query : is_free_of is_hash (with_mark 63 p.query) ≡ true

pub drop_past : (front rest : List ℕ) → drop (length front + 3) (front ++ (codes "://" ++ rest)) ≡ rest
drop_past [] rest = refl
drop_past (c ∷ front) rest = let shift : suc (length front) + 3 ≡ suc (length front + 3) = omega arith in rw shift (drop_past front rest)

colon_begins : (port : Option (List ℕ)) → begins_in is_colon (with_mark 58 port) ≡ true
colon_begins None = refl
colon_begins (Some port) = refl

pub query_begins : (query : Option (List ℕ)) → begins_in ends_path (with_mark 63 query) ≡ true
query_begins None = refl
query_begins (Some query) = refl

after-with : (c : ℕ) (text : Option (List ℕ)) → after_mark (with_mark c text) ≡ text
after-with c None = refl
after-with c (Some text) = refl

pub until_all : (stops : ℕ → Bool) (text : List ℕ) → is_free_of stops text ≡ true → until stops text ≡ text
until_all stops text e = ap (until stops) (sym (append-nil text)) ∙ until-front stops text [] e refl

pub scheme_is : (p : Components) → IsApart p → scheme_in (text_of p) ≡ p.scheme
scheme_is p a = until-front is_colon p.scheme (codes "://" ++ (authority_of p ++ target_of p)) a.scheme refl

after_is : (p : Components) → IsApart p → after_scheme (text_of p) ≡ authority_of p ++ target_of p
after_is p a =
    ap (λ (s : List ℕ). drop (length s + 3) (text_of p)) (scheme_is p a) ∙ drop_past p.scheme (authority_of p ++ target_of p)

pub authority_is : (p : Components) → IsApart p → authority_in (text_of p) ≡ authority_of p
authority_is p a = ap (until ends_authority) (after_is p a) ∙ until-front ends_authority (authority_of p) (target_of p) a.authority a.target

pub target_is : (p : Components) → IsApart p → after_authority (text_of p) ≡ target_of p
target_is p a = ap (from_first ends_authority) (after_is p a) ∙ from_first-front ends_authority (authority_of p) (target_of p) a.authority a.target

pub host_is : (p : Components) → IsApart p → host_in (text_of p) ≡ p.host
host_is p a = ap (until is_colon) (authority_is p a) ∙ until-front is_colon p.host (with_mark 58 p.port) a.host_colon (colon_begins p.port)

pub port_is : (p : Components) → IsApart p → port_in (text_of p) ≡ p.port
port_is p a =
    ap after_mark (ap (from_first is_colon) (authority_is p a) ∙ from_first-front is_colon p.host (with_mark 58 p.port) a.host_colon (colon_begins p.port))
    ∙ after-with 58 p.port

path_is : (p : Components) → IsApart p → path_in (text_of p) ≡ p.path
path_is p a = ap (until ends_path) (target_is p a) ∙ until-front ends_path p.path (with_mark 63 p.query) a.path (query_begins p.query)

query_is : (p : Components) → IsApart p → query_in (text_of p) ≡ p.query
query_is p a =
    let rest = ap (from_first ends_path) (target_is p a) ∙ from_first-front ends_path p.path (with_mark 63 p.query) a.path (query_begins p.query) in
    ap (λ (t : List ℕ). after_mark (until is_hash t)) rest ∙ ap after_mark (until_all is_hash (with_mark 63 p.query) a.query) ∙ after-with 63 p.query

abbrev made : List ℕ → List ℕ → Option (List ℕ) → List ℕ → Option (List ℕ) → Components
made scheme host port path query = record { scheme = scheme; host = host; port = port; path = path; query = query }

pub same_components : (a b : Components) → a.scheme ≡ b.scheme → a.host ≡ b.host → a.port ≡ b.port → a.path ≡ b.path → a.query ≡ b.query → a ≡ b
same_components a b scheme host port path query =
    ap (λ s. made s a.host a.port a.path a.query) scheme ∙ ap (λ h. made b.scheme h a.port a.path a.query) host
    ∙ ap (λ t. made b.scheme b.host t a.path a.query) port ∙ ap (λ t. made b.scheme b.host b.port t a.query) path ∙ ap (λ t. made b.scheme b.host b.port b.path t) query

pub components_of-text_of : (p : Components) → IsApart p → components_of (text_of p) ≡ p
components_of-text_of p a = same_components (components_of (text_of p)) p (scheme_is p a) (host_is p a) (port_is p a) (path_is p a) (query_is p a)

-- ---- the grammar keeps the components apart

pub both : (a b : Bool) → (a && b) ≡ true → (a ≡ true) × (b ≡ true)
both true b e = (refl, e)
both false b e = absurd cc

-- a class that leaves another out, over a text
pub apart : (good stops : ℕ → Bool) → ((c : ℕ) → good c ≡ true → stops c ≡ false) → (text : List ℕ) → list_all good text ≡ true → is_free_of stops text ≡ true
apart good stops out [] e = refl
apart good stops out (c ∷ rest) e =
    let parts = both (good c) (list_all good rest) e in
    rw (out c parts.0, apart good stops out rest parts.1) refl

pub host_no_colon : (c : ℕ) → is_host_byte c ≡ true → is_colon c ≡ false
host_no_colon c e = grind (arith, nat_tests)

host_in_authority : (c : ℕ) → is_host_byte c ≡ true → ends_authority c ≡ false
host_in_authority c e = grind (arith, nat_tests)

digit_in_authority : (c : ℕ) → is_ascii_digit c ≡ true → ends_authority c ≡ false
digit_in_authority c e = grind (arith, nat_tests)

pchar_in_path : (c : ℕ) → (is_unreserved c || is_sub_delim c || is_one_of (codes ":@") c || is_one_of (codes "/") c || eqb c 37) ≡ true → ends_path c ≡ false
pchar_in_path c e = grind (arith, nat_tests)

qchar_no_hash : (c : ℕ) → (is_unreserved c || is_sub_delim c || is_one_of (codes ":@") c || is_one_of (codes "/?") c || eqb c 37) ≡ true → is_hash c ≡ false
qchar_no_hash c e = grind (arith, nat_tests)

pub weaken : (x p d : Bool) → (x || (p && d)) ≡ true → (x || p) ≡ true
weaken true p d e = refl
weaken false true d e = refl
weaken false false d e = absurd cc

-- a run of pchars leaves out what each of its bytes does
pchars_apart : (others : List ℕ) (stops : ℕ → Bool)
    → ((c : ℕ) → (is_unreserved c || is_sub_delim c || is_one_of (codes ":@") c || is_one_of others c || eqb c 37) ≡ true → stops c ≡ false)
    → (text : List ℕ) → are_pchars_or others text ≡ true → is_free_of stops text ≡ true
pchars_apart others stops out [] e = refl
pchars_apart others stops out (c ∷ rest) e =
    let parts = both (is_unreserved c || is_sub_delim c || is_one_of (codes ":@") c || is_one_of others c || (eqb c 37 && begins_with_digits rest)) (are_pchars_or others rest) e in
    let this = weaken (is_unreserved c || is_sub_delim c || is_one_of (codes ":@") c || is_one_of others c) (eqb c 37) (begins_with_digits rest) parts.0 in
    rw (out c this, pchars_apart others stops out rest parts.1) refl

letter_is : (l c : ℕ) → is_ascii_lowercase l ≡ true → eqb (to_ascii_lowercase c) (to_ascii_lowercase l) ≡ true → is_colon c ≡ false
letter_is l c letter same = grind (arith, nat_tests)

name_free : (name text : List ℕ) → list_all is_ascii_lowercase name ≡ true → bytes_eq (map to_ascii_lowercase text) (map to_ascii_lowercase name) ≡ true → is_free_of is_colon text ≡ true
name_free name [] letters e = refl
name_free [] (c ∷ rest) letters e = absurd cc
name_free (l ∷ name) (c ∷ rest) letters e =
    let ls = both (is_ascii_lowercase l) (list_all is_ascii_lowercase name) letters in
    let this = both (eqb (to_ascii_lowercase c) (to_ascii_lowercase l)) (bytes_eq (map to_ascii_lowercase rest) (map to_ascii_lowercase name)) e in
    rw (letter_is l c ls.0 this.0, name_free name rest ls.1 this.1) refl

scheme_free : (a b : Bool) (scheme : List ℕ) → str_eq_ignore_ascii_case scheme (codes "http") ≡ a → str_eq_ignore_ascii_case scheme (codes "https") ≡ b → (a || b) ≡ true → is_free_of is_colon scheme ≡ true
scheme_free true b scheme http https e = name_free (codes "http") scheme refl http
scheme_free false true scheme http https e = name_free (codes "https") scheme refl https
scheme_free false false scheme http https e = absurd cc

pub host_all : (host : List ℕ) → is_host host ≡ true → list_all is_host_byte host ≡ true
host_all [] e = absurd cc
host_all (c ∷ rest) e = e

pub port_all : (port : List ℕ) → is_port port ≡ true → list_all is_ascii_digit port ≡ true
port_all [] e = refl
port_all (c ∷ rest) e = (both _ _ e).0

port_free : (port : Option (List ℕ)) → IfSome port (λ p. IsTrue (is_port p)) → is_free_of ends_authority (with_mark 58 port) ≡ true
port_free None h = refl
port_free (Some port) h = apart is_ascii_digit ends_authority digit_in_authority port (port_all port h)

path_begins : (path : List ℕ) (query : Option (List ℕ)) → is_path path ≡ true → begins_in ends_authority (path ++ with_mark 63 query) ≡ true
path_begins [] None e = refl
path_begins [] (Some query) e = refl
path_begins (c ∷ rest) query e = slash_ends c (both (is_slash c) (are_pchars_or (codes "/") rest) e).0
  where
    slash_ends : (c : ℕ) → is_slash c ≡ true → ends_authority c ≡ true
    slash_ends c e = grind (arith, nat_tests)

slash_no_end : (c : ℕ) → is_slash c ≡ true → ends_path c ≡ false
slash_no_end c e = grind (arith, nat_tests)

path_free : (path : List ℕ) → is_path path ≡ true → is_free_of ends_path path ≡ true
path_free [] e = refl
path_free (c ∷ rest) e =
    let parts = both (is_slash c) (are_pchars_or (codes "/") rest) e in
    rw (slash_no_end c parts.0, pchars_apart (codes "/") ends_path pchar_in_path rest parts.1) refl

query_free : (query : Option (List ℕ)) → IfSome query (λ q. IsTrue (is_query q)) → is_free_of is_hash (with_mark 63 query) ≡ true
query_free None h = refl
query_free (Some query) h = pchars_apart (codes "/?") is_hash qchar_no_hash query h

pub IsApart-from_uri : (p : Components) → IsUri p → IsApart p
IsApart-from_uri p u =
    record {
      scheme = scheme_free _ _ p.scheme refl refl u.scheme;
      host_colon = apart is_host_byte is_colon host_no_colon p.host (host_all p.host u.host);
      authority = list_all-append (λ c. not (ends_authority c)) p.host (with_mark 58 p.port) ∙ rw (apart is_host_byte ends_authority host_in_authority p.host (host_all p.host u.host), port_free p.port u.port) refl;
      target = path_begins p.path p.query u.path;
      path = path_free p.path u.path;
      query = query_free p.query u.query;
    }

-- A text that the grammar spells is cut into the components that spell it: so no text is spelled in two ways.
pub components_of-spelled : (p : Components) (text : List ℕ) → IsUri p → text ≡ text_of p → components_of text ≡ p
components_of-spelled p text u e = ap components_of e ∙ components_of-text_of p (IsApart-from_uri p u)
