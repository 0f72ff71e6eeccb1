-- A package that is put into a URI is found again.
use Rattle.std.proofs.Common.{◌≡◌, ℕ, ◌+◌, ◌<◌, ◌≤◌, Bool, true, false, not, eqb, ◌&&◌, ◌||◌, List, [], ◌∷◌, ◌++◌, length, drop, Option, Some, None, Ok, refl, sym, ap, subst, ◌∙◌, append_assoc, arith}
use Rattle.std.specs.Prelude.{codes, nat_eq, IfSome, IsTrue}
use Rattle.std.specs.List.{list_all, starts_with}
use Rattle.std.proofs.lemmas.Bool.{lt-ltb}
use Rattle.std.proofs.lemmas.Bool.Decides.{nat_tests}
use Rattle.std.proofs.lemmas.List.{append-nil, length-append, length-drop, drop_at, drop-append-le}
use Rattle.std.proofs.lemmas.List.Folds.{list_all-append}
use Rattle.usp_uri.specs.declared.limits.TheConstants.{MAX_LEN}
use Rattle.usp_uri.specs.Letters.{is_colon, is_hash, ends_authority, ends_path, is_unreserved, is_sub_delim, is_one_of, is_literal}
use Rattle.usp_uri.specs.Delimited.{with_mark}
use Rattle.usp_uri.specs.Components.{Components, components_of, text_of, authority_of, target_of, query_in}
use Rattle.usp_uri.specs.Faults.{normal_of, begins_with_digits}
use Rattle.usp_uri.specs.Grammar.{IsUri, is_query}
use Rattle.usp_uri.proofs.GrammarLemmas.{is_free_of, until-front, from_first-front}
use Rattle.usp_uri.proofs.ComponentLaws.{both, IsApart-from_uri, drop_past, query_begins, until_all}
use Rattle.usp_uri.proofs.NormalLemmas.{accepted}
use Rattle.usp_uri.proofs.AcceptedLaws.{accepted_spelled, swap_test}
use Rattle.usp_uri.proofs.SpelledLaws.{digits_stay}
use Rattle.usp_uri.proofs.EscapeLaws.{all_pass}
use Rattle.usp_uri.proofs.QueryLaws.{begun_normal, grown_normal}
use Rattle.usp_package.specs.Name.{is_name_byte, is_attr_name}
use Rattle.usp_package.specs.Package.{first_from, begins_authority, Zones, zones_of, separates, is_first, is_named, is_place_at, is_place_in, IsFirstPlace, is_run_byte, IsSplit, Finds, nothing, carried, package_of, joint, embedded}
use Rattle.usp_package.proofs.FindLaws.{package_of_finds}
use Rattle.usp_package.proofs.UniqueLaws.{package_of_only}

-- ---- the zones of a text that the grammar spells

colon_no : (c : ℕ) → not (is_colon c) ≡ true → eqb 58 c ≡ false
colon_no c e = grind (arith, nat_tests)

-- a scheme has no colon, so the first "://" stands behind it
scan_scheme : (at : ℕ) (scheme rest : List ℕ) → is_free_of is_colon scheme ≡ true → first_from begins_authority at (scheme ++ (codes "://" ++ rest)) ≡ Some (at + length scheme)
scan_scheme at [] rest free = ap (λ n. Some n) (omega arith)
scan_scheme at (c ∷ scheme) rest free =
    let first = both (not (is_colon c)) (is_free_of is_colon scheme) free in
    let one_more : at + 1 + length scheme ≡ at + length (c ∷ scheme) = omega arith in
    rw (colon_no c first.0) (scan_scheme (at + 1) scheme rest first.1 ∙ ap (λ n. Some n) one_more)

abbrev made : ℕ → ℕ → ℕ → Zones
made path query tail = record { path = path; query = query; tail = tail }

-- where the path begins, and where it ends
abbrev path_at : Components → ℕ
path_at p = length p.scheme + 3 + length (authority_of p)

abbrev query_at : Components → ℕ
query_at p = path_at p + length p.path

zones_text : (p : Components) → IsUri p → zones_of (text_of p) ≡ Some (made (path_at p) (query_at p) (query_at p + length (with_mark 63 p.query)))
zones_text p u =
    let a = IsApart-from_uri p u in
    let scanned : first_from begins_authority 0 (text_of p) ≡ Some (length p.scheme) = scan_scheme 0 p.scheme (authority_of p ++ target_of p) a.scheme ∙ ap (λ n. Some n) (omega arith) in
    let behind = drop_past p.scheme (authority_of p ++ target_of p) in
    let authority = until-front ends_authority (authority_of p) (target_of p) a.authority a.target in
    let target = from_first-front ends_authority (authority_of p) (target_of p) a.authority a.target in
    let path = until-front ends_path p.path (with_mark 63 p.query) a.path (query_begins p.query) in
    let query = from_first-front ends_path p.path (with_mark 63 p.query) a.path (query_begins p.query) in
    let tail = until_all is_hash (with_mark 63 p.query) a.query in
    rw (scanned, behind, authority, target, path, query, tail) refl

length_text : (p : Components) → length (text_of p) ≡ query_at p + length (with_mark 63 p.query)
length_text p =
    omega (
      arith,
      length-append p.scheme (codes "://" ++ (authority_of p ++ target_of p)),
      length-append (authority_of p) (target_of p),
      length-append p.path (with_mark 63 p.query),
    )

-- ---- the URI with the package

abbrev package_text : List ℕ → List ℕ → List ℕ
package_text name token = name ++ (61 ∷ token)

abbrev with_package : Option (List ℕ) → List ℕ → List ℕ → List ℕ
with_package None name token = package_text name token
with_package (Some query) name token = query ++ (38 ∷ package_text name token)

abbrev signed : Components → List ℕ → List ℕ → Components
signed p name token = record p { query = Some (with_package p.query name token) }

query_whole : (query : Option (List ℕ)) (name token : List ℕ) → with_mark 63 query ++ (joint query ∷ package_text name token) ≡ with_mark 63 (Some (with_package query name token))
query_whole None name token = refl
query_whole (Some query) name token = refl

signed_text : (p : Components) (name token : List ℕ) → embedded name (text_of p) p.query token ≡ text_of (signed p name token)
signed_text p name token =
    let more = joint p.query ∷ package_text name token in
    append_assoc p.scheme (codes "://" ++ (authority_of p ++ target_of p)) more
    ∙ ap (λ (t : List ℕ). p.scheme ++ (codes "://" ++ t))
    (append_assoc (authority_of p) (target_of p) more ∙ ap (λ (t : List ℕ). authority_of p ++ t) (append_assoc p.path (with_mark 63 p.query) more ∙ ap (λ (t : List ℕ). p.path ++ t) (query_whole p.query name token)))

name_unreserved : (c : ℕ) → is_name_byte c ≡ true → is_unreserved c ≡ true
name_unreserved c e = grind (arith, nat_tests)

run_unreserved : (c : ℕ) → is_run_byte c ≡ true → is_unreserved c ≡ true
run_unreserved c e = grind (arith, nat_tests)

unreserved_query : (good : ℕ → Bool) → ((c : ℕ) → good c ≡ true → is_unreserved c ≡ true) → (text : List ℕ) → list_all good text ≡ true → is_query text ≡ true
unreserved_query good out [] e = refl
unreserved_query good out (c ∷ rest) e =
    let first = both (good c) (list_all good rest) e in
    rw (out c first.0, unreserved_query good out rest first.1) refl

abbrev is_query_byte : ℕ → Bool
is_query_byte c = is_unreserved c || is_sub_delim c || is_one_of (codes ":@") c || is_one_of (codes "/?") c

query_joined : (a b : List ℕ) → is_query a ≡ true → is_query b ≡ true → is_query (a ++ b) ≡ true
query_joined [] b e f = f
query_joined (c ∷ rest) b e f =
    let first = both (is_query_byte c || (eqb c 37 && begins_with_digits rest)) (is_query rest) e in
    all_pass (is_query_byte c || (eqb c 37 && begins_with_digits (rest ++ b))) (is_query (rest ++ b))
    (swap_test (is_query_byte c) (eqb c 37) (begins_with_digits rest) (is_query_byte c) (begins_with_digits (rest ++ b)) (λ l. l) (digits_stay rest b) first.0)
    (query_joined rest b first.1 f)

package_query : (name token : List ℕ) → list_all is_name_byte name ≡ true → list_all is_run_byte token ≡ true → is_query (package_text name token) ≡ true
package_query name token n t =
    query_joined name (61 ∷ token) (unreserved_query is_name_byte name_unreserved name n) (unreserved_query is_run_byte run_unreserved token t)

signed_query : (query : Option (List ℕ)) (name token : List ℕ) → IfSome query (λ q. IsTrue (is_query q)) → is_query (package_text name token) ≡ true → is_query (with_package query name token) ≡ true
signed_query None name token h e = e
signed_query (Some query) name token h e = query_joined query (38 ∷ package_text name token) h e

signed_uri : (p : Components) (name token : List ℕ) → IsUri p → list_all is_name_byte name ≡ true → list_all is_run_byte token ≡ true → IsUri (signed p name token)
signed_uri p name token u n t =
    record { scheme = u.scheme; host = u.host; port = u.port; path = u.path; query = signed_query p.query name token u.query (package_query name token n t) }

-- ---- no place before the joint

name_no_joint : (n : ℕ) (query : Option (List ℕ)) → is_name_byte n ≡ true → eqb n (joint query) ≡ false
name_no_joint n None e = grind (arith, nat_tests)
name_no_joint n (Some query) e = grind (arith, nat_tests)

and_false : (a b : Bool) → a ≡ false → (a && b) ≡ false
and_false false b e = refl
and_false true b e = absurd cc

joint_no_equals : (query : Option (List ℕ)) → eqb (joint query) 61 ≡ false
joint_no_equals None = refl
joint_no_equals (Some query) = refl

-- a name that begins before the joint ends before it
named_same : (query : Option (List ℕ)) (name rest more : List ℕ) → list_all is_name_byte name ≡ true → is_named name (rest ++ (joint query ∷ more)) ≡ is_named name rest
named_same query [] [] more e = joint_no_equals query
named_same query [] (c ∷ rest) more e = refl
named_same query (n ∷ name) [] more e =
    let first = both (is_name_byte n) (list_all is_name_byte name) e in
    rw (name_no_joint n query first.0) refl
named_same query (n ∷ name) (c ∷ rest) more e =
    let first = both (is_name_byte n) (list_all is_name_byte name) e in
    byte_case (eqb n c) (starts_with nat_eq (rest ++ (joint query ∷ more)) name) (is_first 61 (drop (length name) (rest ++ (joint query ∷ more)))) (starts_with nat_eq rest name) (is_first 61 (drop (length name) rest))
    (named_same query name rest more first.1)
  where
    byte_case : (a b d f g : Bool) → (b && d) ≡ (f && g) → ((a && b) && d) ≡ ((a && f) && g)
    byte_case true b d f g same = same
    byte_case false b d f g same = refl

separates_same : (path query tail longer at c : ℕ) → at < tail → tail ≤ longer → separates (made path query longer) at c ≡ separates (made path query tail) at c
separates_same path query tail longer at c l m =
    let below : at < longer = omega arith in
    rw (lt-ltb at longer below, lt-ltb at tail l) refl

place_same : (query : Option (List ℕ)) (name : List ℕ) (path zone tail longer at : ℕ) (here more : List ℕ) → list_all is_name_byte name ≡ true → at < tail → tail ≤ longer → 1 ≤ length here
    → is_place_at name (made path zone longer) at (here ++ (joint query ∷ more)) ≡ is_place_at name (made path zone tail) at here
place_same query name path zone tail longer at [] more e l m some = absurd (omega arith)
place_same query name path zone tail longer at (c ∷ rest) more e l m some =
    ap (λ b. b && is_named name (rest ++ (joint query ∷ more))) (separates_same path zone tail longer at c l m)
    ∙ ap (λ b. separates (made path zone tail) at c && b) (named_same query name rest more e)

-- ---- the place at the joint

named_here : (name more : List ℕ) → is_named name (name ++ (61 ∷ more)) ≡ true
named_here [] more = refl
named_here (n ∷ name) more = rw (same n) (named_here name more)
  where
    same : (n : ℕ) → eqb n n ≡ true
    same n = grind (arith, nat_tests)

-- the joint separates: it is the '?' that begins the query, or a '&' in it
joint_separates : (query : Option (List ℕ)) (path zone at tail : ℕ) → at ≡ zone + length (with_mark 63 query) → at < tail → separates (made path zone tail) at (joint query) ≡ true
joint_separates None path zone at tail is below = grind (arith, nat_tests)
joint_separates (Some query) path zone at tail is below = grind (arith, nat_tests)

name_bytes : (name : List ℕ) → is_attr_name name ≡ true → list_all is_name_byte name ≡ true
name_bytes name e = (both _ _ (both _ _ e).1).1

embedded_place : (p : Components) (name token : List ℕ) → IsUri p → list_all is_name_byte name ≡ true → list_all is_run_byte token ≡ true → Finds name (text_of p) nothing
    → IsFirstPlace name (embedded name (text_of p) p.query token) (length (text_of p))
embedded_place p name token u n t none =
    let text = embedded name (text_of p) p.query token in
    let q = signed p name token in
    let zones : zones_of text ≡ Some (made (path_at p) (query_at p) (query_at p + length (with_mark 63 q.query))) = ap zones_of (signed_text p name token) ∙ zones_text q (signed_uri p name token u n t) in
    let whole = length_text p in
    let longer : length (text_of p) < query_at p + length (with_mark 63 q.query) =
    omega (arith, length_text q, ap length (signed_text p name token), length-append (text_of p) (joint p.query ∷ package_text name token)) in
    let at : drop (length (text_of p)) text ≡ joint p.query ∷ package_text name token = drop_at (text_of p) (joint p.query ∷ package_text name token) (length (text_of p)) refl in
    record {
      here = rw (zones, at)
          (all_pass (separates (made (path_at p) (query_at p) (query_at p + length (with_mark 63 q.query))) (length (text_of p)) (joint p.query)) (is_named name (package_text name token))
          (joint_separates p.query (path_at p) (query_at p) (length (text_of p)) (query_at p + length (with_mark 63 q.query)) whole longer) (named_here name token));
      first = λ j below.
          let cut : drop j text ≡ drop j (text_of p) ++ (joint p.query ∷ package_text name token) = drop-append-le j (text_of p) (joint p.query ∷ package_text name token) (omega arith) in
          let same = place_same p.query name (path_at p) (query_at p) (query_at p + length (with_mark 63 p.query)) (query_at p + length (with_mark 63 q.query)) j (drop j (text_of p)) (package_text name token) n (omega (arith, whole)) (omega (arith, whole, longer)) (omega (arith, length-drop j (text_of p))) in
          let before = ap (λ z. is_place_in z name (text_of p) j) (sym (zones_text p u)) ∙ none j in
          ap (λ z. is_place_in z name text j) zones ∙ ap (λ (here : List ℕ). is_place_at name (made (path_at p) (query_at p) (query_at p + length (with_mark 63 q.query))) j here) cut ∙ same ∙ before;
    }

embedded_carries : (p : Components) (name token : List ℕ) → IsUri p → list_all is_name_byte name ≡ true → list_all is_run_byte token ≡ true → Finds name (text_of p) nothing
    → Finds name (embedded name (text_of p) p.query token) (carried token (text_of p) [])
embedded_carries p name token u n t none =
    let split : IsSplit name (embedded name (text_of p) p.query token) (text_of p) (joint p.query) token [] =
    record {
      whole = ap (λ (k : List ℕ). text_of p ++ (joint p.query ∷ (name ++ (61 ∷ k)))) (sym (append-nil token));
      place = embedded_place p name token u n t none;
      run = t;
      past = tt;
    } in
    (text_of p, joint p.query, [], split, (refl, refl))

-- What `embed` makes of a URI that has no package is found again: this token, and the URI before it.
pub embedded_again : (name uri token : List ℕ) → is_attr_name name ≡ true → normal_of uri ≡ Ok uri → list_all is_run_byte token ≡ true → package_of name uri ≡ nothing
    → (text : List ℕ) → text ≡ embedded name uri (query_in uri) token → package_of name text ≡ carried token uri []
embedded_again name uri token attr normal run none text is =
    let s = accepted_spelled uri (accepted uri uri normal).0 in
    let p = components_of uri in
    let nowhere : Finds name uri nothing = subst (λ k. Finds name uri k) none (package_of_finds name uri) in
    let found = embedded_carries p name token s.uri (name_bytes name attr) run (subst (λ (t : List ℕ). Finds name t nothing) s.whole nowhere) in
    let here = subst (λ (t : List ℕ). Finds name (embedded name t (query_in uri) token) (carried token t [])) (sym s.whole) found in
    package_of_only name text (carried token uri []) (subst (λ (t : List ℕ). Finds name t (carried token uri [])) (sym is) here)

-- ---- a URI with a package is in normal form

unreserved_literal : (good : ℕ → Bool) → ((c : ℕ) → good c ≡ true → is_unreserved c ≡ true) → (text : List ℕ) → list_all good text ≡ true → list_all is_literal text ≡ true
unreserved_literal good out [] e = refl
unreserved_literal good out (c ∷ rest) e =
    let first = both (good c) (list_all good rest) e in
    rw (out c first.0, unreserved_literal good out rest first.1) refl

package_literal : (name token : List ℕ) → list_all is_name_byte name ≡ true → list_all is_run_byte token ≡ true → list_all is_literal (package_text name token) ≡ true
package_literal name token n t =
    list_all-append is_literal name (61 ∷ token)
    ∙ all_pass (list_all is_literal name) (list_all is_literal (61 ∷ token)) (unreserved_literal is_name_byte name_unreserved name n) (unreserved_literal is_run_byte run_unreserved token t)

by_query : (query : Option (List ℕ)) (name uri token : List ℕ) → query_in uri ≡ query → normal_of uri ≡ Ok uri → list_all is_literal (package_text name token) ≡ true
    → length (embedded name uri query token) ≤ MAX_LEN → normal_of (embedded name uri query token) ≡ Ok (embedded name uri query token)
by_query None name uri token is normal literal short = begun_normal uri (package_text name token) normal is literal short
by_query (Some query) name uri token is normal literal short = grown_normal uri query (38 ∷ package_text name token) normal is literal short

-- What `embed` makes is read as itself where it is short enough.
pub embedded_normal : (name uri token : List ℕ) → is_attr_name name ≡ true → normal_of uri ≡ Ok uri → list_all is_run_byte token ≡ true
    → (text : List ℕ) → text ≡ embedded name uri (query_in uri) token → length text ≤ MAX_LEN → normal_of text ≡ Ok text
embedded_normal name uri token attr normal run text is short =
    subst (λ (t : List ℕ). normal_of t ≡ Ok t) (sym is)
    (by_query (query_in uri) name uri token refl normal (package_literal name token (name_bytes name attr) run) (omega (arith, ap length is)))

pub length-embedded : (name uri token : List ℕ) (query : Option (List ℕ)) (text : List ℕ) → text ≡ embedded name uri query token → length text ≡ length uri + length name + length token + 2
length-embedded name uri token query text is = omega (arith, ap length is, length-append uri (joint query ∷ package_text name token), length-append name (61 ∷ token))
