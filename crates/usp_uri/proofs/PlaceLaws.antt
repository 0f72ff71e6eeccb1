-- A place, and a URI that is moved to it.
use Rattle.std.proofs.Common.{◌≡◌, ℕ, ◌≤◌, Bool, true, false, List, [], ◌∷◌, ◌++◌, length, Option, Some, None, Result, Ok, Err, refl, sym, ap, subst, ◌∙◌, append_assoc, arith}
use Rattle.std.specs.Prelude.{codes}
use Rattle.std.specs.List.{list_all}
use Rattle.std.proofs.lemmas.Bool.Decides.{nat_tests}
use Rattle.std.proofs.lemmas.List.Folds.{list_all-append}
use Rattle.usp_uri.specs.declared.limits.TheConstants.{MAX_LEN}
use Rattle.usp_uri.specs.declared.fault.UriFault.{UriFault}
use Rattle.usp_uri.specs.declared.fault.UriFault.TheVariants as fault
use Rattle.usp_uri.specs.Letters.{is_slash, ends_authority}
use Rattle.usp_uri.specs.Delimited.{with_mark, first_outside}
use Rattle.usp_uri.specs.Components.{Components, components_of, text_of, authority_of, target_of, scheme_in, authority_start, after_scheme, authority_in, after_authority, host_in, port_in, path_in, query_in}
use Rattle.usp_uri.specs.Normal.{normal_components}
use Rattle.usp_uri.specs.Faults.{normal_of}
use Rattle.usp_uri.specs.Grammar.{IsUri, Spells, is_path, are_pchars_or}
use Rattle.usp_uri.specs.Answers.{Refuses}
use Rattle.usp_uri.specs.Origin.{Origin, origin_text, root_of, IsNormalOrigin, is_no_path_byte, origin_from, origin_of, moved_text}
use Rattle.usp_uri.proofs.CutLemmas.{until-append}
use Rattle.usp_uri.proofs.ComponentLaws.{both, same_components, components_of-spelled, IsApart-from_uri, authority_is, target_is}
use Rattle.usp_uri.proofs.NormalLemmas.{accepted}
use Rattle.usp_uri.proofs.AcceptedLaws.{accepted_spelled, all_inside}
use Rattle.usp_uri.proofs.NormalLaws.{IsNormal, normal_has, normal_reads, normal_is_uri}

authority_whole : (text : List ℕ) → Spells (components_of text) text → authority_in text ≡ authority_of (components_of text)
authority_whole text s = ap authority_in s.whole ∙ authority_is (components_of text) (IsApart-from_uri (components_of text) s.uri)

target_whole : (text : List ℕ) → Spells (components_of text) text → after_authority text ≡ target_of (components_of text)
target_whole text s = ap after_authority s.whole ∙ target_is (components_of text) (IsApart-from_uri (components_of text) s.uri)

-- a text without a fault is its parts, put together
pub parts_whole : (text : List ℕ) → normal_of text ≡ Ok text → text ≡ origin_text (scheme_in text) (authority_in text) ++ (path_in text ++ with_mark 63 (query_in text))
parts_whole text e =
    let s = accepted_spelled text (accepted text text e).0 in
    s.whole ∙ ap (λ (t : List ℕ). scheme_in text ++ (codes "://" ++ (t ++ target_of (components_of text)))) (sym (authority_whole text s))
    ∙ sym (append_assoc (scheme_in text) (codes "://" ++ authority_in text) (target_of (components_of text)))

-- ---- moving

-- scheme and authority of the one, path and query of the other
abbrev mixed : List ℕ → List ℕ → Components
mixed root uri = record { scheme = scheme_in root; host = host_in root; port = port_in root; path = path_in uri; query = query_in uri }

mixed_normal : (root uri : List ℕ) → IsNormal (components_of root) → IsNormal (components_of uri) → IsNormal (mixed root uri)
mixed_normal root uri r u =
    record {
      uri = record { scheme = r.uri.scheme; host = r.uri.host; port = r.uri.port; path = u.uri.path; query = u.uri.query };
      stays = same_components (normal_components (mixed root uri)) (mixed root uri) (ap (λ p. p.scheme) r.stays) (ap (λ p. p.host) r.stays) (ap (λ p. p.port) r.stays) (ap (λ p. p.path) u.stays) (ap (λ p. p.query) u.stays);
    }

mixed_text : (root uri : List ℕ) → Spells (components_of root) root → Spells (components_of uri) uri
    → scheme_in root ++ (codes "://" ++ (authority_in root ++ after_authority uri)) ≡ text_of (mixed root uri)
mixed_text root uri r u =
    ap (λ (t : List ℕ). scheme_in root ++ (codes "://" ++ (t ++ after_authority uri))) (authority_whole root r)
    ∙ ap (λ (t : List ℕ). scheme_in root ++ (codes "://" ++ (authority_of (components_of root) ++ t))) (target_whole uri u)

-- What is moved is in normal form.
pub moved_normal : (place : Origin) (uri text : List ℕ) → IsNormalOrigin place → normal_of uri ≡ Ok uri → text ≡ moved_text uri place → length text ≤ MAX_LEN → normal_of text ≡ Ok text
moved_normal place uri text p u is short =
    let root = root_of place in
    let ours = accepted_spelled root (accepted root root p.normal).0 in
    let theirs = accepted_spelled uri (accepted uri uri u).0 in
    let whole : text ≡ text_of (mixed root uri) =
    is ∙ ap (λ (t : List ℕ). origin_text t place.authority ++ after_authority uri) (sym p.scheme) ∙ ap (λ (t : List ℕ). origin_text (scheme_in root) t ++ after_authority uri) (sym p.authority)
    ∙ append_assoc (scheme_in root) (codes "://" ++ authority_in root) (after_authority uri) ∙ mixed_text root uri ours theirs in
    subst (λ (t : List ℕ). normal_of t ≡ Ok t) (sym whole) (normal_reads (mixed root uri) (mixed_normal root uri (normal_has root p.normal) (normal_has uri u)) (omega (arith, ap length whole)))

-- the place of a URI in normal form whose path is "/"
pub root_place : (root : List ℕ) (place : Origin) → normal_of root ≡ Ok root → root ≡ origin_text (scheme_in root) (authority_in root) ++ codes "/"
    → place.scheme ≡ scheme_in root → place.authority ≡ authority_in root → IsNormalOrigin place
root_place root place n whole s a =
    let same : root_of place ≡ root = ap (λ (t : List ℕ). origin_text t place.authority ++ codes "/") s ∙ ap (λ (t : List ℕ). origin_text (scheme_in root) t ++ codes "/") a ∙ sym whole in
    record {
      normal = subst (λ (t : List ℕ). normal_of t ≡ Ok t) (sym same) n;
      scheme = ap scheme_in same ∙ sym s;
      authority = ap authority_in same ∙ sym a;
    }

-- ---- places

refused_as : (found : UriFault) (text : List ℕ) (defined : Result (List ℕ) UriFault) → Refuses found defined → Refuses found (origin_from text defined)
refused_as fault.TooLong text defined e = ap (origin_from text) e
refused_as fault.Scheme text defined e = ap (origin_from text) e
refused_as fault.Userinfo text defined e = ap (origin_from text) e
refused_as (fault.Syntax at) text defined e = ap (origin_from text) e
refused_as fault.Port text defined e = ap (origin_from text) e
refused_as (fault.Escape at) text defined e = ap (origin_from text) e
refused_as fault.Fragment text defined e = ap (origin_from text) e
refused_as fault.NoMemory text defined e = tt

-- a text that is refused names no place, by the same fault
pub place_refused : (found : UriFault) (text : List ℕ) → Refuses found (normal_of text) → Refuses found (origin_of text)
unfolding origin_of
place_refused found text e = refused_as found text (normal_of text) e

-- a text with a path or a query names no place
pub place_path : (text normal : List ℕ) (at : ℕ) → normal_of text ≡ Ok normal → first_outside is_no_path_byte (authority_start text) (after_scheme text) ≡ Some at
    → origin_of text ≡ Err (fault.Syntax at)
unfolding origin_of
place_path text normal at e found = rw (e, found) refl

pub place_of : (text normal : List ℕ) → normal_of text ≡ Ok normal → first_outside is_no_path_byte (authority_start text) (after_scheme text) ≡ None
    → origin_of text ≡ Ok (record { scheme = scheme_in normal; authority = authority_in normal })
unfolding origin_of
place_of text normal e none = rw (e, none) refl

record IsBare (p : Components) : Type 0 where
  path : p.path ≡ []
  query : p.query ≡ None

slash_not_outside : (c : ℕ) → is_slash c ≡ true → is_no_path_byte c ≡ false
slash_not_outside c e = grind (arith, nat_tests)

bare : (path : List ℕ) (query : Option (List ℕ)) → is_path path ≡ true → list_all is_no_path_byte (path ++ with_mark 63 query) ≡ true → (path ≡ []) × (query ≡ None)
bare [] None e f = (refl, refl)
bare [] (Some query) e f = absurd cc
bare (c ∷ rest) query e f =
    let slash = slash_not_outside c (both (is_slash c) (are_pchars_or (codes "/") rest) e).0 in
    let first = (both (is_no_path_byte c) (list_all is_no_path_byte (rest ++ with_mark 63 query)) f).0 in
    absurd (differ (is_no_path_byte c) slash first)
  where
    differ : (b : Bool) → b ≡ false → b ≡ true → ⊥
    differ true e f = absurd cc
    differ false e f = absurd cc

-- no '/' and no '?' behind the scheme: no path and no query
bare_text : (text : List ℕ) → Spells (components_of text) text → first_outside is_no_path_byte (authority_start text) (after_scheme text) ≡ None → IsBare (components_of text)
bare_text text s none =
    let all = all_inside is_no_path_byte (authority_start text) (after_scheme text) none in
    let cut = ap (list_all is_no_path_byte) (until-append ends_authority (after_scheme text)) ∙ all in
    let two = sym (list_all-append is_no_path_byte (authority_in text) (after_authority text)) ∙ cut in
    let behind = (both (list_all is_no_path_byte (authority_in text)) (list_all is_no_path_byte (after_authority text)) two).1 in
    let is = bare (path_in text) (query_in text) s.uri.path (ap (list_all is_no_path_byte) (sym (target_whole text s)) ∙ behind) in
    record { path = is.0; query = is.1 }

bare_target : (p : Components) → IsBare p → target_of (normal_components p) ≡ codes "/"
bare_target p b = rw (b.path, b.query) refl

-- The normal form of a place's text is the place and "/".
pub place_root : (text normal : List ℕ) → normal_of text ≡ Ok normal → first_outside is_no_path_byte (authority_start text) (after_scheme text) ≡ None
    → normal ≡ origin_text (scheme_in normal) (authority_in normal) ++ codes "/"
place_root text normal e none =
    let a = accepted text normal e in
    let s = accepted_spelled text a.0 in
    let n = normal_components (components_of text) in
    let same : components_of normal ≡ n = components_of-spelled n normal (normal_is_uri (components_of text) s.uri) (sym a.2) in
    let spelled : Spells (components_of normal) normal = record { uri = subst IsUri (sym same) (normal_is_uri (components_of text) s.uri); whole = sym a.2 ∙ ap text_of (sym same) } in
    let target : target_of (components_of normal) ≡ codes "/" = ap target_of same ∙ bare_target (components_of text) (bare_text text s none) in
    spelled.whole ∙ ap (λ (t : List ℕ). scheme_in normal ++ (codes "://" ++ (authority_of (components_of normal) ++ t))) target
    ∙ ap (λ (t : List ℕ). scheme_in normal ++ (codes "://" ++ (t ++ codes "/"))) (sym (authority_whole normal spelled))
    ∙ sym (append_assoc (scheme_in normal) (codes "://" ++ authority_in normal) (codes "/"))
