-- The bytes of a URI in normal form, as a request line and a Host field take them.
use Rattle.std.proofs.Common.{◌≡◌, ℕ, ◌+◌, ◌<◌, ◌≤◌, Bool, true, eqb, ◌&&◌, ◌||◌, List, [], ◌∷◌, ◌++◌, length, drop, Option, Some, None, Ok, refl, sym, ap, subst, ◌∙◌, append_assoc, length-append, arith}
use Rattle.std.specs.Prelude.{codes, IfSome, IsTrue, nat_lt}
use Rattle.std.specs.List.{list_all}
use Rattle.std.specs.Char.{is_ascii_digit}
use Rattle.std.proofs.lemmas.Bool.Decides.{nat_tests}
use Rattle.std.proofs.lemmas.List.Folds.{list_all-append}
use Rattle.usp_uri.specs.declared.limits.TheConstants.{MAX_LEN}
use Rattle.usp_uri.specs.Letters.{ends_authority, is_colon, is_host_byte, is_one_of, is_slash, is_sub_delim, is_unreserved}
use Rattle.usp_uri.specs.Delimited.{from_first, with_mark}
use Rattle.usp_uri.specs.Components.{Components, after_authority, after_scheme, authority_in, authority_of, components_of, scheme_in, target_of, text_of}
use Rattle.usp_uri.specs.Faults.{begins_with_digits, is_port, normal_of}
use Rattle.usp_uri.specs.Grammar.{IsUri, are_pchars_or, is_path, is_query}
use Rattle.usp_uri.specs.Normal.{rooted}
use Rattle.usp_uri.proofs.GrammarLemmas.{begins_in, from_first-front, until-front}
use Rattle.usp_uri.proofs.ComponentLaws.{IsApart-from_uri, authority_is, both, drop_past, host_all, port_all, target_is, weaken}
use Rattle.usp_uri.proofs.NormalLemmas.{accepted}
use Rattle.usp_uri.proofs.NormalLaws.{normal_has, within_limit}
use Rattle.usp_uri.proofs.AcceptedLaws.{accepted_spelled}

-- ---- visible bytes

-- an ASCII character that is no space and no control
abbrev pub is_visible : ℕ → Bool
is_visible c = nat_lt 32 c && nat_lt c 127

-- As a record, so that antt finds the text.
pub record AreVisible (text : List ℕ) : Type 0 where
  pub all : list_all is_visible text ≡ true

pub none_visible : AreVisible []
none_visible = record { all = refl }

pub one_visible : (c : ℕ) (text : List ℕ) → is_visible c ≡ true → AreVisible text → AreVisible (c ∷ text)
one_visible c text first rest = record { all = rw (first, rest.all) refl }

pub visible_both : (a b : List ℕ) → AreVisible a → AreVisible b → AreVisible (a ++ b)
visible_both a b first second = record { all = list_all-append is_visible a b ∙ rw (first.all, second.all) refl }

pub visible_from : (good : ℕ → Bool) → ((c : ℕ) → good c ≡ true → is_visible c ≡ true) → (text : List ℕ)
    → list_all good text ≡ true → AreVisible text
visible_from good out [] e = none_visible
visible_from good out (c ∷ rest) e =
    let parts = both (good c) (list_all good rest) e in
    one_visible c rest (out c parts.0) (visible_from good out rest parts.1)

host_visible : (c : ℕ) → is_host_byte c ≡ true → is_visible c ≡ true
host_visible c e = grind (arith, nat_tests)

digit_visible : (c : ℕ) → is_ascii_digit c ≡ true → is_visible c ≡ true
digit_visible c e = grind (arith, nat_tests)

slash_visible : (c : ℕ) → is_slash c ≡ true → is_visible c ≡ true
slash_visible c e = grind (arith, nat_tests)

-- ---- the parts of a URI

path_byte : (c : ℕ)
    → (is_unreserved c || is_sub_delim c || is_one_of (codes ":@") c || is_one_of (codes "/") c || eqb c 37) ≡ true
    → is_visible c ≡ true
path_byte c e = grind (arith, nat_tests)

query_byte : (c : ℕ)
    → (is_unreserved c || is_sub_delim c || is_one_of (codes ":@") c || is_one_of (codes "/?") c || eqb c 37) ≡ true
    → is_visible c ≡ true
query_byte c e = grind (arith, nat_tests)

pchars_visible : (others : List ℕ)
    → ((c : ℕ)
    → (is_unreserved c || is_sub_delim c || is_one_of (codes ":@") c || is_one_of others c || eqb c 37) ≡ true
    → is_visible c ≡ true)
    → (text : List ℕ) → are_pchars_or others text ≡ true → AreVisible text
pchars_visible others out [] e = none_visible
pchars_visible others out (c ∷ rest) e =
    let parts = both
    (is_unreserved c || is_sub_delim c || is_one_of (codes ":@") c || is_one_of others c
    || (eqb c 37 && begins_with_digits rest)) (are_pchars_or others rest) e in
    let this = weaken (is_unreserved c || is_sub_delim c || is_one_of (codes ":@") c || is_one_of others c)
    (eqb c 37) (begins_with_digits rest) parts.0 in
    one_visible c rest (out c this) (pchars_visible others out rest parts.1)

path_visible : (path : List ℕ) → is_path path ≡ true → AreVisible path
path_visible [] e = none_visible
path_visible (c ∷ rest) e =
    let parts = both (is_slash c) (are_pchars_or (codes "/") rest) e in
    one_visible c rest (slash_visible c parts.0) (pchars_visible (codes "/") path_byte rest parts.1)

query_visible : (query : Option (List ℕ)) → IfSome query (λ q. IsTrue (is_query q))
    → AreVisible (with_mark 63 query)
query_visible None is = none_visible
query_visible (Some query) is = one_visible 63 query refl (pchars_visible (codes "/?") query_byte query is)

port_visible : (port : Option (List ℕ)) → IfSome port (λ p. IsTrue (is_port p)) → AreVisible (with_mark 58 port)
port_visible None is = none_visible
port_visible (Some port) is =
    one_visible 58 port refl (visible_from is_ascii_digit digit_visible port (port_all port is))

-- ---- the whole

-- The text of a URI by its components, whose path begins with a slash.
pub record HasParts (uri : List ℕ) : Type 0 where
  pub parts : Components
  pub is : IsUri parts
  pub whole : uri ≡ text_of parts
  pub some : 0 < length parts.path
  pub short : length uri ≤ MAX_LEN

rooted_some : (path : List ℕ) → 0 < length (rooted path)
rooted_some [] = omega arith
rooted_some (c ∷ rest) = omega arith

pub has_parts : (uri : List ℕ) → normal_of uri ≡ Ok uri → HasParts uri
has_parts uri normal =
    let ours = accepted uri uri normal in
    let spelled = accepted_spelled uri ours.0 in
    let stays = normal_has uri normal in
    record {
      parts = components_of uri;
      is = spelled.uri;
      whole = spelled.whole;
      some = subst (λ (path : List ℕ). 0 < length path) (ap (λ p. p.path) stays.stays) (rooted_some _);
      short = within_limit uri ours.1;
    }

-- The authority is that of the components.
pub authority_parts : (uri : List ℕ) (of : HasParts uri) → authority_in uri ≡ authority_of of.parts
authority_parts uri of =
    ap authority_in of.whole ∙ authority_is of.parts (IsApart-from_uri of.parts of.is)

pub target_parts : (uri : List ℕ) (of : HasParts uri) → after_authority uri ≡ target_of of.parts
target_parts uri of = ap after_authority of.whole ∙ target_is of.parts (IsApart-from_uri of.parts of.is)

pub authority_visible : (uri : List ℕ) → HasParts uri → AreVisible (authority_in uri)
authority_visible uri of =
    let p = of.parts in
    subst AreVisible (sym (authority_parts uri of))
    (visible_both p.host (with_mark 58 p.port)
    (visible_from is_host_byte host_visible p.host (host_all p.host of.is.host)) (port_visible p.port of.is.port))

pub target_visible : (uri : List ℕ) → HasParts uri → AreVisible (after_authority uri)
target_visible uri of =
    let p = of.parts in
    subst AreVisible (sym (target_parts uri of))
    (visible_both p.path (with_mark 63 p.query) (path_visible p.path of.is.path) (query_visible p.query of.is.query))

-- ---- more behind a URI

begins_more : (path more : List ℕ) → is_path path ≡ true → 0 < length path → begins_in ends_authority (path ++ more) ≡ true
begins_more [] more e some = absurd (omega (arith, some))
begins_more (c ∷ rest) more e some = slash_ends c (both (is_slash c) (are_pchars_or (codes "/") rest) e).0
  where
    slash_ends : (c : ℕ) → is_slash c ≡ true → ends_authority c ≡ true
    slash_ends c e = grind (arith, nat_tests)

pub text_more : (p : Components) (more : List ℕ)
    → text_of p ++ more ≡ p.scheme ++ (codes "://" ++ (authority_of p ++ (target_of p ++ more)))
text_more p more =
    append_assoc p.scheme (codes "://" ++ (authority_of p ++ target_of p)) more
    ∙ ap (λ (t : List ℕ). p.scheme ++ (codes "://" ++ t)) (append_assoc (authority_of p) (target_of p) more)

target_more : (p : Components) (more : List ℕ) → IsUri p → 0 < length p.path
    → after_authority (p.scheme ++ (codes "://" ++ (authority_of p ++ (target_of p ++ more)))) ≡ target_of p ++ more
target_more p more is some =
    let a = IsApart-from_uri p is in
    let text = p.scheme ++ (codes "://" ++ (authority_of p ++ (target_of p ++ more))) in
    let scheme : scheme_in text ≡ p.scheme = until-front is_colon p.scheme _ a.scheme refl in
    let after : after_scheme text ≡ authority_of p ++ (target_of p ++ more) =
    ap (λ (s : List ℕ). drop (length s + 3) text) scheme ∙ drop_past p.scheme _ in
    let begins : begins_in ends_authority (target_of p ++ more) ≡ true =
    ap (begins_in ends_authority) (append_assoc p.path (with_mark 63 p.query) more)
    ∙ begins_more p.path (with_mark 63 p.query ++ more) is.path some in
    ap (from_first ends_authority) after ∙ from_first-front ends_authority (authority_of p) _ a.authority begins

-- What stands behind a URI stands behind its path and query.
pub after_more : (uri more : List ℕ) → HasParts uri → after_authority (uri ++ more) ≡ after_authority uri ++ more
after_more uri more of =
    ap (λ (t : List ℕ). after_authority (t ++ more)) of.whole ∙ ap after_authority (text_more of.parts more)
    ∙ target_more of.parts more of.is of.some ∙ ap (λ (t : List ℕ). t ++ more) (sym (target_parts uri of))

-- The scheme is the same too.
pub scheme_more : (uri more : List ℕ) → HasParts uri → scheme_in (uri ++ more) ≡ scheme_in uri
scheme_more uri more of =
    let p = of.parts in
    let a = IsApart-from_uri p of.is in
    ap (λ (t : List ℕ). scheme_in (t ++ more)) of.whole ∙ ap scheme_in (text_more p more)
    ∙ until-front is_colon p.scheme _ a.scheme refl
    ∙ sym (ap scheme_in of.whole ∙ until-front is_colon p.scheme _ a.scheme refl)

-- ---- lengths

length_parts : (p : Components) → length (text_of p) ≡ length p.scheme + 3 + length (authority_of p) + length (target_of p)
length_parts p =
    omega (
      arith,
      length-append p.scheme (codes "://" ++ (authority_of p ++ target_of p)),
      length-append (authority_of p) (target_of p),
    )

pub parts_short : (uri : List ℕ) → HasParts uri
    → length (scheme_in uri) + 3 + length (authority_in uri) + length (after_authority uri) ≡ length uri
parts_short uri of =
    let p = of.parts in
    let scheme : scheme_in uri ≡ p.scheme =
    ap scheme_in of.whole ∙ until-front is_colon p.scheme _ (IsApart-from_uri p of.is).scheme refl in
    omega (
      arith,
      ap length of.whole,
      length_parts p,
      ap length scheme,
      ap length (authority_parts uri of),
      ap length (target_parts uri of),
    )

pub target_some : (uri : List ℕ) → HasParts uri → 0 < length (after_authority uri)
target_some uri of =
    let p = of.parts in
    omega (arith, ap length (target_parts uri of), length-append p.path (with_mark 63 p.query), of.some)

-- ---- a text that begins with a URI

pub cut_within : (uri text more : List ℕ) → normal_of uri ≡ Ok uri → text ≡ uri ++ more → length (scheme_in uri) + 3 ≤ length text
cut_within uri text more normal is =
    omega (arith, parts_short uri (has_parts uri normal), ap length is, length-append uri more)

pub cut_target : (uri text more : List ℕ) → normal_of uri ≡ Ok uri → text ≡ uri ++ more
    → from_first ends_authority (drop (length (scheme_in uri) + 3) text) ≡ after_authority text
cut_target uri text more normal is =
    ap (λ (s : List ℕ). from_first ends_authority (drop (length s + 3) text))
    (sym (scheme_more uri more (has_parts uri normal)) ∙ ap scheme_in (sym is))
