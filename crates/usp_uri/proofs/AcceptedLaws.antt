-- A text that has no fault is spelled by the grammar, from the components into which it is cut.
use Rattle.std.proofs.Common.{◌≡◌, ℕ, suc, ◌+◌, Bool, true, false, cond, not, eqb, ◌&&◌, ◌||◌, List, [], ◌∷◌, ◌++◌, length, map, drop, Option, Some, None, refl, sym, ap, subst, ◌∙◌, arith}
use Rattle.std.specs.Prelude.{codes, IfSome, IsTrue, option_map}
use Rattle.std.specs.List.{list_all}
use Rattle.std.specs.Str.{bytes_eq, str_eq_ignore_ascii_case}
use Rattle.std.specs.Char.{is_ascii_lowercase, is_ascii_hexdigit, to_ascii_lowercase}
use Rattle.std.proofs.lemmas.Bool.Decides.{nat_tests}
use Rattle.usp_uri.specs.declared.fault.UriFault.{UriFault}
use Rattle.usp_uri.specs.declared.fault.UriFault.TheVariants as fault
use Rattle.usp_uri.specs.Letters.{is_colon, is_slash, is_hash, ends_authority, ends_path, is_host_byte, is_unreserved, is_sub_delim, is_one_of, is_literal}
use Rattle.usp_uri.specs.Delimited.{until, from_first, after_mark, with_mark, first_outside}
use Rattle.usp_uri.specs.Components.{Components, components_of, text_of, scheme_in, after_scheme, authority_start, authority_in, after_authority, host_in, port_in, path_in, query_in}
use Rattle.usp_uri.specs.Faults.{is_port, begins_with_digits, is_allowed, fault_for, begins_in_any_case, scheme_fault, length_fault, userinfo_fault, host_fault, port_fault, rest_fault, host_fault_at, port_fault_in, rest_fault_at, text_fault, normal_of}
use Rattle.usp_uri.specs.Grammar.{Spells, is_scheme, is_host, is_path, is_query, are_pchars_or}
use Rattle.usp_uri.proofs.CutLemmas.{until-append}
use Rattle.usp_uri.proofs.GrammarLemmas.{is_free_of, begins_in}
use Rattle.usp_uri.proofs.NormalLemmas.{second, accepted}
use Rattle.usp_uri.specs.Normal.{normal_components}
use Rattle.std.specs.Prelude.{Ok}
use Rattle.usp_uri.proofs.ComponentLaws.{both, until_all}

-- ---- tests that passed

passes : (b : Bool) (found : UriFault) (others : Option UriFault) → cond b others (Some found) ≡ None → (b ≡ true) × (others ≡ None)
passes true found others e = (refl, e)
passes false found others e = absurd cc

none_first : (first : Option UriFault) (others : Option UriFault) (f : UriFault → UriFault) → option_map f first ≡ None → first ≡ None
none_first None others f e = refl
none_first (Some x) others f e = absurd cc

pub all_inside : (good : ℕ → Bool) (at : ℕ) (text : List ℕ) → first_outside good at text ≡ None → list_all good text ≡ true
all_inside good at [] e = refl
all_inside good at (c ∷ rest) e =
    let this = inside (good c) (first_outside good (at + 1) rest) e in
    rw (this.0, all_inside good (at + 1) rest this.1) refl
  where
    inside : (b : Bool) (others : Option ℕ) → cond b others (Some at) ≡ None → (b ≡ true) × (others ≡ None)
    inside true others e = (refl, e)
    inside false others e = absurd cc

mapped_none : (f : ℕ → UriFault) (o : Option ℕ) → option_map f o ≡ None → o ≡ None
mapped_none f None e = refl
mapped_none f (Some n) e = absurd cc

host_accepted : (at : ℕ) (host : List ℕ) → host_fault_at at host ≡ None → is_host host ≡ true
host_accepted at [] e = absurd cc
host_accepted at (c ∷ rest) e = all_inside is_host_byte at (c ∷ rest) (mapped_none (λ i. fault.Syntax i) (first_outside is_host_byte at (c ∷ rest)) e)

port_accepted : (port : Option (List ℕ)) → port_fault_in port ≡ None → IfSome port (λ p. IsTrue (is_port p))
port_accepted None e = tt
port_accepted (Some port) e = (passes (is_port port) fault.Port None e).0

-- ---- the scheme

colon_is : (c : ℕ) → eqb (to_ascii_lowercase c) 58 ≡ true → c ≡ 58
colon_is c e = grind (arith, nat_tests)

slash_is : (c : ℕ) → eqb (to_ascii_lowercase c) 47 ≡ true → c ≡ 47
slash_is c e = grind (arith, nat_tests)

letter_is : (l c : ℕ) → is_ascii_lowercase l ≡ true → eqb (to_ascii_lowercase c) (to_ascii_lowercase l) ≡ true → is_colon c ≡ false
letter_is l c letter same = grind (arith, nat_tests)

mark_cut : (c d e : ℕ) (rest : List ℕ) → c ≡ 58 → d ≡ 47 → e ≡ 47
    → c ∷ d ∷ e ∷ rest ≡ until is_colon (c ∷ d ∷ e ∷ rest) ++ (codes "://" ++ drop (length (until is_colon (c ∷ d ∷ e ∷ rest)) + 3) (c ∷ d ∷ e ∷ rest))
mark_cut c d e rest f g h = rw (f, g, h) refl

mark_until : (c : ℕ) (rest : List ℕ) → c ≡ 58 → until is_colon (c ∷ rest) ≡ []
mark_until c rest f = rw f refl

name_cut : (name text : List ℕ) → list_all is_ascii_lowercase name ≡ true → begins_in_any_case (name ++ codes "://") text ≡ true
    → (text ≡ until is_colon text ++ (codes "://" ++ drop (length (until is_colon text) + 3) text)) × (bytes_eq (map to_ascii_lowercase (until is_colon text)) (map to_ascii_lowercase name) ≡ true)
name_cut [] [] letters e = absurd cc
name_cut [] (c ∷ []) letters e = absurd (cc (both (eqb (to_ascii_lowercase c) 58) false e).1)
name_cut [] (c ∷ d ∷ []) letters e = absurd (cc (both (eqb (to_ascii_lowercase d) 47) false (both (eqb (to_ascii_lowercase c) 58) (eqb (to_ascii_lowercase d) 47 && false) e).1).1)
name_cut [] (c ∷ d ∷ f ∷ rest) letters e =
    let first = both (eqb (to_ascii_lowercase c) 58) (eqb (to_ascii_lowercase d) 47 && (eqb (to_ascii_lowercase f) 47 && true)) e in
    let second = both (eqb (to_ascii_lowercase d) 47) (eqb (to_ascii_lowercase f) 47 && true) first.1 in
    let third = both (eqb (to_ascii_lowercase f) 47) true second.1 in
    (mark_cut c d f rest (colon_is c first.0) (slash_is d second.0) (slash_is f third.0), rw (mark_until c (d ∷ f ∷ rest) (colon_is c first.0)) refl)
name_cut (l ∷ name) [] letters e = absurd cc
name_cut (l ∷ name) (c ∷ rest) letters e =
    let ls = both (is_ascii_lowercase l) (list_all is_ascii_lowercase name) letters in
    let this = both (eqb (to_ascii_lowercase c) (to_ascii_lowercase l)) (begins_in_any_case (name ++ codes "://") rest) e in
    let more = name_cut name rest ls.1 this.1 in
    let front : until is_colon (c ∷ rest) ≡ c ∷ until is_colon rest = rw (letter_is l c ls.0 this.0) refl in
    let shift : suc (length (until is_colon rest)) + 3 ≡ suc (length (until is_colon rest) + 3) = omega arith in
    (rw (front, shift) (ap (λ (t : List ℕ). c ∷ t) more.0), rw (front, this.0, more.1) refl)

pub record IsSchemed (text : List ℕ) : Type 0 where
  pub whole : text ≡ scheme_in text ++ (codes "://" ++ after_scheme text)
  pub name : is_scheme (scheme_in text) ≡ true

or_right : (a b : Bool) → b ≡ true → (a || b) ≡ true
or_right true b e = refl
or_right false b e = e

scheme_case : (a b : Bool) (text : List ℕ) → begins_in_any_case (codes "http://") text ≡ a → begins_in_any_case (codes "https://") text ≡ b
    → cond (a || b) None (Some fault.Scheme) ≡ None → IsSchemed text
scheme_case true b text http https e =
    let cut = name_cut (codes "http") text refl http in
    record { whole = cut.0; name = rw cut.1 refl }
scheme_case false true text http https e =
    let cut = name_cut (codes "https") text refl https in
    record { whole = cut.0; name = or_right (str_eq_ignore_ascii_case (scheme_in text) (codes "http")) _ cut.1 }
scheme_case false false text http https e = absurd cc

-- ---- path and query

literal_or : (l p : Bool) → (l || p) ≡ true → l ≡ false → p ≡ true
literal_or true p e f = absurd cc
literal_or false p e f = e

hash_stops : (c : ℕ) (rest : List ℕ) → is_allowed c rest ≡ true → is_hash c ≡ false
hash_stops c rest e = by_byte (is_hash c) refl
  where
    hash_is : (c : ℕ) → is_hash c ≡ true → c ≡ 35
    hash_is c h = grind (arith, nat_tests)

    by_byte : (b : Bool) → is_hash c ≡ b → b ≡ false
    by_byte false h = refl
    by_byte true h = let bad : is_allowed 35 rest ≡ true = subst (λ n. is_allowed n rest ≡ true) (hash_is c h) e in absurd (cc bad)

no_hash : (at : ℕ) (text : List ℕ) → rest_fault_at at text ≡ None → is_free_of is_hash text ≡ true
no_hash at [] e = refl
no_hash at (c ∷ rest) e =
    let this = passes (is_allowed c rest) (fault_for at c) (rest_fault_at (at + 1) rest) e in
    rw (hash_stops c rest this.0, no_hash (at + 1) rest this.1) refl

-- what is allowed is a pchar, one of the others, or an escape
allowed_path : (c : ℕ) → is_literal c ≡ true → ends_path c ≡ false → (is_unreserved c || is_sub_delim c || is_one_of (codes ":@") c || is_one_of (codes "/") c) ≡ true
allowed_path c e f = grind (arith, nat_tests)

pub allowed_query : (c : ℕ) → is_literal c ≡ true → (is_unreserved c || is_sub_delim c || is_one_of (codes ":@") c || is_one_of (codes "/?") c) ≡ true
allowed_query c e = grind (arith, nat_tests)

pub swap_test : (l p d one still : Bool) → (l ≡ true → one ≡ true) → (d ≡ true → still ≡ true) → (l || (p && d)) ≡ true → (one || (p && still)) ≡ true
swap_test true p d true still f g e = refl
swap_test true p d false still f g e = absurd (cc (f refl))
swap_test false true d true still f g e = refl
swap_test false true d false still f g e = g e
swap_test false false d one still f g e = absurd cc

hex_stays : (c : ℕ) → is_ascii_hexdigit c ≡ true → ends_path c ≡ false
hex_stays c e = grind (arith, nat_tests)

digits_cut : (text : List ℕ) → begins_with_digits text ≡ true → begins_with_digits (until ends_path text) ≡ true
digits_cut [] e = absurd cc
digits_cut (high ∷ []) e = absurd cc
digits_cut (high ∷ low ∷ rest) e =
    let parts = both (is_ascii_hexdigit high) (is_ascii_hexdigit low) e in
    rw (hex_stays high parts.0, hex_stays low parts.1) (rw (parts.0, parts.1) refl)

path_case : (b : Bool) (c at : ℕ) (rest : List ℕ) → ends_path c ≡ b → is_allowed c rest ≡ true → are_pchars_or (codes "/") (until ends_path rest) ≡ true
    → are_pchars_or (codes "/") (cond b [] (c ∷ until ends_path rest)) ≡ true
path_case true c at rest is allowed e = refl
path_case false c at rest is allowed e =
    let this : (is_unreserved c || is_sub_delim c || is_one_of (codes ":@") c || is_one_of (codes "/") c || (eqb c 37 && begins_with_digits (until ends_path rest))) ≡ true =
    swap_test (is_literal c) (eqb c 37) (begins_with_digits rest) (is_unreserved c || is_sub_delim c || is_one_of (codes ":@") c || is_one_of (codes "/") c) (begins_with_digits (until ends_path rest))
    (λ l. allowed_path c l is) (digits_cut rest) allowed in
    rw (this, e) refl

path_pchars : (at : ℕ) (text : List ℕ) → rest_fault_at at text ≡ None → are_pchars_or (codes "/") (until ends_path text) ≡ true
path_pchars at [] e = refl
path_pchars at (c ∷ rest) e =
    let this = passes (is_allowed c rest) (fault_for at c) (rest_fault_at (at + 1) rest) e in
    path_case (ends_path c) c at rest refl this.0 (path_pchars (at + 1) rest this.1)

query_pchars : (at : ℕ) (text : List ℕ) → rest_fault_at at text ≡ None → are_pchars_or (codes "/?") text ≡ true
query_pchars at [] e = refl
query_pchars at (c ∷ rest) e =
    let this = passes (is_allowed c rest) (fault_for at c) (rest_fault_at (at + 1) rest) e in
    let here : (is_unreserved c || is_sub_delim c || is_one_of (codes ":@") c || is_one_of (codes "/?") c || (eqb c 37 && begins_with_digits rest)) ≡ true =
    swap_test (is_literal c) (eqb c 37) (begins_with_digits rest) (is_unreserved c || is_sub_delim c || is_one_of (codes ":@") c || is_one_of (codes "/?") c) (begins_with_digits rest)
    (allowed_query c) (λ d. d) this.0 in
    rw (here, query_pchars (at + 1) rest this.1) refl

behind_case : (b : Bool) (at c : ℕ) (rest : List ℕ) → rest_fault_at at (c ∷ rest) ≡ None → ((n : ℕ) × (rest_fault_at n (from_first ends_path rest) ≡ None)) → (n : ℕ) × (rest_fault_at n (cond b (c ∷ rest) (from_first ends_path rest)) ≡ None)
behind_case true at c rest e further = (at, e)
behind_case false at c rest e further = further

behind_path : (at : ℕ) (text : List ℕ) → rest_fault_at at text ≡ None → (n : ℕ) × (rest_fault_at n (from_first ends_path text) ≡ None)
behind_path at [] e = (at, refl)
behind_path at (c ∷ rest) e =
    let this = passes (is_allowed c rest) (fault_for at c) (rest_fault_at (at + 1) rest) e in
    behind_case (ends_path c) at c rest e (behind_path (at + 1) rest this.1)

-- a rest that begins in the class of one byte is that byte and what follows it
marked_case : (stops : ℕ → Bool) (mark : ℕ) → (b : Bool) (c : ℕ) (rest f : List ℕ) → (stops c ≡ true → c ≡ mark) → stops c ≡ b → f ≡ with_mark mark (after_mark f) → cond b (c ∷ rest) f ≡ with_mark mark (after_mark (cond b (c ∷ rest) f))
marked_case stops mark true c rest f out is e = ap (λ n. n ∷ rest) (out is)
marked_case stops mark false c rest f out is e = e

marked_colon : (text : List ℕ) → from_first is_colon text ≡ with_mark 58 (after_mark (from_first is_colon text))
marked_colon [] = refl
marked_colon (c ∷ rest) = marked_case is_colon 58 (is_colon c) c rest (from_first is_colon rest) (colon c) refl (marked_colon rest)
  where
    colon : (c : ℕ) → is_colon c ≡ true → c ≡ 58
    colon c e = grind (arith, nat_tests)

marked_query : (text : List ℕ) → is_free_of is_hash text ≡ true → from_first ends_path text ≡ with_mark 63 (after_mark (from_first ends_path text))
marked_query [] e = refl
marked_query (c ∷ rest) e =
    let parts = both (not (is_hash c)) (is_free_of is_hash rest) e in
    marked_case ends_path 63 (ends_path c) c rest (from_first ends_path rest) (question c parts.0) refl (marked_query rest parts.1)
  where
    question : (c : ℕ) → not (is_hash c) ≡ true → ends_path c ≡ true → c ≡ 63
    question c f g = grind (arith, nat_tests)

tail_good : (n : ℕ) (text : List ℕ) → rest_fault_at n text ≡ None → IfSome (after_mark text) (λ q. IsTrue (is_query q))
tail_good n [] e = tt
tail_good n (c ∷ rest) e = query_pchars (n + 1) rest (passes (is_allowed c rest) (fault_for n c) (rest_fault_at (n + 1) rest) e).1

begins_case : (stops : ℕ → Bool) (b : Bool) (c : ℕ) (rest f : List ℕ) → stops c ≡ b → begins_in stops f ≡ true → begins_in stops (cond b (c ∷ rest) f) ≡ true
begins_case stops true c rest f is e = is
begins_case stops false c rest f is e = e

from_begins : (stops : ℕ → Bool) (text : List ℕ) → begins_in stops (from_first stops text) ≡ true
from_begins stops [] = refl
from_begins stops (c ∷ rest) = begins_case stops (stops c) c rest (from_first stops rest) refl (from_begins stops rest)

slash_case : (b : Bool) (c at : ℕ) (rest : List ℕ) → ends_path c ≡ b → ends_authority c ≡ true → are_pchars_or (codes "/") (until ends_path rest) ≡ true → is_path (cond b [] (c ∷ until ends_path rest)) ≡ true
slash_case true c at rest is begins e = refl
slash_case false c at rest is begins e = rw (slash c is begins, e) refl
  where
    slash : (c : ℕ) → ends_path c ≡ false → ends_authority c ≡ true → is_slash c ≡ true
    slash c f g = grind (arith, nat_tests)

path_accepted : (at : ℕ) (target : List ℕ) → begins_in ends_authority target ≡ true → rest_fault_at at target ≡ None → is_path (until ends_path target) ≡ true
path_accepted at [] begins e = refl
path_accepted at (c ∷ rest) begins e =
    let this = passes (is_allowed c rest) (fault_for at c) (rest_fault_at (at + 1) rest) e in
    slash_case (ends_path c) c at rest refl begins (path_pchars (at + 1) rest this.1)

-- ---- the whole

-- what follows the authority is the path, and the query behind its '?'
target_parts : (at : ℕ) (target : List ℕ) → rest_fault_at at target ≡ None
    → (target ≡ until ends_path target ++ with_mark 63 (after_mark (until is_hash (from_first ends_path target)))) × IfSome (after_mark (until is_hash (from_first ends_path target))) (λ q. IsTrue (is_query q))
target_parts at target e =
    let behind = behind_path at target e in
    let all : until is_hash (from_first ends_path target) ≡ from_first ends_path target = until_all is_hash (from_first ends_path target) (no_hash behind.0 (from_first ends_path target) behind.1) in
    let marked = marked_query target (no_hash at target e) in (
      sym (until-append ends_path target) ∙ ap (λ (t : List ℕ). until ends_path target ++ t) (marked ∙ ap (λ (t : List ℕ). with_mark 63 (after_mark t)) (sym all)),
      subst (λ (t : List ℕ). IfSome (after_mark t) (λ q. IsTrue (is_query q))) (sym all) (tail_good behind.0 (from_first ends_path target) behind.1),
    )

pub accepted_spelled : (text : List ℕ) → text_fault text ≡ None → Spells (components_of text) text
accepted_spelled text e =
    let a = second (length_fault text) _ e in
    let b = second (scheme_fault text) _ a.1 in
    let c = second (userinfo_fault text) _ b.1 in
    let d = second (host_fault text) _ c.1 in
    let f = second (port_fault text) _ d.1 in
    let g = second (rest_fault text) _ f.1 in
    let schemed = scheme_case _ _ text refl refl b.0 in
    let at = authority_start text + length (authority_in text) in
    let target = target_parts at (after_authority text) g.0 in
    let authority : authority_in text ≡ host_in text ++ with_mark 58 (port_in text) =
    sym (until-append is_colon (authority_in text)) ∙ ap (λ (t : List ℕ). host_in text ++ t) (marked_colon (authority_in text)) in
    let after : after_scheme text ≡ (host_in text ++ with_mark 58 (port_in text)) ++ (path_in text ++ with_mark 63 (query_in text)) =
    sym (until-append ends_authority (after_scheme text)) ∙ ap (λ (t : List ℕ). t ++ after_authority text) authority ∙ ap (λ (t : List ℕ). (host_in text ++ with_mark 58 (port_in text)) ++ t) target.0 in
    record {
      uri = record {
        scheme = schemed.name;
        host = host_accepted (authority_start text) (host_in text) d.0;
        port = port_accepted (port_in text) f.0;
        path = path_accepted at (after_authority text) (from_begins ends_authority (after_scheme text)) g.0;
        query = target.1;
      };
      whole = schemed.whole ∙ ap (λ (t : List ℕ). scheme_in text ++ (codes "://" ++ t)) after;
    }

-- what is read is spelled by the grammar
pub read_spelled : (text normal : List ℕ) → normal_of text ≡ Ok normal → (p : Components) × Spells p text × (normal ≡ text_of (normal_components p))
read_spelled text normal e =
    let a = accepted text normal e in
    (components_of text, accepted_spelled text a.0, sym a.2)
