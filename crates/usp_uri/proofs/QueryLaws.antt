-- A URI in normal form whose query begins, or grows.
use Rattle.std.proofs.Common.{◌≡◌, ℕ, ◌≤◌, true, eqb, ◌&&◌, ◌||◌, List, [], ◌∷◌, ◌++◌, length, Some, None, Ok, refl, sym, ap, subst, ◌∙◌, append_assoc, arith}
use Rattle.std.specs.Prelude.{codes, IfSome, IsTrue, option_map}
use Rattle.std.specs.List.{list_all}
use Rattle.usp_uri.specs.declared.limits.TheConstants.{MAX_LEN}
use Rattle.usp_uri.specs.Letters.{is_literal}
use Rattle.usp_uri.specs.Delimited.{with_mark}
use Rattle.usp_uri.specs.Components.{Components, components_of, text_of, authority_of, target_of, query_in}
use Rattle.usp_uri.specs.Faults.{normal_of}
use Rattle.usp_uri.specs.Grammar.{is_query}
use Rattle.usp_uri.specs.Normal.{normal_escapes, normal_components}
use Rattle.usp_uri.proofs.ComponentLaws.{both, same_components}
use Rattle.usp_uri.proofs.NormalLemmas.{accepted}
use Rattle.usp_uri.proofs.AcceptedLaws.{accepted_spelled, allowed_query, swap_test}
use Rattle.usp_uri.proofs.EscapeLaws.{is_pchar_or, begins_settled, are_settled_or, all_pass, escapes_settled, escapes_stay, settled_pchars, settled_more, pchar_first}
use Rattle.usp_uri.proofs.NormalLaws.{IsNormal, normal_has, normal_reads}

settled_joined : (others a b : List ℕ) → are_settled_or others a ≡ true → are_settled_or others b ≡ true → are_settled_or others (a ++ b) ≡ true
settled_joined others [] b e f = f
settled_joined others (c ∷ rest) b e f =
    let first = both (is_pchar_or others c || (eqb c 37 && begins_settled rest)) (are_settled_or others rest) e in
    all_pass (is_pchar_or others c || (eqb c 37 && begins_settled (rest ++ b))) (are_settled_or others (rest ++ b))
    (swap_test (is_pchar_or others c) (eqb c 37) (begins_settled rest) (is_pchar_or others c) (begins_settled (rest ++ b)) (λ l. l) (settled_more rest b) first.0)
    (settled_joined others rest b first.1 f)

literals_settled : (text : List ℕ) → list_all is_literal text ≡ true → are_settled_or (codes "/?") text ≡ true
literals_settled [] e = refl
literals_settled (c ∷ rest) e =
    let first = both (is_literal c) (list_all is_literal rest) e in
    pchar_first (codes "/?") c rest (allowed_query c first.0) (literals_settled rest first.1)

-- the query of a normal form has its escapes in normal form
own_settled : (query : List ℕ) → is_query query ≡ true → option_map normal_escapes (Some query) ≡ Some query → are_settled_or (codes "/?") query ≡ true
own_settled query q stays = subst (λ o. IfSome o (λ t. IsTrue (are_settled_or (codes "/?") t))) stays (escapes_settled (codes "/?") refl query q)

abbrev with_query : Components → List ℕ → Components
with_query p query = record p { query = Some query }

with_query_normal : (p : Components) (query : List ℕ) → IsNormal p → are_settled_or (codes "/?") query ≡ true → IsNormal (with_query p query)
with_query_normal p query n e =
    record {
      uri = record { scheme = n.uri.scheme; host = n.uri.host; port = n.uri.port; path = n.uri.path; query = settled_pchars (codes "/?") query e };
      stays = same_components (normal_components (with_query p query)) (with_query p query) (ap (λ q. q.scheme) n.stays) (ap (λ q. q.host) n.stays) (ap (λ q. q.port) n.stays) (ap (λ q. q.path) n.stays)
          (ap (λ (t : List ℕ). Some t) (escapes_stay (codes "/?") refl query e));
    }

with_query_text : (p : Components) (query more : List ℕ) → with_mark 63 p.query ++ more ≡ 63 ∷ query → text_of p ++ more ≡ text_of (with_query p query)
with_query_text p query more e =
    append_assoc p.scheme (codes "://" ++ (authority_of p ++ target_of p)) more
    ∙ ap (λ (t : List ℕ). p.scheme ++ (codes "://" ++ t))
    (append_assoc (authority_of p) (target_of p) more ∙ ap (λ (t : List ℕ). authority_of p ++ t) (append_assoc p.path (with_mark 63 p.query) more ∙ ap (λ (t : List ℕ). p.path ++ t) e))

longer_normal : (text query more : List ℕ) → normal_of text ≡ Ok text → with_mark 63 (query_in text) ++ more ≡ 63 ∷ query → are_settled_or (codes "/?") query ≡ true → length (text ++ more) ≤ MAX_LEN
    → normal_of (text ++ more) ≡ Ok (text ++ more)
longer_normal text query more normal e settled short =
    let p = components_of text in
    let s = accepted_spelled text (accepted text text normal).0 in
    let whole : text ++ more ≡ text_of (with_query p query) = ap (λ (t : List ℕ). t ++ more) s.whole ∙ with_query_text p query more e in
    subst (λ (t : List ℕ). normal_of t ≡ Ok t) (sym whole) (normal_reads (with_query p query) (with_query_normal p query (normal_has text normal) settled) (omega (arith, ap length whole)))

-- A query that begins behind a URI without one.
pub begun_normal : (text more : List ℕ) → normal_of text ≡ Ok text → query_in text ≡ None → list_all is_literal more ≡ true → length (text ++ (63 ∷ more)) ≤ MAX_LEN
    → normal_of (text ++ (63 ∷ more)) ≡ Ok (text ++ (63 ∷ more))
begun_normal text more normal none literal short = longer_normal text more (63 ∷ more) normal (ap (λ q. with_mark 63 q ++ (63 ∷ more)) none) (literals_settled more literal) short

-- A query that grows at its end.
pub grown_normal : (text query more : List ℕ) → normal_of text ≡ Ok text → query_in text ≡ Some query → list_all is_literal more ≡ true → length (text ++ more) ≤ MAX_LEN
    → normal_of (text ++ more) ≡ Ok (text ++ more)
grown_normal text query more normal some literal short =
    let n = normal_has text normal in
    let own : IfSome (Some query) (λ t. IsTrue (is_query t)) = subst (λ o. IfSome o (λ t. IsTrue (is_query t))) some n.uri.query in
    let stays : option_map normal_escapes (Some query) ≡ Some query = ap (option_map normal_escapes) (sym some) ∙ ap (λ q. q.query) n.stays ∙ some in
    longer_normal text (query ++ more) more normal (ap (λ q. with_mark 63 q ++ more) some) (settled_joined (codes "/?") query more (own_settled query own stays) (literals_settled more literal)) short
