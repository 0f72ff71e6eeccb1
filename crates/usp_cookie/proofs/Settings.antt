-- The last `Path` of a Set-Cookie value, attribute by attribute.
use Rattle.std.proofs.Common.{◌≡◌, sym, ap, ◌∙◌, refl, ℕ, Bool, true, false, cond, List, [], ◌∷◌, map, filter, Option, Some, None}
use Rattle.usp_base.specs.Cuts.{cut_at}
use Rattle.usp_base.proofs.Cutting.{split_cut, split_uncut}
use Rattle.usp_cookie.specs.SetCookies.{attribute_of, attributes_in, is_path, last_or, paths_in}

abbrev value_of : List ℕ × List ℕ → List ℕ
value_of attribute = attribute.1

last_by : (b : Bool) (found : List ℕ) (x : List ℕ × List ℕ) (xs : List (List ℕ × List ℕ))
    → last_or (last_or found (map value_of (cond b (x ∷ []) []))) (map value_of xs) ≡ last_or found (map value_of (cond b (x ∷ xs) xs))
last_by true found x xs = refl
last_by false found x xs = refl

last_more : (found attribute : List ℕ) (others : List (List ℕ))
    → last_or (last_or found (paths_in (attribute ∷ []))) (paths_in others) ≡ last_or found (paths_in (attribute ∷ others))
last_more found attribute others = last_by (is_path (attribute_of attribute)) found (attribute_of attribute) (filter is_path (map attribute_of others))

pub path_passed : (found now attribute rest more : List ℕ) → cut_at 59 rest ≡ Some (attribute, more) → now ≡ last_or found (paths_in (attribute ∷ []))
    → last_or now (paths_in (attributes_in more)) ≡ last_or found (paths_in (attributes_in rest))
path_passed found now attribute rest more cut is =
    ap (λ n. last_or n (paths_in (attributes_in more))) is ∙ last_more found attribute (attributes_in more)
    ∙ ap (λ l. last_or found (paths_in l)) (sym (split_cut 59 rest attribute more cut))

pub path_last : (found now rest : List ℕ) → cut_at 59 rest ≡ None → now ≡ last_or found (paths_in (rest ∷ []))
    → now ≡ last_or found (paths_in (attributes_in rest))
path_last found now rest alone is = is ∙ ap (λ l. last_or found (paths_in l)) (sym (split_uncut 59 rest alone))
