-- What the claims want, case by case.
use Rattle.std.proofs.Common.{IfOk, IsTrue, ◌≡◌, ◌↔◌, ◌∙◌, ℕ, Bool, true, false, codes, List, [], ◌∷◌, map, drop, length, get_or, ◌<◌, ◌≤◌, Option, Some, None, Result, Ok, Err, refl, sym, ap, subst}
use Rattle.std.proofs.lemmas.List.{drop_all}
use Rattle.std.proofs.lemmas.Option.{same_Some, slice_get-get_or}
use Rattle.std.specs.List.{list_all, list_any}
use Rattle.std.specs.Option.{option_map_or}
use Rattle.usp_json.proofs.ListLaws.{all_stops}
use Rattle.usp_claims.specs.Table.{is_audience, text_claim}
use Rattle.usp_json.specs.declared.value.Json.{Json}
use Rattle.usp_json.specs.declared.value.Members.{Members}
use Rattle.usp_rules.specs.Constraints.{IsContained}
use Rattle.usp_rules.specs.Containers.{Meets}
use Rattle.usp_rules.specs.declared.fault.NoMemory.{NoMemory}

-- the identities that an audience has, where there is one
pub is_for_those : (value : Option Json) (aud : Json) (audience : List (List ℕ)) → value ≡ Some aud
    → list_any (λ identity. option_map_or (is_audience identity) value false) audience
    ≡ option_map_or (λ aud. list_any (λ identity. is_audience identity aud) audience) value true
is_for_those (Some other) aud audience is = refl
is_for_those None aud audience is = cc

-- a test of each element of a list that was mapped
pub all_mapped : {X Y : Type 0} (p : Y → Bool) (f : X → Y) (xs : List X) → list_all p (map f xs) ≡ list_all (λ x. p (f x)) xs
all_mapped p f [] = refl
all_mapped p f (x ∷ xs) = rw (all_mapped p f xs) refl

contained : (members : Members) (content container : List ℕ) → text_claim (codes "cdniuc") members ≡ Some container → Meets container content
    → IsContained (Some content) members
contained members content container claimed met = record { uri = content; container = container; there = refl; claimed = claimed; meets = met }

meets : (members : Members) (content container : List ℕ) → text_claim (codes "cdniuc") members ≡ Some container → IsContained (Some content) members
    → Meets container content
meets members content container claimed h =
    let here : h.uri ≡ content = same_Some h.uri content (sym h.there) in
    let this : h.container ≡ container = same_Some h.container container (sym h.claimed ∙ claimed) in
    subst (λ c. Meets c content) this (subst (λ u. Meets h.container u) here h.meets)

-- the container of the claims decides
pub by_container : (members : Members) (content container : List ℕ) (r : Result Bool NoMemory) → text_claim (codes "cdniuc") members ≡ Some container
    → IfOk r (λ met. IsTrue met ↔ Meets container content) → IfOk r (λ met. IsTrue met ↔ IsContained (Some content) members)
by_container members content container (Err e) claimed h = h
by_container members content container (Ok met) claimed h =
    ((λ t. contained members content container claimed (h.0 t)), (λ is. h.1 (meets members content container claimed is)))

pub mapped_twice : {X Y Z : Type 0} (p : Y → Z) (f : X → Y) (xs : List X) → map (λ x. p (f x)) xs ≡ map p (map f xs)
mapped_twice p f [] = refl
mapped_twice p f (x ∷ xs) = ap (λ ys. p (f x) ∷ ys) (mapped_twice p f xs)

-- a list whose mapped element fails at a place, all before it passing
pub stopped : {X : Type 0} (p : List ℕ → Bool) (f : X → List ℕ) (xs : List X) (i : ℕ) (d : X) (name : List ℕ) → i < length xs
    → list_all (λ x. p (f x)) xs ≡ list_all (λ x. p (f x)) (drop i xs) → name ≡ f (get_or xs i d) → p name ≡ false → false ≡ list_all p (map f xs)
stopped p f xs i d name lt so is fails =
    all_stops (λ x. p (f x)) xs i (get_or xs i d) (slice_get-get_or xs i d lt) so (sym (ap p is) ∙ fails) ∙ sym (all_mapped p f xs)

-- a list whose mapped elements all pass
pub ended : {X : Type 0} (p : List ℕ → Bool) (f : X → List ℕ) (xs : List X) (i : ℕ) → length xs ≤ i
    → list_all (λ x. p (f x)) xs ≡ list_all (λ x. p (f x)) (drop i xs) → true ≡ list_all p (map f xs)
ended p f xs i le so = sym (all_mapped p f xs ∙ (so ∙ ap (list_all (λ x. p (f x))) (drop_all i xs le)))
