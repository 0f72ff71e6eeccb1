-- Names beside values.
use Rattle.std.proofs.Common.{◌≡◌, ℕ, zero, suc, ◌+◌, ◌<◌, true, false, List, [], ◌∷◌, ◌++◌, length, drop, Some, refl, ap, arith, get_or, add-one}
use Rattle.std.specs.List.{zip, slice_get}
use Rattle.std.specs.Str.{bytes_eq}
use Rattle.std.proofs.lemmas.Slice.Zip.{length-zip}
use Rattle.std.proofs.lemmas.Option.{slice_get_within, get_or_from_slice_get}
use Rattle.std.proofs.Math.Seq.{drop-cons}
use Rattle.usp_json.specs.declared.value.Json.{Json}
use Rattle.usp_json.specs.Entries.{value_of}

pub ruleset length_zip = (length-zip)

pub in_names : {A B : Type 0} (ns : List A) (vs : List B) (place : ℕ) → place < length (zip ns vs) → place < length ns
in_names ns vs place h = omega (arith, length-zip ns vs)

pub in_values : {A B : Type 0} (ns : List A) (vs : List B) (place : ℕ) → place < length (zip ns vs) → place < length vs
in_values ns vs place h = omega (arith, length-zip ns vs)

pub zip_nil : {A B : Type 0} (ns : List A) → zip {X = B} ns [] ≡ []
zip_nil [] = refl
zip_nil (n ∷ ns) = refl

pub both : {A B : Type 0} (ns : List A) (vs : List B) (place : ℕ) (n : A) (v : B) → slice_get ns place ≡ Some n → slice_get vs place ≡ Some v → slice_get (zip ns vs) place ≡ Some (n, v)
both [] vs place n v h k = cc
both (a ∷ ns) [] place n v h k = cc
both (a ∷ ns) (b ∷ vs) zero n v h k =
    let e : a ≡ n = cc in
    let f : b ≡ v = cc in
    rw (e, f) refl
both (a ∷ ns) (b ∷ vs) (suc place) n v h k = both ns vs place n v h k

pub zip_snoc : {A B : Type 0} (ns : List A) (vs : List B) (n : A) (v : B) → length ns ≡ length vs → zip (ns ++ n ∷ []) (vs ++ v ∷ []) ≡ zip ns vs ++ (n, v) ∷ []
zip_snoc [] [] n v h = refl
zip_snoc [] (b ∷ vs) n v h = absurd (omega arith)
zip_snoc (a ∷ ns) [] n v h = absurd (omega arith)
zip_snoc (a ∷ ns) (b ∷ vs) n v h = ap (λ l. (a, b) ∷ l) (zip_snoc ns vs n v (omega arith))

-- the member at that place is the first that is left
pub next_entry : {A : Type 0} (xs : List A) (i : ℕ) (x : A) → slice_get xs i ≡ Some x → drop i xs ≡ x ∷ drop (i + 1) xs
next_entry xs i x h =
    let lt : i < length xs = slice_get_within xs i x h in
    let is : get_or xs i x ≡ x = get_or_from_slice_get xs i x x h in
    rw (add-one, drop-cons xs i x lt, is) refl

pub found : (xs : List (List ℕ × Json)) (name n : List ℕ) (i : ℕ) (v : Json) → slice_get xs i ≡ Some (n, v) → value_of name (drop i xs) ≡ value_of name xs → bytes_eq n name ≡ true
    → Some v ≡ value_of name xs
found xs name n i v here same hit = let e = rw (next_entry xs i (n, v) here, hit) at same in e

pub passed : (xs : List (List ℕ × Json)) (name n : List ℕ) (i : ℕ) (v : Json) → slice_get xs i ≡ Some (n, v) → value_of name (drop i xs) ≡ value_of name xs → bytes_eq n name ≡ false
    → value_of name (drop (i + 1) xs) ≡ value_of name xs
passed xs name n i v here same miss = let e = rw (next_entry xs i (n, v) here, miss) at same in e
