-- One claim changed.
use Rattle.std.proofs.Common.{◌≡◌, ℕ, zero, suc, ◌<◌, ◌≤◌, Bool, true, false, List, [], ◌∷◌, ◌++◌, length, get_or, map, set, Some, None, refl, sym, ap, ◌∙◌, arith, length-append, length-set}
use Rattle.std.specs.List.{zip, position_or_len}
use Rattle.std.proofs.lemmas.Slice.Zip.{length-zip}
use Rattle.std.proofs.lemmas.List.Quantifiers.{position-Some}
use Rattle.std.proofs.lemmas.List.Sums.{fails_before_first}
use Rattle.std.proofs.lemmas.Grind.{common_steps}
use Rattle.std.specs.Str.{bytes_eq}
use Rattle.usp_json.specs.declared.value.Json.{Json}
use Rattle.usp_json.specs.declared.value.Members.{Members}
use Rattle.usp_json.specs.declared.value.Json.TheViews.{roll-out-Members}
use Rattle.usp_json.specs.Entries.{entries, members_of, place_of, value_of, IsPaired}
use Rattle.usp_claims.specs.Table.{claim, name_of}
use Rattle.usp_claims.specs.Changes.{with_entry, of_entries, with_claim}
use Rattle.usp_claims.specs.declared.table.ClaimName.{ClaimName}

abbrev is_that : List ℕ → List ℕ → Bool
is_that name other = bytes_eq other name

-- the value is set at the first place of the name
set_at : (name : List ℕ) (value : Json) (names : List (List ℕ)) (values : List Json) (place : ℕ) → length names ≡ length values → place < length names → bytes_eq (get_or names place []) name ≡ true
    → ((k : ℕ) → k < place → bytes_eq (get_or names k []) name ≡ false) → with_entry name value (zip names values) ≡ zip names (set values place value)
set_at name value [] values place same lt hit miss = absurd (omega arith)
set_at name value (n ∷ names) [] place same lt hit miss = absurd (omega arith)
set_at name value (n ∷ names) (v ∷ values) zero same lt hit miss = let is : bytes_eq n name ≡ true = hit in rw is refl
set_at name value (n ∷ names) (v ∷ values) (suc place) same lt hit miss =
    let is : bytes_eq n name ≡ false = miss 0 (omega arith) in
    rw is (ap (λ l. (n, v) ∷ l) (set_at name value names values place (omega arith) (omega arith) hit (λ k le. miss (suc k) (omega arith))))

pub set_there : (name : List ℕ) (value : Json) (names : List (List ℕ)) (values : List Json) (place : ℕ) → length names ≡ length values → place_of name names ≡ Some place → with_entry name value (zip names values) ≡ zip names (set values place value)
set_there name value names values place same h = let p = position-Some (is_that name) names place [] h in set_at name value names values place same p.0 p.1 p.2

-- without a place it goes last
last_behind : (name : List ℕ) (value : Json) (names : List (List ℕ)) (values : List Json) → length names ≡ length values → ((k : ℕ) → k < length names → bytes_eq (get_or names k []) name ≡ false)
    → with_entry name value (zip names values) ≡ zip (names ++ name ∷ []) (values ++ value ∷ [])
last_behind name value [] [] same miss = refl
last_behind name value [] (v ∷ values) same miss = absurd (omega arith)
last_behind name value (n ∷ names) [] same miss = absurd (omega arith)
last_behind name value (n ∷ names) (v ∷ values) same miss =
    let is : bytes_eq n name ≡ false = miss 0 (omega arith) in
    rw is (ap (λ l. (n, v) ∷ l) (last_behind name value names values (omega arith) (λ k lt. miss (suc k) (omega arith))))

pub none_at : (name : List ℕ) (names : List (List ℕ)) → place_of name names ≡ None → (k : ℕ) → k < length names → bytes_eq (get_or names k []) name ≡ false
none_at name names h k lt =
    let all : length names ≤ position_or_len (is_that name) names = grind (arith, common_steps) in
    fails_before_first (is_that name) names k [] (omega arith)

last_there : (name : List ℕ) (value : Json) (names : List (List ℕ)) (values : List Json) → length names ≡ length values → place_of name names ≡ None → with_entry name value (zip names values) ≡ zip (names ++ name ∷ []) (values ++ value ∷ [])
last_there name value names values same h = last_behind name value names values same (none_at name names h)

names_back : (names : List (List ℕ)) (values : List Json) → length names ≡ length values → map (λ e. e.0) (zip names values) ≡ names
names_back [] [] same = refl
names_back [] (v ∷ values) same = absurd (omega arith)
names_back (n ∷ names) [] same = absurd (omega arith)
names_back (n ∷ names) (v ∷ values) same = ap (λ l. n ∷ l) (names_back names values (omega arith))

values_back : (names : List (List ℕ)) (values : List Json) → length names ≡ length values → map (λ e. e.1) (zip names values) ≡ values
values_back [] [] same = refl
values_back [] (v ∷ values) same = absurd (omega arith)
values_back (n ∷ names) [] same = absurd (omega arith)
values_back (n ∷ names) (v ∷ values) same = ap (λ l. v ∷ l) (values_back names values (omega arith))

of_lists : (names : List (List ℕ)) (values : List Json) → length names ≡ length values → of_entries (zip names values) ≡ members_of names values
of_lists names values same = rw (names_back names values same, values_back names values same) refl

pub whole : (m : Members) → members_of m.names m.values ≡ m
whole m = roll-out-Members m

pub place_within : (name : List ℕ) (m : Members) (place : ℕ) → IsPaired m → place_of name m.names ≡ Some place → place < length (entries m)
place_within name m place paired h =
    let p = position-Some (is_that name) m.names place [] h in
    let n = length-zip m.names m.values in
    let l = p.0 in
    omega (arith, n, paired, l)

-- a claim that is there
pub present : (name : ClaimName) (value : Json) (m k : Members) (place : ℕ) → IsPaired m → place_of (name_of name) m.names ≡ Some place → k.names ≡ m.names → k.values ≡ set m.values place value → k ≡ with_claim name value m
present name value m k place paired h names values =
    let same : length m.names ≡ length (set m.values place value) = paired ∙ sym (length-set m.values place value) in
    let lists : members_of k.names k.values ≡ members_of m.names (set m.values place value) = rw (names, values) refl in
    sym (whole k) ∙ (lists ∙ (sym (of_lists m.names (set m.values place value) same) ∙ ap of_entries (sym (set_there (name_of name) value m.names m.values place paired h))))

-- a claim that is not there
pub absent : (name : ClaimName) (value : Json) (m k : Members) → IsPaired m → place_of (name_of name) m.names ≡ None → k.names ≡ m.names ++ name_of name ∷ [] → k.values ≡ m.values ++ value ∷ [] → k ≡ with_claim name value m
absent name value m k paired h names values =
    let same : length (m.names ++ name_of name ∷ []) ≡ length (m.values ++ value ∷ []) = omega (arith, paired, length-append m.names (name_of name ∷ []), length-append m.values (value ∷ [])) in
    let lists : members_of k.names k.values ≡ members_of (m.names ++ name_of name ∷ []) (m.values ++ value ∷ []) = rw (names, values) refl in
    sym (whole k) ∙ (lists ∙ (sym (of_lists (m.names ++ name_of name ∷ []) (m.values ++ value ∷ []) same) ∙ ap of_entries (sym (last_there (name_of name) value m.names m.values paired h))))

no_value_of : (name : List ℕ) (names : List (List ℕ)) (values : List Json) → ((k : ℕ) → k < length names → bytes_eq (get_or names k []) name ≡ false) → value_of name (zip names values) ≡ None
no_value_of name [] values miss = refl
no_value_of name (n ∷ names) [] miss = refl
no_value_of name (n ∷ names) (v ∷ values) miss =
    let is : bytes_eq n name ≡ false = miss 0 (omega arith) in
    rw is (no_value_of name names values (λ k lt. miss (suc k) (omega arith)))

pub no_value : (name : ClaimName) (m : Members) → place_of (name_of name) m.names ≡ None → claim (name_of name) m ≡ None
no_value name m h = no_value_of (name_of name) m.names m.values (none_at (name_of name) m.names h)
