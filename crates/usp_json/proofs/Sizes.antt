-- How long the parts of the canonical text are.
use Rattle.std.proofs.Common.{◌≡◌, ℕ, ◌+◌, ◌<◌, ◌≤◌, List, [], ◌∷◌, ◌++◌, length, get_or, map, drop, refl, arith, add-one}
use Rattle.std.specs.List.{zip}
use Rattle.std.proofs.lemmas.List.{length-append, drop_all}
use Rattle.std.proofs.Math.Seq.{drop-cons}
use Rattle.usp_json.specs.declared.value.Json.{Json}
use Rattle.usp_json.specs.Canon.{behind, canon, canon_text, commas, escape_of, escaped_text, member_of}
use Rattle.usp_json.proofs.Pairs.{zip_nil}

-- in quotes
pub quoted : (text : List ℕ) → length (34 ∷ (text ++ 34 ∷ [])) ≡ length text + 2
quoted text = let e = length-append text (34 ∷ []) in omega arith

pub text_size : (bytes : List ℕ) → length (canon_text bytes) ≡ length (escaped_text bytes) + 2
text_size bytes = quoted (escaped_text bytes)

-- between brackets
pub bracketed : (l r : ℕ) (xs : List ℕ) → length (l ∷ (xs ++ r ∷ [])) ≡ length xs + 2
bracketed l r xs = let e = length-append xs (r ∷ []) in omega arith

pub behind_size : (text : List ℕ) (texts : List (List ℕ)) → length (behind (text ∷ texts)) ≡ 1 + length text + length (behind texts)
behind_size text texts = let e = length-append text (behind texts) in omega arith

pub commas_size : (text : List ℕ) (texts : List (List ℕ)) → length (commas (text ∷ texts)) ≡ length text + length (behind texts)
commas_size text texts = length-append text (behind texts)

pub member_size : (name text : List ℕ) → length (member_of (name, text)) ≡ length (canon_text name) + 1 + length text
member_size name text = let e = length-append (canon_text name) (58 ∷ text) in omega arith

-- what is left from a place on
next : {A : Type 0} (xs : List A) (i : ℕ) (d : A) → i < length xs → drop i xs ≡ get_or xs i d ∷ drop (i + 1) xs
next xs i d h = rw (add-one, drop-cons xs i d h) refl

pub bytes_left : (bytes : List ℕ) (i d : ℕ) → i < length bytes
    → length (escaped_text (drop i bytes)) ≡ length (escape_of (get_or bytes i d)) + length (escaped_text (drop (i + 1) bytes))
bytes_left bytes i d h = rw (next bytes i d h) (length-append (escape_of (get_or bytes i d)) (escaped_text (drop (i + 1) bytes)))

pub values_left : (vs : List Json) (i : ℕ) (d : Json) → i < length vs
    → length (behind (map canon (drop i vs))) ≡ 1 + length (canon (get_or vs i d)) + length (behind (map canon (drop (i + 1) vs)))
values_left vs i d h = rw (next vs i d h) (behind_size (canon (get_or vs i d)) (map canon (drop (i + 1) vs)))

-- how long the members are with a comma before each
abbrev pub pairs_size : List (List ℕ) → List Json → ℕ
pairs_size names values = length (behind (map member_of (zip names (map canon values))))

pub pairs_left : (ns : List (List ℕ)) (vs : List Json) (i : ℕ) (n : List ℕ) (v : Json) → i < length ns → i < length vs
    → pairs_size (drop i ns) (drop i vs) ≡ 1 + length (member_of (get_or ns i n, canon (get_or vs i v))) + pairs_size (drop (i + 1) ns) (drop (i + 1) vs)
pairs_left ns vs i n v h k =
    rw (next ns i n h, next vs i v k) (behind_size (member_of (get_or ns i n, canon (get_or vs i v))) (map member_of (zip (drop (i + 1) ns) (map canon (drop (i + 1) vs)))))

-- no values are left
pub all_counted : (len all : ℕ) (ns : List (List ℕ)) (vs : List Json) (i : ℕ) → length vs ≤ i → len + pairs_size (drop i ns) (drop i vs) ≡ all → len ≡ all
all_counted len all ns vs i h e =
    let none : pairs_size (drop i ns) (drop i vs) ≡ 0 = rw (drop_all i vs h, zip_nil {B = List ℕ} (drop i ns)) refl in
    omega arith
