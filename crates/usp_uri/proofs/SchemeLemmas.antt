-- A text that begins with a scheme's name has its first colon behind it.
use Rattle.std.proofs.Common.{◌≡◌, ℕ, suc, ◌<◌, ◌≤◌, Bool, true, false, eqb, ◌&&◌, List, [], ◌∷◌, ◌++◌, length, take, map, refl, ap, arith}
use Rattle.std.specs.Prelude.{codes}
use Rattle.std.specs.List.{list_all}
use Rattle.std.specs.Str.{bytes_eq}
use Rattle.std.specs.Char.{to_ascii_lowercase, is_ascii_lowercase}
use Rattle.std.proofs.lemmas.Bool.Decides.{nat_tests}
use Rattle.usp_uri.specs.Letters.{is_colon}
use Rattle.usp_uri.specs.Delimited.{until}
use Rattle.usp_uri.specs.Components.{scheme_in}
use Rattle.usp_uri.specs.Faults.{begins_in_any_case}

both : (a b : Bool) → (a && b) ≡ true → (a ≡ true) × (b ≡ true)
both true b e = (refl, e)
both false b e = absurd cc

letter_is : (l c : ℕ) → is_ascii_lowercase l ≡ true → eqb (to_ascii_lowercase c) (to_ascii_lowercase l) ≡ true → is_colon c ≡ false
letter_is l c letter same = grind (arith, nat_tests)

colon_is : (c : ℕ) → eqb (to_ascii_lowercase c) 58 ≡ true → is_colon c ≡ true
colon_is c same = grind (arith, nat_tests)

scheme_of_name : (name tail text : List ℕ) → list_all is_ascii_lowercase name ≡ true
    → bytes_eq (map to_ascii_lowercase (take (length (name ++ 58 ∷ tail)) text)) (map to_ascii_lowercase (name ++ 58 ∷ tail)) ≡ true
    → length name ≡ length (until is_colon text)
scheme_of_name [] tail [] letters e = absurd cc
scheme_of_name [] tail (c ∷ rest) letters e = rw (colon_is c (both _ _ e).0) refl
scheme_of_name (l ∷ name) tail [] letters e = absurd cc
scheme_of_name (l ∷ name) tail (c ∷ rest) letters e =
    let this = both _ _ e in
    let ls = both _ _ letters in
    rw (letter_is l c ls.0 this.0) (ap suc (scheme_of_name name tail rest ls.1 this.1))

pub http_scheme : (text : List ℕ) → begins_in_any_case (codes "http://") text ≡ true → 4 ≡ length (scheme_in text)
http_scheme text e = scheme_of_name (codes "http") (codes "//") text refl e

pub https_scheme : (text : List ℕ) → begins_in_any_case (codes "https://") text ≡ true → 5 ≡ length (scheme_in text)
https_scheme text e = scheme_of_name (codes "https") (codes "//") text refl e

-- a text that is too short for a name
pub shorter : (name text : List ℕ) → length text < length name → bytes_eq (map to_ascii_lowercase (take (length name) text)) (map to_ascii_lowercase name) ≡ false
shorter [] text h = absurd (omega arith)
shorter (l ∷ name) [] h = refl
shorter (l ∷ name) (c ∷ rest) h = rw (shorter name rest (omega arith)) (none _)
  where
    none : (b : Bool) → (b && false) ≡ false
    none true = refl
    none false = refl

-- a text that begins with a name is as long
pub long_enough : (name text : List ℕ) → begins_in_any_case name text ≡ true → length name ≤ length text
long_enough [] text e = omega arith
long_enough (l ∷ name) [] e = absurd cc
long_enough (l ∷ name) (c ∷ rest) e = omega (arith, long_enough name rest (both _ _ e).1)

pub http_room : (text : List ℕ) → begins_in_any_case (codes "http://") text ≡ true → 7 ≤ length text
http_room text e = long_enough (codes "http://") text e

pub https_room : (text : List ℕ) → begins_in_any_case (codes "https://") text ≡ true → 8 ≤ length text
https_room text e = long_enough (codes "https://") text e

pub ruleset scheme_rules = (http_scheme, https_scheme, http_room, https_room)
