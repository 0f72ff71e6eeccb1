-- Cutting by `until` and `from_first` is cutting at the first position that passes.
use Rattle.std.proofs.Common.{◌≡◌, ℕ, suc, ◌+◌, ◌≤◌, Bool, true, false, cond, not, ltb, List, [], ◌∷◌, ◌++◌, length, take, drop, Some, None, refl, sym, ap, ◌∙◌, inl, inr, arith}
use Rattle.std.specs.Prelude.{unwrap_or, position}
use Rattle.std.specs.List.{position_or_len}
use Rattle.std.proofs.lemmas.List.Sums.{prefix_len-le-length}
use Rattle.std.proofs.lemmas.List.{take_at, drop_at, length-append}
use Rattle.std.proofs.lemmas.Bool.{cases_lt, lt-ltb, le-ltb}
use Rattle.usp_uri.specs.Delimited.{until, from_first}

take_step : (b : Bool) (c : ℕ) (rest u : List ℕ) (n : ℕ) → u ≡ take n rest → cond b [] (c ∷ u) ≡ take (cond (not b) (1 + n) 0) (c ∷ rest)
take_step true c rest u n e = refl
take_step false c rest u n e =
    let one : 1 + n ≡ suc n = omega arith in
    rw (one, e) refl

drop_step : (b : Bool) (c : ℕ) (rest u : List ℕ) (n : ℕ) → u ≡ drop n rest → cond b (c ∷ rest) u ≡ drop (cond (not b) (1 + n) 0) (c ∷ rest)
drop_step true c rest u n e = refl
drop_step false c rest u n e =
    let one : 1 + n ≡ suc n = omega arith in
    rw (one, e) refl

until-take : (stops : ℕ → Bool) (text : List ℕ) → until stops text ≡ take (position_or_len stops text) text
until-take stops [] = refl
until-take stops (c ∷ rest) = take_step (stops c) c rest (until stops rest) _ (until-take stops rest)

from_first-drop : (stops : ℕ → Bool) (text : List ℕ) → from_first stops text ≡ drop (position_or_len stops text) text
from_first-drop stops [] = refl
from_first-drop stops (c ∷ rest) = drop_step (stops c) c rest (from_first stops rest) _ (from_first-drop stops rest)

unwrapped : (n len : ℕ) → n ≤ len → unwrap_or (cond (ltb n len) (Some n) None) len ≡ n
unwrapped n len le =
    elim (cases_lt n len) [
      | inl lt ↦ rw (lt-ltb _ _ lt) refl
      | inr ge ↦ let same : len ≡ n = omega arith in rw (le-ltb _ _ ge, same) refl
    ]

pub cut_at : (stops : ℕ → Bool) (text : List ℕ) → unwrap_or (position stops text) (length text) ≡ position_or_len stops text
cut_at stops text = unwrapped (position_or_len stops text) (length text) (prefix_len-le-length (λ c. not (stops c)) text)

pub take-until : (stops : ℕ → Bool) (text : List ℕ) → take (unwrap_or (position stops text) (length text)) text ≡ until stops text
take-until stops text = rw (cut_at stops text) (sym (until-take stops text))

pub drop-from_first : (stops : ℕ → Bool) (text : List ℕ) → drop (unwrap_or (position stops text) (length text)) text ≡ from_first stops text
drop-from_first stops text = rw (cut_at stops text) (sym (from_first-drop stops text))

pub within : (stops : ℕ → Bool) (text : List ℕ) → unwrap_or (position stops text) (length text) ≤ length text
within stops text = rw (cut_at stops text) (prefix_len-le-length (λ c. not (stops c)) text)

pub ruleset cut_rules = (take-until, drop-from_first, within)

-- the two parts are the whole
parts_step : (b : Bool) (c : ℕ) (u f rest : List ℕ) → u ++ f ≡ rest → cond b [] (c ∷ u) ++ cond b (c ∷ rest) f ≡ c ∷ rest
parts_step true c u f rest e = refl
parts_step false c u f rest e = ap (λ (t : List ℕ). c ∷ t) e

pub until-append : (stops : ℕ → Bool) (text : List ℕ) → until stops text ++ from_first stops text ≡ text
until-append stops [] = refl
until-append stops (c ∷ rest) = parts_step (stops c) c (until stops rest) (from_first stops rest) rest (until-append stops rest)

pub length-until : (stops : ℕ → Bool) (text : List ℕ) → length (until stops text) + length (from_first stops text) ≡ length text
length-until stops text = omega (arith, ap length (until-append stops text), length-append (until stops text) (from_first stops text))

pub take-length : (stops : ℕ → Bool) (text : List ℕ) → take (length (until stops text)) text ≡ until stops text
take-length stops text = ap (take (length (until stops text))) (sym (until-append stops text)) ∙ take_at (until stops text) (from_first stops text) _ refl

pub drop-length : (stops : ℕ → Bool) (text : List ℕ) → drop (length (until stops text)) text ≡ from_first stops text
drop-length stops text = ap (drop (length (until stops text))) (sym (until-append stops text)) ∙ drop_at (until stops text) (from_first stops text) _ refl
