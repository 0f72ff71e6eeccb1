-- A Cookie value, piece by piece.
use Rattle.std.proofs.Common.{◌≡◌, ℕ, ◌+◌, ◌<◌, ◌≤◌, Bool, true, false, cond, eqb, ltb, List, [], ◌∷◌, length, take, drop, Option, Some, None, refl, sym, ap, ◌∙◌, arith, inl, inr}
use Rattle.std.specs.List.{position_or_len, slice_split}
use Rattle.std.specs.Option.{option_map}
use Rattle.std.proofs.lemmas.Bool.{ltb-true, cases_lt, lt-ltb}
use Rattle.std.proofs.lemmas.List.{length-drop}
use Rattle.std.proofs.lemmas.List.Splits.{slice_split_first}
use Rattle.usp_base.specs.Blanks.{trim_blanks}
use Rattle.usp_base.specs.Cuts.{cut_at}
use Rattle.usp_cookie.specs.Cookies.{first_value, token_of, value_under}

abbrev is_end : ℕ → Bool
is_end c = eqb c 59

-- what stands before an offset, and behind the byte at it
abbrev at : List ℕ → ℕ → List ℕ × List ℕ
at text i = (take i text, drop (i + 1) text)

record IsCut (n : ℕ) (hit : Bool) (text a b : List ℕ) : Type 0 where
  there : hit ≡ true
  front : take n text ≡ a
  back : drop (n + 1) text ≡ b

some_same : {X : Type 0} (a b : X) → Some a ≡ Some b → a ≡ b
some_same a b e = cc

cut_case : (hit : Bool) (n : ℕ) (text a b : List ℕ) → option_map (at text) (cond hit (Some n) None) ≡ Some (a, b) → IsCut n hit text a b
cut_case true n text a b e =
    let same = some_same (at text n) (a, b) e in
    record { there = refl; front = ap (λ (p : List ℕ × List ℕ). p.0) same; back = ap (λ (p : List ℕ × List ℕ). p.1) same }
cut_case false n text a b e = absurd cc

no_case : (hit : Bool) (n : ℕ) (text : List ℕ) → option_map (at text) (cond hit (Some n) None) ≡ None → hit ≡ false
no_case true n text e = absurd cc
no_case false n text e = refl

cut_is : (text a b : List ℕ) → cut_at 59 text ≡ Some (a, b) → IsCut (position_or_len is_end text) (ltb (position_or_len is_end text) (length text)) text a b
cut_is text a b e = cut_case (ltb (position_or_len is_end text) (length text)) (position_or_len is_end text) text a b e

split_more : (text a b : List ℕ) → cut_at 59 text ≡ Some (a, b) → slice_split is_end text ≡ a ∷ slice_split is_end b
split_more text a b e =
    let c = cut_is text a b e in
    rw (slice_split_first is_end text 0 (ltb-true _ _ c.there), c.front, c.back) refl

pub shorter : (text a b : List ℕ) → cut_at 59 text ≡ Some (a, b) → length b < length text
shorter text a b e =
    let c = cut_is text a b e in
    let n = position_or_len is_end text in
    omega (arith, ltb-true _ _ c.there, ap length c.back, length-drop (n + 1) text)

-- a text without ';' is one piece
none_case : (hit : Bool) (c : ℕ) (rest : List ℕ) → is_end c ≡ hit → (length rest ≤ position_or_len is_end rest → slice_split is_end rest ≡ rest ∷ [])
    → length (c ∷ rest) ≤ position_or_len is_end (c ∷ rest) → slice_split is_end (c ∷ rest) ≡ (c ∷ rest) ∷ []
none_case true c rest is more le = let first : position_or_len is_end (c ∷ rest) ≡ 0 = rw is refl in absurd (omega (arith, first))
none_case false c rest is more le =
    let next : position_or_len is_end (c ∷ rest) ≡ 1 + position_or_len is_end rest = rw is refl in
    rw (is, more (omega (arith, next))) refl

split_none : (text : List ℕ) → length text ≤ position_or_len is_end text → slice_split is_end text ≡ text ∷ []
split_none [] le = refl
split_none (c ∷ rest) le = none_case (is_end c) c rest refl (split_none rest) le

split_last : (text : List ℕ) → cut_at 59 text ≡ None → slice_split is_end text ≡ text ∷ []
split_last text e =
    let miss = no_case (ltb (position_or_len is_end text) (length text)) (position_or_len is_end text) text e in
    split_none text (elim (cases_lt (position_or_len is_end text) (length text)) [
      | inl lt ↦ let yes = lt-ltb _ _ lt in let both : true ≡ false = sym yes ∙ miss in absurd (cc both)
      | inr ge ↦ ge
    ])

-- ---- the first pair

pub token_passed : (name text a b : List ℕ) → cut_at 59 text ≡ Some (a, b) → value_under name (trim_blanks a) ≡ None → token_of name text ≡ token_of name b
token_passed name text a b e none = rw (split_more text a b e, none) refl

pub token_found : (name text a b value : List ℕ) → cut_at 59 text ≡ Some (a, b) → value_under name (trim_blanks a) ≡ Some value → token_of name text ≡ Some value
token_found name text a b value e some = rw (split_more text a b e, some) refl

last_value : (o : Option (List ℕ)) → first_value (o ∷ []) ≡ o
last_value None = refl
last_value (Some value) = refl

pub token_last : (name text : List ℕ) → cut_at 59 text ≡ None → token_of name text ≡ value_under name (trim_blanks text)
token_last name text e = rw (split_last text e) (last_value (value_under name (trim_blanks text)))
