-- Texts as they are cut at a byte, and into lines.
use Rattle.std.proofs.Common.{inl, inr, ◌≡◌, ℕ, suc, ◌+◌, ◌<◌, ◌≤◌, Bool, true, false, not, cond, ◌==◌, List, [], ◌∷◌, length, take, drop, Option, Some, None, refl, sym, ap, ◌∙◌, arith}
use Rattle.std.specs.List.{position_or_len, slice_split, onto_first}
use Rattle.std.specs.Option.{option_map}
use Rattle.std.proofs.lemmas.Bool.{cases_lt, le-ltb}
use Rattle.std.proofs.lemmas.List.{length-drop}
use Rattle.std.proofs.lemmas.List.Splits.{length-slice_split, slice_split_first}
use borrow.Author.Tests.{lt-ltb}
use Rattle.usp_base.specs.Cuts.{cut_at, without_end}
use Rattle.usp_base.specs.Lines.{lines_in, lines_of}

-- the byte at which a text is cut
abbrev at : ℕ → ℕ → Bool
at byte b = b == byte

abbrev cut_where : List ℕ → Option ℕ → Option (List ℕ × List ℕ)
cut_where text place = option_map (λ i. (take i text, drop (i + 1) text)) place

uncut_by : (p : ℕ → Bool) (x : ℕ) (xs : List ℕ) (b : Bool) → suc (length xs) ≤ cond (not b) (1 + position_or_len p xs) 0
    → (length xs ≤ position_or_len p xs → slice_split p xs ≡ xs ∷ [])
    → cond b ([] ∷ slice_split p xs) (onto_first x (slice_split p xs)) ≡ (x ∷ xs) ∷ []
uncut_by p x xs true le rest = absurd (omega arith)
uncut_by p x xs false le rest = ap (onto_first x) (rest (omega (arith, le)))

-- a text without the byte is one part
uncut : (p : ℕ → Bool) (xs : List ℕ) → length xs ≤ position_or_len p xs → slice_split p xs ≡ xs ∷ []
uncut p [] le = refl
uncut p (x ∷ xs) le = uncut_by p x xs (p x) le (uncut p xs)

found : (byte : ℕ) (text : List ℕ) → position_or_len (at byte) text < length text
    → cut_at byte text ≡ Some (take (position_or_len (at byte) text) text, drop (position_or_len (at byte) text + 1) text)
found byte text lt = ap (λ b. cut_where text (cond b (Some (position_or_len (at byte) text)) None)) (lt-ltb _ _ lt)

pub split_uncut : (byte : ℕ) (text : List ℕ) → cut_at byte text ≡ None → slice_split (at byte) text ≡ text ∷ []
split_uncut byte text none =
    elim (cases_lt (position_or_len (at byte) text) (length text)) [
      | inl lt ↦ let both : ◌≡◌ {A = Option (List ℕ × List ℕ)} None (Some (take (position_or_len (at byte) text) text, drop (position_or_len (at byte) text + 1) text)) = sym none ∙ found byte text lt in cc
      | inr le ↦ uncut (at byte) text le
    ]

unfound_by : (text : List ℕ) (n : ℕ) (b : Bool) → b ≡ false → cut_where text (cond b (Some n) None) ≡ None
unfound_by text n b e = ap (λ b. cut_where text (cond b (Some n) None)) e

abbrev front : Option (List ℕ × List ℕ) → List ℕ
front None = []
front (Some cut) = cut.0

abbrev back : Option (List ℕ × List ℕ) → List ℕ
back None = []
back (Some cut) = cut.1

same_cut : (a b x y : List ℕ) → ◌≡◌ {A = Option (List ℕ × List ℕ)} (Some (a, b)) (Some (x, y)) → (a ≡ x) × (b ≡ y)
same_cut a b x y e = (ap front e, ap back e)

is_none : (byte : ℕ) (text a b : List ℕ) → length text ≤ position_or_len (at byte) text → cut_at byte text ≡ Some (a, b) → ⊥
is_none byte text a b le e =
    let none : cut_at byte text ≡ None = unfound_by text (position_or_len (at byte) text) _ (le-ltb _ _ le) in
    let both : ◌≡◌ {A = Option (List ℕ × List ℕ)} None (Some (a, b)) = sym none ∙ e in cc

pub split_cut : (byte : ℕ) (text a b : List ℕ) → cut_at byte text ≡ Some (a, b) → slice_split (at byte) text ≡ a ∷ slice_split (at byte) b
split_cut byte text a b e =
    elim (cases_lt (position_or_len (at byte) text) (length text)) [
      | inl lt ↦
          let same = same_cut _ _ a b (sym (found byte text lt) ∙ e) in
          rw (← same.0, ← same.1) (slice_split_first (at byte) text 0 lt)
      | inr le ↦ absurd (is_none byte text a b le e)
    ]

pub cut_shorter : (byte : ℕ) (text a b : List ℕ) → cut_at byte text ≡ Some (a, b) → length b < length text
cut_shorter byte text a b e =
    elim (cases_lt (position_or_len (at byte) text) (length text)) [
      | inl lt ↦
          let same = same_cut _ _ a b (sym (found byte text lt) ∙ e) in
          omega (arith, ap length same.1, length-drop (position_or_len (at byte) text + 1) text)
      | inr le ↦ absurd (is_none byte text a b le e)
    ]

-- ---- lines

lines_more : (a : List ℕ) (parts : List (List ℕ)) → 0 < length parts → lines_in (a ∷ parts) ≡ without_end 13 a ∷ lines_in parts
lines_more a [] lt = absurd (omega arith)
lines_more a (part ∷ parts) lt = refl

pub line_cut : (text a b : List ℕ) → cut_at 10 text ≡ Some (a, b) → lines_of text ≡ without_end 13 a ∷ lines_of b
line_cut text a b e =
    ap lines_in (split_cut 10 text a b e) ∙ lines_more a (slice_split (at 10) b) (omega (arith, length-slice_split (at 10) b))

some_line : (text : List ℕ) → 0 < length text → lines_in (text ∷ []) ≡ text ∷ []
some_line [] lt = absurd (omega arith)
some_line (b ∷ text) lt = refl

pub line_alone : (text : List ℕ) → 0 < length text → cut_at 10 text ≡ None → lines_of text ≡ text ∷ []
line_alone text lt e = ap lines_in (split_uncut 10 text e) ∙ some_line text lt

-- for the first line
pub ruleset first_cut = (line_alone, line_cut, cut_shorter)
