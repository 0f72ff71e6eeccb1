-- Texts cut where the letters of their front end.
use Rattle.std.proofs.Common.{◌≡◌, ℕ, zero, suc, ◌-◌, ◌<◌, Bool, true, false, not, cond, ◌&&◌, ◌==◌, nat_le, List, [], ◌∷◌, ◌++◌, length, drop, get_or, refl, sym, ap, ◌∙◌, subst, arith}
use Rattle.std.specs.Prelude.{All}
use Rattle.std.specs.List.{list_all, slice_split}
use Rattle.std.specs.Str.{bytes_eq}
use Rattle.std.proofs.lemmas.Bool.{and_parts}
use Rattle.std.proofs.lemmas.Bool.Decides.{nat_tests}
use Rattle.std.proofs.lemmas.List.Elements.{All-cons, All-nil}
use Rattle.std.proofs.lemmas.List.Folds.{list_all-append}
use Rattle.std.proofs.lemmas.List.Splits.{length-slice_split, slice_split_at}
use Rattle.std.proofs.lemmas.Slice.Eq.{bytes_eq-Decides}
use Rattle.usp_base.specs.Cuts.{without_end}
use Rattle.usp_base.specs.Lines.{lines_in, lines_of}

-- ---- letters

abbrev pub Each : (ℕ → Bool) → List ℕ → Type 0
Each p text = list_all p text ≡ true

-- both tests pass
pub passed : (a b : Bool) → a ≡ true → b ≡ true → (a && b) ≡ true
passed a b e f = rw (e, f) refl

pub each_both : (p : ℕ → Bool) (xs ys : List ℕ) → Each p xs → Each p ys → Each p (xs ++ ys)
each_both p xs ys e f = list_all-append p xs ys ∙ passed (list_all p xs) (list_all p ys) e f

pub each_wider : (p q : ℕ → Bool) → ((b : ℕ) → p b ≡ true → q b ≡ true) → (xs : List ℕ) → Each p xs → Each q xs
each_wider p q wider [] e = refl
each_wider p q wider (b ∷ xs) e =
    let parts = and_parts (p b) (list_all p xs) e in
    passed (q b) (list_all q xs) (wider b parts.0) (each_wider p q wider xs parts.1)

each_behind : (p : ℕ → Bool) (n : ℕ) (xs : List ℕ) → Each p xs → Each p (drop n xs)
each_behind p zero xs e = e
each_behind p (suc n) [] e = refl
each_behind p (suc n) (b ∷ xs) e = each_behind p n xs (and_parts (p b) (list_all p xs) e).1

-- the text is empty, or begins with another byte
abbrev pub ends : (ℕ → Bool) → List ℕ → Bool
ends p [] = true
ends p (b ∷ text) = not (p b)

clash : (p : ℕ → Bool) (b : ℕ) → p b ≡ true → not (p b) ≡ true → ⊥
clash p b passes stops = let never : not true ≡ true = subst (λ (t : Bool). not t ≡ true) passes stops in cc

pub first_byte : (a b : ℕ) (x y : List ℕ) → a ∷ x ≡ b ∷ y → a ≡ b
first_byte a b x y e = ap (λ (l : List ℕ). get_or l 0 0) e

pub behind_first : (a b : ℕ) (x y : List ℕ) → a ∷ x ≡ b ∷ y → x ≡ y
behind_first a b x y e = ap (λ (l : List ℕ). drop 1 l) e

-- two texts that are one part at one place, where letters end in both
pub parted : (p : ℕ → Bool) (x y r s : List ℕ) → Each p x → Each p y → ends p r ≡ true → ends p s ≡ true
    → x ++ r ≡ y ++ s → (x ≡ y) × (r ≡ s)
parted p [] [] r s ex ey er es e = (refl, e)
parted p [] (b ∷ y) r s ex ey er es e =
    absurd (clash p b (and_parts (p b) (list_all p y) ey).0 (subst (λ (l : List ℕ). ends p l ≡ true) e er))
parted p (a ∷ x) [] r s ex ey er es e =
    absurd (clash p a (and_parts (p a) (list_all p x) ex).0 (subst (λ (l : List ℕ). ends p l ≡ true) (sym e) es))
parted p (a ∷ x) (b ∷ y) r s ex ey er es e =
    let more = parted p x y r s (and_parts (p a) (list_all p x) ex).1 (and_parts (p b) (list_all p y) ey).1 er es
    (behind_first a b (x ++ r) (y ++ s) e) in (
      ap (λ (c : ℕ). c ∷ x) (first_byte a b (x ++ r) (y ++ s) e) ∙ ap (λ (l : List ℕ). b ∷ l) more.0,
      more.1,
    )

-- ---- lines

-- a byte that neither ends a line nor goes with its end
abbrev pub is_clear : ℕ → Bool
is_clear b = nat_le 32 b

no_feed_at : (b : ℕ) → is_clear b ≡ true → (b == 10) ≡ false
no_feed_at b clear = grind (arith, nat_tests)

no_feed : (text : List ℕ) → Each is_clear text → All (λ b. (b == 10) ≡ false) text
no_feed [] e = All-nil (λ b. (b == 10) ≡ false)
no_feed (b ∷ text) e =
    let parts = and_parts (is_clear b) (list_all is_clear text) e in
    All-cons (λ b. (b == 10) ≡ false) b text (no_feed_at b parts.0) (no_feed text parts.1)

kept_by : (b : Bool) (x y : List ℕ) → (b ≡ true → ⊥) → cond b x y ≡ y
kept_by true x y never = absurd (never refl)
kept_by false x y never = refl

ends_clear : (text : List ℕ) → Each is_clear text → without_end 13 text ≡ text
ends_clear text e =
    let last = drop (length text - 1) text in
    kept_by (bytes_eq last (13 ∷ [])) _ text (λ same.
    let is : last ≡ 13 ∷ [] = (bytes_eq-Decides last (13 ∷ [])).0 same in
    let clear : Each is_clear (13 ∷ []) = subst (Each is_clear) is (each_behind is_clear (length text - 1) text e) in cc)

more_lines : (a : List ℕ) (parts : List (List ℕ)) → 0 < length parts → lines_in (a ∷ parts) ≡ without_end 13 a ∷ lines_in parts
more_lines a [] lt = absurd (omega arith)
more_lines a (part ∷ parts) lt = refl

-- the first line of a text that begins with a clear one
pub first_is : (line text : List ℕ) → Each is_clear line → lines_of (line ++ 10 ∷ text) ≡ line ∷ lines_of text
first_is line text e =
    let rest = slice_split (λ b. b == 10) text in
    ap lines_in (slice_split_at (λ b. b == 10) line 10 text (no_feed line e) refl)
    ∙ (more_lines line rest (omega (arith, length-slice_split (λ b. b == 10) text))
    ∙ ap (λ l. l ∷ lines_of text) (ends_clear line e))
