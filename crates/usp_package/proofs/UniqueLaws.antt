-- A text has one package at most: what the relation says of a text, it says of no other package.
use Rattle.std.proofs.Common.{◌≡◌, ℕ, ◌+◌, Bool, true, false, ◌&&◌, ◌||◌, List, [], ◌∷◌, ◌++◌, length, refl, sym, ap, subst, ◌∙◌, inl, inr, arith}
use Rattle.std.specs.Prelude.{MatchBool}
use Rattle.std.specs.List.{list_all}
use Rattle.std.proofs.lemmas.Bool.{cases_lt}
use Rattle.std.proofs.lemmas.List.{append_cancel_left}
use Rattle.usp_uri.proofs.ComponentLaws.{both}
use Rattle.usp_uri.specs.Letters.{is_sub_delim, is_gen_delim, is_reserved}
use Rattle.usp_uri.specs.Delimited.{until, from_first}
use Rattle.usp_package.specs.Package.{is_place, IsFirstPlace, is_run_byte, ends_run, IsPastRun, CutsAt, IsSplit, Finds, Package, nothing, bad, carried, package_of}
use Rattle.usp_package.proofs.FindLaws.{package_of_finds}

differ : (b : Bool) → b ≡ true → b ≡ false → ⊥
differ true e f = absurd cc
differ false e f = absurd cc

first_unique : (name uri : List ℕ) (i j : ℕ) → IsFirstPlace name uri i → IsFirstPlace name uri j → i ≡ j
first_unique name uri i j a b =
    elim (cases_lt i j) [
      | inl below ↦ absurd (differ (is_place name uri i) a.here (b.first i below))
      | inr above ↦ elim (cases_lt j i) [
        | inl below ↦ absurd (differ (is_place name uri j) b.here (a.first j below))
        | inr more ↦ omega arith
      ]
    ]

heads : (c d : ℕ) (xs ys : List ℕ) → c ∷ xs ≡ d ∷ ys → (c ≡ d) × (xs ≡ ys)
heads c d xs ys e = (cc, cc)

-- two cuts of one text at one place
fronts : (f g x y : List ℕ) → f ++ x ≡ g ++ y → length f ≡ length g → (f ≡ g) × (x ≡ y)
fronts [] [] x y e l = (refl, e)
fronts [] (d ∷ g) x y e l = absurd (omega arith)
fronts (c ∷ f) [] x y e l = absurd (omega arith)
fronts (c ∷ f) (d ∷ g) x y e l =
    let h = heads c d (f ++ x) (g ++ y) e in
    let more = fronts f g x y h.1 (omega arith) in
    (ap (λ n. n ∷ f) h.0 ∙ ap (λ (t : List ℕ). d ∷ t) more.0, more.1)

-- a run before a text that does not go on with it
run_of : (token rest : List ℕ) → list_all is_run_byte token ≡ true → IsPastRun rest → (until ends_run (token ++ rest) ≡ token) × (from_first ends_run (token ++ rest) ≡ rest)
run_of [] [] run past = (refl, refl)
run_of [] (d ∷ rest) run past = (rw past refl, rw past refl)
run_of (c ∷ token) rest run past =
    let first = both (is_run_byte c) (list_all is_run_byte token) run in
    let more = run_of token rest first.1 past in
    (rw first.0 (ap (λ (t : List ℕ). c ∷ t) more.0), rw first.0 more.1)

record IsSame (f g : List ℕ) (m n : ℕ) (t u r s : List ℕ) : Type 0 where
  front : f ≡ g
  mark : m ≡ n
  token : t ≡ u
  rest : r ≡ s

split_unique : (name uri f g : List ℕ) (m n : ℕ) (t u r s : List ℕ) → IsSplit name uri f m t r → IsSplit name uri g n u s → IsSame f g m n t u r s
split_unique name uri f g m n t u r s a b =
    let same_place = first_unique name uri (length f) (length g) a.place b.place in
    let cut = fronts f g (m ∷ (name ++ (61 ∷ (t ++ r)))) (n ∷ (name ++ (61 ∷ (u ++ s)))) (sym a.whole ∙ b.whole) same_place in
    let marks = heads m n (name ++ (61 ∷ (t ++ r))) (name ++ (61 ∷ (u ++ s))) cut.1 in
    let tails = (heads 61 61 (t ++ r) (u ++ s) (append_cancel_left name (61 ∷ (t ++ r)) (61 ∷ (u ++ s)) marks.1)).1 in
    let ours = run_of t r a.run a.past in
    let theirs = run_of u s b.run b.past in
    record {
      front = cut.0;
      mark = marks.0;
      token = sym ours.0 ∙ ap (until ends_run) tails ∙ theirs.0;
      rest = sym ours.1 ∙ ap (from_first ends_run) tails ∙ theirs.1;
    }

cut_unique : (f : List ℕ) (m : ℕ) (rest b c a d : List ℕ) → CutsAt f m rest b a → CutsAt f m rest c d → (b ≡ c) × (a ≡ d)
cut_unique f m [] b c a d x y = (x.0 ∙ sym y.0, x.1 ∙ sym y.1)
cut_unique f m (e ∷ rest) b c a d x y = by_byte (is_sub_delim e) (is_gen_delim e) x y
  where
    by_byte : (s g : Bool) → MatchBool s ((b ≡ f ++ m ∷ []) × (a ≡ rest)) (MatchBool g ((b ≡ f) × (a ≡ e ∷ rest)) ⊥)
        → MatchBool s ((c ≡ f ++ m ∷ []) × (d ≡ rest)) (MatchBool g ((c ≡ f) × (d ≡ e ∷ rest)) ⊥) → (b ≡ c) × (a ≡ d)
    by_byte true g x y = (x.0 ∙ sym y.0, x.1 ∙ sym y.1)
    by_byte false true x y = (x.0 ∙ sym y.0, x.1 ∙ sym y.1)
    by_byte false false x y = absurd x

-- a byte at which a text may be cut is reserved
cut_reserved : (f : List ℕ) (m d : ℕ) (rest b a : List ℕ) → CutsAt f m (d ∷ rest) b a → is_reserved d ≡ true
cut_reserved f m d rest b a x = by_byte (is_sub_delim d) (is_gen_delim d) x
  where
    by_byte : (s g : Bool) → MatchBool s ((b ≡ f ++ m ∷ []) × (a ≡ rest)) (MatchBool g ((b ≡ f) × (a ≡ d ∷ rest)) ⊥) → (g || s) ≡ true
    by_byte true true x = refl
    by_byte true false x = refl
    by_byte false true x = refl
    by_byte false false x = absurd x

bad_unique : (name uri : List ℕ) (i j : ℕ) → Finds name uri (bad i) → Finds name uri (bad j) → i ≡ j
bad_unique name uri i j x y =
    let same = split_unique name uri x.0 y.0 x.1 y.1 x.2 y.2 (x.3 ∷ x.4) (y.3 ∷ y.4) x.5 y.5 in
    x.7 ∙ ap (λ (f : List ℕ). length f + length name + 2 + length x.2) same.front ∙ ap (λ (t : List ℕ). length y.0 + length name + 2 + length t) same.token ∙ sym y.7

bad_not_carried : (name uri : List ℕ) (i : ℕ) (t b a : List ℕ) → Finds name uri (bad i) → Finds name uri (carried t b a) → ⊥
bad_not_carried name uri i t b a x y =
    let same = split_unique name uri x.0 y.0 x.1 y.1 x.2 t (x.3 ∷ x.4) y.2 x.5 y.3 in
    let cut = subst (λ (r : List ℕ). CutsAt y.0 y.1 r b a) (sym same.rest) y.4 in
    differ (is_reserved x.3) (cut_reserved y.0 y.1 x.3 x.4 b a cut) x.6

carried_unique : (name uri t u b c a d : List ℕ) → Finds name uri (carried t b a) → Finds name uri (carried u c d) → carried t b a ≡ carried u c d
carried_unique name uri t u b c a d x y =
    let same = split_unique name uri x.0 y.0 x.1 y.1 t u x.2 y.2 x.3 y.3 in
    let front = subst (λ (f : List ℕ). CutsAt f x.1 x.2 b a) same.front x.4 in
    let mark = subst (λ m. CutsAt y.0 m x.2 b a) same.mark front in
    let rest = subst (λ (r : List ℕ). CutsAt y.0 y.1 r b a) same.rest mark in
    let cut = cut_unique y.0 y.1 y.2 b c a d rest y.4 in
    ap (λ (k : List ℕ). carried k b a) same.token ∙ ap (λ (k : List ℕ). carried u k a) cut.0 ∙ ap (λ (k : List ℕ). carried u c k) cut.1

nowhere : (name uri : List ℕ) (i : ℕ) → Finds name uri nothing → IsFirstPlace name uri i → ⊥
nowhere name uri i x place = differ (is_place name uri i) place.here (x i)

-- The relation says one thing of a text.
pub finds_unique : (name uri : List ℕ) (p q : Package) → Finds name uri p → Finds name uri q → p ≡ q
finds_unique name uri nothing nothing x y = refl
finds_unique name uri nothing (bad j) x y = absurd (nowhere name uri (length y.0) x y.5.place)
finds_unique name uri nothing (carried u c d) x y = absurd (nowhere name uri (length y.0) x y.3.place)
finds_unique name uri (bad i) nothing x y = absurd (nowhere name uri (length x.0) y x.5.place)
finds_unique name uri (bad i) (bad j) x y = ap (λ n. bad n) (bad_unique name uri i j x y)
finds_unique name uri (bad i) (carried u c d) x y = absurd (bad_not_carried name uri i u c d x y)
finds_unique name uri (carried t b a) nothing x y = absurd (nowhere name uri (length x.0) y x.3.place)
finds_unique name uri (carried t b a) (bad j) x y = absurd (bad_not_carried name uri j t b a y x)
finds_unique name uri (carried t b a) (carried u c d) x y = carried_unique name uri t u b c a d x y

-- What the relation says of a text is what the function answers.
pub package_of_only : (name uri : List ℕ) (p : Package) → Finds name uri p → package_of name uri ≡ p
package_of_only name uri p x = finds_unique name uri (package_of name uri) p (package_of_finds name uri) x
