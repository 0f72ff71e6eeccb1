-- What the parts of a list come to, that was dealt in turn.
use Rattle.std.proofs.Common.{◌≡◌, ◌≢◌, refl, sym, ap, ◌∙◌, subst, ℕ, zero, suc, ◌+◌, ◌<◌, ◌%◌, Bool, true, false, List, [], ◌∷◌, length, arith}
use Rattle.std.specs.List.{AllByRecursion}
use Rattle.std.specs.Prelude.{slice_index_or, ◌==◌}
use Rattle.std.proofs.Math.Nat.{mod-lt}
use Rattle.std.proofs.lemmas.Bool.{eqb-true, eqb-false}
use Rattle.usp_lab.specs.Shares.{share_of}
use Rattle.usp_lab.proofs.Rounds.Dealing.{share_here, share_other}

-- g of each number below n, added up
abbrev pub sum_to : (n : ℕ) → (ℕ → ℕ) → ℕ
sum_to zero g = 0
sum_to (suc n) g = g 0 + sum_to n (λ k. g (suc k))

-- h of each member, added up
abbrev pub weigh : {X : Type 0} → (X → ℕ) → List X → ℕ
weigh h [] = 0
weigh h (x ∷ xs) = h x + weigh h xs

pub sum_none : (n : ℕ) → sum_to n (λ k. 0) ≡ 0
sum_none zero = refl
sum_none (suc n) = let below = sum_none n in omega (arith, below)

pub sum_same : (n : ℕ) (g f : ℕ → ℕ) → ((k : ℕ) → k < n → f k ≡ g k) → sum_to n f ≡ sum_to n g
sum_same zero g f same = refl
sum_same (suc n) g f same =
    let here = same 0 (omega arith) in
    let below = sum_same n (λ k. g (suc k)) (λ k. f (suc k)) (λ k lt. same (suc k) (omega (arith, lt))) in
    omega (arith, here, below)

pub sum_more : (n at a : ℕ) (g f : ℕ → ℕ) → at < n → f at ≡ a + g at → ((k : ℕ) → k < n → k ≢ at → f k ≡ g k) → sum_to n f ≡ a + sum_to n g
sum_more zero at a g f lt here same = absurd (omega (arith, lt))
sum_more (suc n) zero a g f lt here same =
    let below = sum_same n (λ k. g (suc k)) (λ k. f (suc k)) (λ k less. same (suc k) (omega (arith, less)) (λ is. absurd (omega (arith, is)))) in
    omega (arith, here, below)
sum_more (suc n) (suc at) a g f lt here same =
    let first = same 0 (omega arith) (λ is. absurd (omega (arith, is))) in
    let below = sum_more n at a (λ k. g (suc k)) (λ k. f (suc k)) (omega (arith, lt)) here (λ k less apart. same (suc k) (omega (arith, less)) (λ is. apart (omega (arith, is)))) in
    omega (arith, first, below)

-- a list's own sum is that by places
pub sum_of : {X : Type 0} (h : X → ℕ) (xs : List X) (d : X) → weigh h xs ≡ sum_to (length xs) (λ k. h (slice_index_or xs k d))
sum_of h [] d = refl
sum_of h (x ∷ xs) d = ap (λ n. h x + n) (sum_of h xs d)

module _ {X : Type 0} (count : ℕ) (some : 0 < count) where
  -- the parts weigh as much as the whole
  pub weigh_parts : (h : X → ℕ) (place : ℕ) (xs : List X) → sum_to count (λ w. weigh h (share_of count place w xs)) ≡ weigh h xs
  weigh_parts h place [] = sum_none count
  weigh_parts h place (x ∷ xs) =
      sum_more count (place % count) (h x) (λ w. weigh h (share_of count (place + 1) w xs)) (λ w. weigh h (share_of count place w (x ∷ xs))) (mod-lt place some)
      (ap (weigh h) (share_here count place x xs some)) (λ w lt apart. ap (weigh h) (share_other count place w x xs lt apart))
      ∙ ap (λ n. h x + n) (weigh_parts h (place + 1) xs)

  module _ (P : X → Type 0) where
    every_by : (place : ℕ) (x : X) (xs : List X) (w : ℕ) (same : Bool) → (w == place % count) ≡ same → w < count → AllByRecursion P (share_of count place w (x ∷ xs))
        → AllByRecursion P (share_of count (place + 1) w xs)
    every_by place x xs w true is lt all =
        subst (λ k. AllByRecursion P (share_of count (place + 1) k xs)) (sym (eqb-true w (place % count) is))
        (subst (AllByRecursion P) (share_here count place x xs some) (subst (λ k. AllByRecursion P (share_of count place k (x ∷ xs))) (eqb-true w (place % count) is) all)).1
    every_by place x xs w false is lt all = subst (AllByRecursion P) (share_other count place w x xs lt (eqb-false w (place % count) is)) all

    -- what holds of each member of each part holds of each member
    pub every_part : (place : ℕ) (xs : List X) → ((w : ℕ) → w < count → AllByRecursion P (share_of count place w xs)) → AllByRecursion P xs
    every_part place [] all = tt
    every_part place (x ∷ xs) all = (
      (subst (AllByRecursion P) (share_here count place x xs some) (all (place % count) (mod-lt place some))).0,
      every_part (place + 1) xs (λ w lt. every_by place x xs w (w == place % count) refl lt (all w lt)),
    )
