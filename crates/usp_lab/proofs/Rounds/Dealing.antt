-- How a list is dealt in turn.
use Rattle.std.proofs.Common.{◌≡◌, ◌≢◌, refl, sym, ap, ◌∙◌, subst, ℕ, zero, suc, ◌+◌, ◌-◌, ◌<◌, ◌≤◌, ◌%◌, ◌⊎◌, inl, inr, Bool, true, false, List, [], ◌∷◌, ◌++◌, length, map, if◌then◌else◌, arith}
use Rattle.std.specs.Prelude.{nat_lt}
use Rattle.std.proofs.Math.Nat.{mod-lt, mod_self, mod-eq_of_lt, suc-mod, zero-mod}
use Rattle.std.proofs.lemmas.Bool.{lt-ltb, le-ltb, ltb-true, ltb-false}
use Rattle.usp_lab.specs.Shares.{share_of, skip_of}
use Rattle.usp_lab.specs.Turns.{one_in}

-- ---- turns

skip_below : (count turn worker : ℕ) → worker < turn → skip_of count turn worker ≡ worker + count - turn
skip_below count turn worker lt = rw (lt-ltb worker turn lt) refl

skip_above : (count turn worker : ℕ) → turn ≤ worker → skip_of count turn worker ≡ worker - turn
skip_above count turn worker le = rw (le-ltb worker turn le) refl

-- the turn behind a turn
pub data Next (count turn : ℕ) : ℕ → Type 0 where
  up : (next : ℕ) → next ≡ turn + 1 → turn + 1 < count → Next count turn next
  around : (next : ℕ) → next ≡ 0 → turn + 1 ≡ count → Next count turn next

next_by : (count turn : ℕ) (less : Bool) → nat_lt (turn + 1) count ≡ less → turn < count → Next count turn ((turn + 1) % count)
next_by count turn true is lt = up _ (mod-eq_of_lt (ltb-true (turn + 1) count is)) (ltb-true (turn + 1) count is)
next_by count turn false is lt =
    let le = ltb-false (turn + 1) count is in
    let same : turn + 1 ≡ count = omega (arith, le, lt) in
    around _ (ap (λ k. k % count) same ∙ mod_self count) same

pub next_turn : (count place : ℕ) → 0 < count → Next count (place % count) ((place + 1) % count)
next_turn count place some =
    let one : suc place ≡ place + 1 = omega arith in
    let two : suc (place % count) ≡ place % count + 1 = omega arith in
    subst (λ k. Next count (place % count) k) (sym (ap (λ k. k % count) (sym one) ∙ (suc-mod place count ∙ ap (λ k. k % count) two)))
    (next_by count (place % count) (nat_lt (place % count + 1) count) refl (mod-lt place some))

skip_same : (count turn : ℕ) → skip_of count turn turn ≡ 0
skip_same count turn = skip_above count turn turn (omega arith) ∙ (let is : turn - turn ≡ 0 = omega arith in is)

skip_behind : (count turn next : ℕ) → turn < count → Next count turn next → skip_of count next turn ≡ count - 1
skip_behind count turn next lt (up next1 is less) =
    skip_below count next turn (omega (arith, is)) ∙ (let e : turn + count - next ≡ count - 1 = omega (arith, is, less) in e)
skip_behind count turn next lt (around next1 is same) =
    skip_above count next turn (omega (arith, is)) ∙ (let e : turn - next ≡ count - 1 = omega (arith, is, same) in e)

skip_other_below : (count turn next worker : ℕ) → turn < count → worker < turn → Next count turn next → skip_of count turn worker ≡ suc (skip_of count next worker)
skip_other_below count turn next worker lt below (up next1 is less) =
    skip_below count turn worker below ∙ ((let e : worker + count - turn ≡ suc (worker + count - next) = omega (arith, is, less) in e)
    ∙ ap suc (sym (skip_below count next worker (omega (arith, is, below)))))
skip_other_below count turn next worker lt below (around next1 is same) =
    skip_below count turn worker below ∙ ((let e : worker + count - turn ≡ suc (worker - next) = omega (arith, is, same, below) in e)
    ∙ ap suc (sym (skip_above count next worker (omega (arith, is)))))

skip_other_above : (count turn next worker : ℕ) → worker < count → turn < worker → Next count turn next → skip_of count turn worker ≡ suc (skip_of count next worker)
skip_other_above count turn next worker lt above (up next1 is less) =
    skip_above count turn worker (omega (arith, above)) ∙ ((let e : worker - turn ≡ suc (worker - next) = omega (arith, is, above) in e)
    ∙ ap suc (sym (skip_above count next worker (omega (arith, is, above)))))
skip_other_above count turn next worker lt above (around next1 is same) = absurd (omega (arith, same, above, lt))

skip_other : (count turn next worker : ℕ) (below : Bool) → nat_lt worker turn ≡ below → turn < count → worker < count → worker ≢ turn → Next count turn next
    → skip_of count turn worker ≡ suc (skip_of count next worker)
skip_other count turn next worker true is lt small apart goes = skip_other_below count turn next worker lt (ltb-true worker turn is) goes
skip_other count turn next worker false is lt small apart goes =
    skip_other_above count turn next worker small (let le = ltb-false worker turn is in omega (arith, le, apart)) goes

module _ {X : Type 0} where
  -- the first member goes to the worker of its turn
  pub share_here : (count place : ℕ) (x : X) (xs : List X) → 0 < count
      → share_of count place (place % count) (x ∷ xs) ≡ x ∷ share_of count (place + 1) (place % count) xs
  share_here count place x xs some =
      ap (λ k. one_in count k (x ∷ xs)) (skip_same count (place % count))
      ∙ ap (λ k. x ∷ one_in count k xs) (sym (skip_behind count (place % count) ((place + 1) % count) (mod-lt place some) (next_turn count place some)))

  -- and to no other
  pub share_other : (count place worker : ℕ) (x : X) (xs : List X) → worker < count → worker ≢ place % count
      → share_of count place worker (x ∷ xs) ≡ share_of count (place + 1) worker xs
  share_other count place worker x xs lt apart =
      let some : 0 < count = omega (arith, lt) in
      ap (λ k. one_in count k (x ∷ xs)) (skip_other count (place % count) ((place + 1) % count) worker (nat_lt worker (place % count)) refl
      (mod-lt place some) lt apart (next_turn count place some))

  pub share_first : (count worker : ℕ) (xs : List X) → share_of count 0 worker xs ≡ one_in count worker xs
  share_first count worker xs =
      ap (λ k. one_in count k xs) (ap (λ t. skip_of count t worker) (zero-mod count) ∙ (skip_above count 0 worker (omega arith) ∙ (let is : worker - 0 ≡ worker = omega arith in is)))

  pub fewer_in : (count skip : ℕ) (xs : List X) → length (one_in count skip xs) ≤ length xs
  fewer_in count skip [] = omega arith
  fewer_in count zero (x ∷ xs) = let below = fewer_in count (count - 1) xs in omega (arith, below)
  fewer_in count (suc skip) (x ∷ xs) = let below = fewer_in count skip xs in omega (arith, below)

  pub none_in : (count skip : ℕ) (xs : List X) → length xs ≤ skip → one_in count skip xs ≡ []
  none_in count skip [] le = refl
  none_in count zero (x ∷ xs) le = absurd (omega (arith, le))
  none_in count (suc skip) (x ∷ xs) le = none_in count skip xs (omega (arith, le))

  -- of a list so short that at most one member goes to a worker, the count says nothing
  pub short_in : (count other skip : ℕ) (xs : List X) → 0 < count → 0 < other → length xs ≤ skip + count → length xs ≤ skip + other
      → one_in count skip xs ≡ one_in other skip xs
  short_in count other skip [] some more le els = refl
  short_in count other zero (x ∷ xs) some more le els =
      ap (λ l. x ∷ l) (none_in count (count - 1) xs (omega (arith, le, some)) ∙ sym (none_in other (other - 1) xs (omega (arith, els, more))))
  short_in count other (suc skip) (x ∷ xs) some more le els = short_in count other skip xs some more (omega (arith, le)) (omega (arith, els))

pub mapped_in : {X Y : Type 0} (f : X → Y) (count skip : ℕ) (xs : List X) → one_in count skip (map f xs) ≡ map f (one_in count skip xs)
mapped_in f count skip [] = refl
mapped_in f count zero (x ∷ xs) = ap (λ l. f x ∷ l) (mapped_in f count (count - 1) xs)
mapped_in f count (suc skip) (x ∷ xs) = mapped_in f count skip xs
