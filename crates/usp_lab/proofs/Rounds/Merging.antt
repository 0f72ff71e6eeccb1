-- Lists that were made of the parts of a list, put together again.
use Rattle.std.proofs.Common.{◌≡◌, ◌≢◌, refl, sym, ap, ◌∙◌, subst, ℕ, zero, suc, ◌+◌, ◌<◌, ◌%◌, Bool, true, false, List, [], ◌∷◌, length, if◌then◌else◌, arith}
use Rattle.std.specs.Prelude.{◌==◌}
use Rattle.std.proofs.Math.Nat.{mod-lt}
use Rattle.std.proofs.lemmas.Bool.{eq-eqb, eqb-true, eqb-false, ne_eqb}
use Rattle.usp_lab.specs.Shares.{share_of}
use Rattle.usp_lab.proofs.Rounds.Dealing.{share_here, share_other}

module _ {X Y : Type 0} (R : X → Y → Type 0) where
  -- the members of two lists belong together, in order
  abbrev pub Pairs : List X → List Y → Type 0
  Pairs [] [] = Unit {0}
  Pairs (x ∷ xs) (y ∷ ys) = R x y × Pairs xs ys
  Pairs xs ys = ⊥

  record First (x : X) (xs : List X) (ys : List Y) : Type 0 where
    pub one : Y
    pub rest : List Y
    pub is : ys ≡ one ∷ rest
    pub here : R x one
    pub more : Pairs xs rest

  first : (x : X) (xs : List X) (ys : List Y) → Pairs (x ∷ xs) ys → First x xs ys
  first x xs [] pairs = absurd pairs
  first x xs (y ∷ ys) (here, more) = record { one = y; rest = ys; is = refl; here = here; more = more }

  none_left : (ys : List Y) → Pairs [] ys → ys ≡ []
  none_left [] pairs = refl
  none_left (y ∷ ys) pairs = absurd pairs

  -- A list belongs to the whole whose parts are these.
  pub record Merged (count place : ℕ) (xs : List X) (part : ℕ → List Y) : Type 0 where
    pub all : List Y
    pub pairs : Pairs xs all
    pub shares : (w : ℕ) → w < count → share_of count place w all ≡ part w

  abbrev changed : (at : ℕ) (part : ℕ → List Y) (rest : List Y) → ℕ → List Y
  changed at part rest w = if w == at then rest else part w

  module _ (count : ℕ) (some : 0 < count) where
    rest_by : (place : ℕ) (x : X) (xs : List X) (part : ℕ → List Y) (f : First x (share_of count (place + 1) (place % count) xs) (part (place % count)))
        (w : ℕ) (same : Bool) → (w == place % count) ≡ same → w < count → Pairs (share_of count place w (x ∷ xs)) (part w)
        → Pairs (share_of count (place + 1) w xs) (if same then f.rest else part w)
    rest_by place x xs part f w true is lt pairs = subst (λ k. Pairs (share_of count (place + 1) k xs) f.rest) (sym (eqb-true w (place % count) is)) f.more
    rest_by place x xs part f w false is lt pairs = subst (λ l. Pairs l (part w)) (share_other count place w x xs lt (eqb-false w (place % count) is)) pairs

    shares_by : (place : ℕ) (part : ℕ → List Y) (y : Y) (rest all : List Y) → part (place % count) ≡ y ∷ rest
        → (w : ℕ) (same : Bool) → (w == place % count) ≡ same → w < count → share_of count (place + 1) w all ≡ (if same then rest else part w)
        → share_of count place w (y ∷ all) ≡ part w
    shares_by place part y rest all head w true is lt below =
        let at = eqb-true w (place % count) is in
        subst (λ k. share_of count place k (y ∷ all) ≡ part k) (sym at)
        (share_here count place y all some ∙ (ap (λ l. y ∷ l) (subst (λ k. share_of count (place + 1) k all ≡ rest) at below) ∙ sym head))
    shares_by place part y rest all head w false is lt below = share_other count place w y all lt (eqb-false w (place % count) is) ∙ below

    pub merge : (place : ℕ) (xs : List X) (part : ℕ → List Y) → ((w : ℕ) → w < count → Pairs (share_of count place w xs) (part w)) → Merged count place xs part
    merge place [] part each = record { all = []; pairs = tt; shares = λ w lt. sym (none_left (part w) (each w lt)) }
    merge place (x ∷ xs) part each =
        let at = place % count in
        let f = first x (share_of count (place + 1) at xs) (part at) (subst (λ l. Pairs l (part at)) (share_here count place x xs some) (each at (mod-lt place some))) in
        let m = merge (place + 1) xs (changed at part f.rest) (λ w lt. rest_by place x xs part f w (w == at) refl lt (each w lt)) in
        record {
          all = f.one ∷ m.all;
          pairs = (f.here, m.pairs);
          shares = λ w lt. shares_by place part f.one f.rest m.all f.is w (w == at) refl lt (m.shares w lt);
        }
