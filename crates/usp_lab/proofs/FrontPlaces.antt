-- The first place of a token in the front of a ledger.
use Rattle.std.proofs.Common.{◌≡◌, refl, sym, ap, ◌∙◌, subst, ℕ, zero, suc, ◌≤◌, ◌<◌, List, [], ◌∷◌, ◌++◌, length, append_assoc, append-nil, take, drop, Option, Some, None, arith}
use Rattle.std.specs.Prelude.{Bool, position, slice_get}
use Rattle.std.specs.Option.{option_map}
use Rattle.std.proofs.lemmas.List.{length-take, take-append-drop}
use Rattle.usp_trace.proofs.Ordered.{first_has, found_within, issued_found, position_more}
use Rattle.usp_trace.specs.Chains.{first_place}
use Rattle.usp_trace.specs.Issues.{token_of}
use Rattle.usp_trace.specs.declared.issue.Issue.{Issue}

position_longer : {X : Type 0} (p : X → Bool) (xs ys : List X) (i : ℕ) → position p xs ≡ Some i
    → position p (xs ++ ys) ≡ Some i
position_longer p xs [] i is = ap (position p) (append-nil xs) ∙ is
position_longer p xs (y ∷ ys) i is =
    ap (position p) (sym (append_assoc xs (y ∷ []) ys))
    ∙ position_longer p (xs ++ y ∷ []) ys i (position_more p xs y i is)

get_take : {X : Type 0} (xs : List X) (k i : ℕ) → i < k → slice_get (take k xs) i ≡ slice_get xs i
get_take xs zero i below = absurd (omega (arith, below))
get_take [] (suc k) i below = refl
get_take (x ∷ xs) (suc k) zero below = refl
get_take (x ∷ xs) (suc k) (suc i) below = get_take xs k i (omega (arith, below))

some_same : (a b : ℕ) → Some a ≡ Some b → a ≡ b
some_same a b is = cc

module _ (token : List ℕ) (ledger : List Issue) (known : ℕ) where
  in_whole : (j : ℕ) → first_place token (take known ledger) ≡ Some j → first_place token ledger ≡ Some j
  in_whole j is =
      subst (λ (l : List Issue). first_place token l ≡ Some j) (take-append-drop known ledger)
      (position_longer _ (take known ledger) (drop known ledger) j is)

  none_by : (r : Option ℕ) → first_place token (take known ledger) ≡ r → first_place token ledger ≡ None → r ≡ None
  none_by None is none = refl
  none_by (Some j) is none = absurd (differ (sym none ∙ in_whole j is))
    where
      differ : None ≡ Some j → ⊥
      differ e = cc

  past_by : (r : Option ℕ) (i : ℕ) → first_place token (take known ledger) ≡ r → first_place token ledger ≡ Some i
      → known ≤ i → r ≡ None
  past_by None i is at past = refl
  past_by (Some j) i is at past =
      let same = some_same i j (sym at ∙ in_whole j is) in
      let within = (found_within _ (take known ledger) j is).1 in
      absurd (omega (arith, same, within, length-take known ledger, past))

  found_by : (r : Option ℕ) (i : ℕ) → first_place token (take known ledger) ≡ r → first_place token ledger ≡ Some i
      → i < known → r ≡ Some i
  found_by None i is at below =
      let here = issued_found (take known ledger) token
      (i, ap (option_map token_of) (get_take ledger known i below) ∙ first_has ledger token i at) in
      absurd (differ here.0 (sym is ∙ here.1))
    where
      differ : (j : ℕ) → None ≡ Some j → ⊥
      differ j e = cc
  found_by (Some j) i is at below = sym (in_whole j is) ∙ at

  pub front_none : first_place token ledger ≡ None → first_place token (take known ledger) ≡ None
  front_none none = none_by (first_place token (take known ledger)) refl none

  pub front_past : (i : ℕ) → first_place token ledger ≡ Some i → known ≤ i
      → first_place token (take known ledger) ≡ None
  front_past i at past = past_by (first_place token (take known ledger)) i refl at past

  pub front_found : (i : ℕ) → first_place token ledger ≡ Some i → i < known
      → first_place token (take known ledger) ≡ Some i
  front_found i at below = found_by (first_place token (take known ledger)) i refl at below
