-- Small facts that many proofs need.
use Rattle.std.proofs.Common.{◌≡◌, Bool, true, false, ◌&&◌, Option, Some, None, Result, Ok, Err, refl, sym, ◌∙◌}

-- where both tests pass, each does
pub both : (a b : Bool) → (a && b) ≡ true → (a ≡ true) × (b ≡ true)
both true b e = (refl, e)
both false b e = absurd cc

module _ {X : Type 0} where
  pub same_some : (a b : X) → Some a ≡ Some b → a ≡ b
  same_some a b e = cc

  -- an option that is two values is one value twice
  pub one_some : (o : Option X) (a b : X) → o ≡ Some a → o ≡ Some b → a ≡ b
  one_some o a b p q = same_some a b (sym p ∙ q)

  pub never_both : (o : Option X) (a : X) → o ≡ None → o ≡ Some a → ⊥
  never_both o a p q = let clash : None ≡ Some a = sym p ∙ q in cc

module _ {X E : Type 0} where
  pub same_ok : (a b : X) → ◌≡◌ {A = Result X E} (Ok a) (Ok b) → a ≡ b
  same_ok a b e = cc

  pub same_err : (a b : E) → ◌≡◌ {A = Result X E} (Err a) (Err b) → a ≡ b
  same_err a b e = cc
