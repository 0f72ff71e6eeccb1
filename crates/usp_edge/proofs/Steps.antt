-- Runs of no step and of one, and what they keep.
use Rattle.std.proofs.Common.{◌≡◌, ap, refl, sym, ◌∙◌}
use Rattle.usp_base.specs.Runs.{Runs, more, none}

pub no_step : {A : Type 0} (Step : A → A → Type 0) (a : A) → Runs Step a a
no_step Step a = none a a refl

pub one_step : {A : Type 0} (Step : A → A → Type 0) (a b : A) → Step a b → Runs Step a b
one_step Step a b step = more a a b (none a a refl) step

-- what each step keeps, a run keeps
pub runs_keep : {A B : Type 0} (Step : A → A → Type 0) (f : A → B) → ((a b : A) → Step a b → f b ≡ f a)
    → (a b : A) → Runs Step a b → f b ≡ f a
runs_keep Step f apart a b (none a1 b1 same) = ap f (sym same)
runs_keep Step f apart a c (more a1 b c1 run step) = apart b c step ∙ runs_keep Step f apart a b run
