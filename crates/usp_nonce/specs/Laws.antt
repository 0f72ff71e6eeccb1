-- What is true of each legal history.
use Rattle.std.specs.Prelude.{◌≡◌, ◌≤◌, List, ◌∷◌, ◌++◌}
use Rattle.usp_nonce.specs.History.{Call}
use Rattle.usp_nonce.specs.declared.answer.Answer.TheVariants.{Taken}

-- Of two Taken calls of one nonce, the earlier's `until` is at most the later's moment.
abbrev pub TakesNoNonceTwice : List Call → Type 0
TakesNoNonceTwice history = (before between after : List Call) (first second : Call)
    → history ≡ before ++ first ∷ between ++ second ∷ after
    → first.answer ≡ Taken → second.answer ≡ Taken → first.nonce ≡ second.nonce
    → first.until ≤ second.moment

-- the two calls ask the same
pub record AsksSame (a b : Call) : Type 0 where
  pub nonce : a.nonce ≡ b.nonce
  pub now : a.now ≡ b.now
  pub until : a.until ≡ b.until
