-- Moments that are all one.
use Rattle.std.specs.Prelude.{◌≡◌, ℕ, ◌<◌, All, List, length}

-- There are some, and each is this moment.
pub record IsStill (moment : ℕ) (given : List ℕ) : Type 0 where
  pub some : 0 < length given
  pub same : All (λ each. each ≡ moment) given
