-- What benches tell.
use Rattle.std.specs.Prelude.{◌≡◌, ℕ, List, ◌++◌, Option, Some}
use Rattle.std.specs.Option.{option_map}

-- a line that was given back: the bytes that were left on it, and those put
pub record Used : Type 0 where
  pub left : List ℕ
  pub put : List ℕ

-- what is known is told
abbrev pub IsTold : Option (List ℕ) → Type 0
IsTold known = (bytes : List ℕ) × (known ≡ Some bytes)

-- the line that tells this was used so
pub record IsUsed (rest text : Option (List ℕ)) (used : Used) : Type 0 where
  pub left : rest ≡ Some used.left
  pub put : text ≡ Some used.put

-- the lines known so far, and these behind them
abbrev pub append_used : Option (List Used) → List Used → Option (List Used)
append_used known more = option_map (λ all. all ++ more) known
