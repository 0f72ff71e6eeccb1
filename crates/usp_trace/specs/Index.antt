-- The index of a ledger: the first place of each token.
use Rattle.std.specs.Prelude.{◌≡◌, ℕ, List, [], ◌∷◌, ◌++◌, map, Option, Some, None, if◌then◌else◌}
use Rattle.std.specs.Option.{is_some}
use Rattle.std.specs.Global.{Vec}
use Rattle.std.specs.Map.{lookup}
use Rattle.std.specs.Str.{bytes_eq}
use Rattle.usp_trace.specs.declared.issue.Issue.{Issue}
use Rattle.usp_trace.specs.Chains.{first_place}

-- tokens with their places, and how many more there is room for
pub record Indexed : Type 0 where
  pub places : List (List ℕ × ℕ)
  pub room : ℕ

-- the entries by the bytes of their tokens
abbrev pub by_bytes : List (Vec ℕ × ℕ) → List (List ℕ × ℕ)
by_bytes entries = map (λ (entry : Vec ℕ × ℕ). (entry.0.items, entry.1)) entries

-- the place of a token
abbrev pub place_under : (token : List ℕ) → List (List ℕ × ℕ) → Option ℕ
place_under token places = lookup (λ other. bytes_eq token other) places

-- Each token has its first place, and a token that was not issued has none.
pub record IsIndexOf (ledger : List Issue) (places : List (List ℕ × ℕ)) : Type 0 where
  pub each : (token : List ℕ) → place_under token places ≡ first_place token ledger

-- the token where it has no place yet, and none where it has one
abbrev pub new_token : (token : List ℕ) → List (List ℕ × ℕ) → Option (List ℕ)
new_token token places = if is_some (place_under token places) then None else Some token

-- the places with one for the token, if there is one
abbrev pub with_place : (token : Option (List ℕ)) → (place : ℕ) → List (List ℕ × ℕ) → List (List ℕ × ℕ)
with_place None place places = places
with_place (Some token) place places = places ++ (token, place) ∷ []
