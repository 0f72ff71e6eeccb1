-- Histories, as far as seats have seen them.
use Rattle.std.specs.Prelude.{◌≡◌, ℕ, nat_lt, if◌then◌else◌, List, [], ◌∷◌, ◌++◌, length, All, Some, slice_get}
use Rattle.usp_nonce.specs.History.{Call}

-- The call is entered at the place: the history after it begins with all that was seen before, goes on with what
-- others called meanwhile, and ends with the call.
pub record IsEntered (before : List Call) (call : Call) (place : ℕ) (after : List Call)
    : Type 0 where
  pub between : List Call
  pub seen : after ≡ (before ++ between) ++ call ∷ []
  pub place_is : place ≡ length (before ++ between)

-- the longer of two histories, and the other
abbrev pub longer_of : List Call → List Call → List Call
longer_of a b = if nat_lt (length a) (length b) then b else a

abbrev pub shorter_of : List Call → List Call → List Call
shorter_of a b = if nat_lt (length a) (length b) then a else b

-- a call that was answered, and its place
pub record Placed : Type 0 where
  pub call : Call
  pub place : ℕ

-- each of them stands in the history at its place
abbrev pub AreAt : List Call → List Placed → Type 0
AreAt history placed = All (λ p. slice_get history p.place ≡ Some p.call) placed
