-- Ledgers, and the chains of their places. A ledger is the list of what was issued, in order.
use Rattle.std.specs.Prelude.{◌≡◌, ℕ, ◌<◌, List, [], ◌∷◌, ◌++◌, Option, Some, slice_get, position}
use Rattle.std.specs.Option.{option_map}
use Rattle.std.specs.Str.{bytes_eq}
use Rattle.usp_trace.specs.declared.issue.Issue.{Issue}
use Rattle.usp_trace.specs.declared.issue.Issue.TheVariants.{Grant}
use Rattle.usp_trace.specs.Issues.{parent_of, token_of}

-- the token at a place
abbrev pub token_at : List Issue → (place : ℕ) → Option (List ℕ)
token_at ledger place = option_map token_of (slice_get ledger place)

-- the least place of a token
abbrev pub first_place : (token : List ℕ) → List Issue → Option ℕ
first_place token ledger = position (λ issue. bytes_eq (token_of issue) token) ledger

-- The token was issued: some place has it.
abbrev pub IsIssued : List Issue → (token : List ℕ) → Type 0
IsIssued ledger token = (place : ℕ) × (token_at ledger place ≡ Some token)

-- The parent of a place is a smaller place, and the least of its token.
pub record IsParent (ledger : List Issue) (place parent : ℕ) (token : List ℕ) : Type 0 where
  pub below : parent < place
  pub first : first_place token ledger ≡ Some parent

-- What each ledger keeps: whatever is no grant has a parent.
pub record IsOrdered (ledger : List Issue) : Type 0 where
  pub each : (place parent : ℕ) (issue : Issue) → slice_get ledger place ≡ Some issue → parent_of issue ≡ Some parent
      → (token : List ℕ) × IsParent ledger place parent token

-- The chain of a place: the places from a grant to it by parents, the grant's token, and the links, which are the
-- issues behind the grant.
pub data Chain (ledger : List Issue)
    : (place : ℕ) → (places : List ℕ) → (token : List ℕ) → (links : List Issue) → Type 0 where
  granted : (place : ℕ) (places token : List ℕ) (links : List Issue) → slice_get ledger place ≡ Some (Grant token)
      → places ≡ place ∷ [] → links ≡ [] → Chain ledger place places token links
  linked : (place parent : ℕ) (places front token : List ℕ) (links before : List Issue) (link : Issue)
      → slice_get ledger place ≡ Some link → parent_of link ≡ Some parent → Chain ledger parent front token before
      → places ≡ front ++ place ∷ [] → links ≡ before ++ link ∷ [] → Chain ledger place places token links

-- These are the places of its chain.
pub record IsChain (ledger : List Issue) (place : ℕ) (places : List ℕ) : Type 0 where
  pub token : List ℕ
  pub links : List Issue
  pub chain : Chain ledger place places token links
