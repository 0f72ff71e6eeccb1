-- What is issued: tokens, each granted by a provider or made by an edge for a use of an earlier one (RFC 9246 section
-- 3).
use Rattle.std.specs.Prelude.{ℕ, List, Option, Some, None}
use Rattle.usp_trace.specs.declared.issue.Issue.{Issue}
use Rattle.usp_trace.specs.declared.issue.Issue.TheVariants.{Grant, Renewed, Resigned}

-- A use of a token: a request of a URI, without its package, at an edge and a moment. The edge is a place in a list
-- of sites.
pub record Use : Type 0 where
  pub edge : ℕ
  pub uri : List ℕ
  pub moment : ℕ

abbrev pub use_at : (edge : ℕ) → (uri : List ℕ) → (moment : ℕ) → Use
use_at edge uri moment = record { edge = edge; uri = uri; moment = moment }

-- the token that was issued
abbrev pub token_of : Issue → List ℕ
token_of (Grant token) = token
token_of (Renewed parent edge uri moment token) = token
token_of (Resigned parent edge uri moment route token) = token

-- the place of the token that was used, of which a grant has none
abbrev pub parent_of : Issue → Option ℕ
parent_of (Grant token) = None
parent_of (Renewed parent edge uri moment token) = Some parent
parent_of (Resigned parent edge uri moment route token) = Some parent

-- the use for which it was issued
abbrev pub use_of : Issue → Option Use
use_of (Grant token) = None
use_of (Renewed parent edge uri moment token) = Some (use_at edge uri moment)
use_of (Resigned parent edge uri moment route token) = Some (use_at edge uri moment)
