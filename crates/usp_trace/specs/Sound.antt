-- Ledgers whose tokens were issued as they must be.
use Rattle.std.specs.Prelude.{◌≡◌, ℕ, ◌<◌, List, Some, slice_get}
use Rattle.usp_base.specs.declared.limits.TheConstants.{MOMENT_BOUND}
use Rattle.usp_issue.specs.Renewals.{IsRenewed}
use Rattle.usp_issue.specs.Resignings.{IsResigned}
use Rattle.usp_issue.specs.Routes.{RouteValue}
use Rattle.usp_issue.specs.Sites.{SiteValue}
use Rattle.usp_json.specs.declared.value.Members.{Members}
use Rattle.usp_jws.specs.Keys.{KeyValue}
use Rattle.usp_rules.specs.Asks.{Presented}
use Rattle.usp_rules.specs.Rules.{Valid}
use Rattle.usp_rules.specs.Tokens.{CarriesClaims}
use Rattle.usp_trace.specs.declared.issue.Issue.{Issue}
use Rattle.usp_trace.specs.declared.issue.Issue.TheVariants.{Grant, Renewed, Resigned}
use Rattle.usp_trace.specs.Chains.{IsParent}
use Rattle.usp_trace.specs.Issues.{Use, use_at}

-- the token as a use presents it
abbrev pub presented_by : Use → (token : List ℕ) → Presented
presented_by asked token = record { token = token; content = Some asked.uri; moment = asked.moment }

-- The parent's token has these claims, and is valid at the named site for the named URI and moment, which a clock
-- can tell.
pub record IsUsed (sites : List SiteValue) (ledger : List Issue) (place parent : ℕ) (asked : Use) (site : SiteValue)
    (members : Members) : Type 0 where
  pub token : List ℕ
  pub from : IsParent ledger place parent token
  pub named : slice_get sites asked.edge ≡ Some site
  pub early : asked.moment < MOMENT_BOUND
  pub valid : Valid site.profile (presented_by asked token)
  pub claims : CarriesClaims token members

-- The token is the claims of the parent's, renewed with the site's own key (RFC 9246 section 3.1).
pub record IsRenewal (sites : List SiteValue) (ledger : List Issue) (place parent : ℕ) (asked : Use)
    (token : List ℕ) : Type 0 where
  pub site : SiteValue
  pub members : Members
  pub key : KeyValue
  pub used : IsUsed sites ledger place parent asked site members
  pub own : slice_get site.profile.ring site.sign ≡ Some key
  pub renewed : IsRenewed members asked.uri asked.moment key token

-- The token is the claims of the parent's, signed again for one of the site's routes (RFC 9246 section 3.3.1).
pub record IsRedirection (sites : List SiteValue) (ledger : List Issue) (place parent : ℕ) (asked : Use)
    (route : ℕ) (token : List ℕ) : Type 0 where
  pub site : SiteValue
  pub members : Members
  pub sent : RouteValue
  pub used : IsUsed sites ledger place parent asked site members
  pub by : slice_get site.routes route ≡ Some sent
  pub resigned : IsResigned members asked.uri asked.moment sent token

-- What an issue must be at a place of a ledger. A grant may be any token.
abbrev pub IsDue : List SiteValue → List Issue → (place : ℕ) → Issue → Type 0
IsDue sites ledger place (Grant token) = Unit {0}
IsDue sites ledger place (Renewed parent edge uri moment token) =
    IsRenewal sites ledger place parent (use_at edge uri moment) token
IsDue sites ledger place (Resigned parent edge uri moment route token) =
    IsRedirection sites ledger place parent (use_at edge uri moment) route token

-- each issue is what it must be
pub record Sound (ledger : List Issue) (sites : List SiteValue) : Type 0 where
  pub each : (place : ℕ) (issue : Issue) → slice_get ledger place ≡ Some issue → IsDue sites ledger place issue
