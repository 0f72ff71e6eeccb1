-- What a token of a ledger has of the grant from which it comes.
use Rattle.std.specs.Prelude.{◌≡◌, ℕ, ◌+◌, List, codes, Option, Some, None}
use Rattle.std.specs.Option.{MatchOption}
use Rattle.usp_claims.specs.Table.{claim, number_claim, period_claim}
use Rattle.usp_issue.specs.Routes.{RouteValue}
use Rattle.usp_issue.specs.Sites.{SiteValue}
use Rattle.usp_json.specs.declared.value.Json.TheVariants.{Str}
use Rattle.usp_json.specs.declared.value.Members.{Members}
use Rattle.usp_rules.specs.Constraints.{IsContained}
use Rattle.usp_rules.specs.Tokens.{CarriesClaims}
use Rattle.usp_trace.specs.declared.issue.Issue.{Issue}
use Rattle.usp_trace.specs.Grants.{AreUsesMet, Origin, last_redirection, last_renewal, route_at}

-- There is an `aud` exactly where the grant has one. It is the grant's, or behind a redirection the audience of the
-- last one.
abbrev pub HasAudienceOf : List SiteValue → (grant : Members) → Members → (last : Option (ℕ × ℕ)) → Type 0
HasAudienceOf sites grant members None = claim (codes "aud") members ≡ claim (codes "aud") grant
HasAudienceOf sites grant members (Some last) =
    MatchOption (claim (codes "aud") grant) (claim (codes "aud") members ≡ None)
    (λ aud. (sent : RouteValue) × (route_at sites last ≡ Some sent)
    × (claim (codes "aud") members ≡ Some (Str sent.audience)))

-- `exp` is the grant's, or behind a renewal the moment of the last one and the grant's `cdniets`.
abbrev pub HasEndOf : (grant : Members) → Members → (last : Option ℕ) → Type 0
HasEndOf grant members None = claim (codes "exp") members ≡ claim (codes "exp") grant
HasEndOf grant members (Some last) =
    (period : ℕ) × (period_claim (codes "cdniets") grant ≡ Some period)
    × (number_claim (codes "exp") members ≡ Some (last + period))

-- The claims of the token at a place, with these links behind the grant, whose token this is: where their container
-- meets a URI, the grant's meets its origin; their audience and window are the grant's, but for what the links changed;
-- and each use along the links met the grant.
pub record Descends (sites : List SiteValue) (ledger : List Issue) (place : ℕ) (token : List ℕ) (links : List Issue)
    (members : Members) : Type 0 where
  pub grant : Members
  pub claims : CarriesClaims token grant
  pub container : (uri : List ℕ) → IsContained (Some uri) members
      → (origin : List ℕ) × Origin ledger place uri origin × IsContained (Some origin) grant
  pub audience : HasAudienceOf sites grant members (last_redirection links)
  pub begins : claim (codes "nbf") members ≡ claim (codes "nbf") grant
  pub period : claim (codes "cdniets") members ≡ claim (codes "cdniets") grant
  pub transport : claim (codes "cdnistt") members ≡ claim (codes "cdnistt") grant
  pub ends : HasEndOf grant members (last_renewal links)
  pub uses : AreUsesMet sites grant links
