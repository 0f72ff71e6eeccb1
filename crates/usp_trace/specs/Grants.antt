-- Whether a use of a token met the grant that the token comes from.
use Rattle.std.specs.Prelude.{◌≡◌, ◌≢◌, ℕ, ◌+◌, ◌<◌, true, List, [], ◌∷◌, ◌++◌, codes, Option, Some, None, IfSome, slice_get}
use Rattle.std.specs.Option.{option_and_then}
use Rattle.usp_claims.specs.Table.{claim, period_claim, text_claim}
use Rattle.usp_issue.specs.Routes.{RouteValue}
use Rattle.usp_issue.specs.Sites.{SiteValue}
use Rattle.usp_json.specs.declared.value.Members.{Members}
use Rattle.usp_jws.specs.Letters.{has_identity}
use Rattle.usp_rules.specs.Constraints.{IsContained, is_begun, is_for, is_unexpired}
use Rattle.usp_rules.specs.Tokens.{CarriesClaims}
use Rattle.usp_trace.specs.declared.issue.Issue.{Issue}
use Rattle.usp_trace.specs.declared.issue.Issue.TheVariants.{Grant, Renewed, Resigned}
use Rattle.usp_trace.specs.Chains.{Chain, token_at}
use Rattle.usp_trace.specs.Issues.{Use, use_of}

-- ---- where a use comes from

-- The token at the parent has the one container text, and this token the other.
pub record Contains (ledger : List Issue) (parent : ℕ) (token earlier later : List ℕ) : Type 0 where
  pub used : List ℕ
  pub before : Members
  pub after : Members
  pub at : token_at ledger parent ≡ Some used
  pub claims_before : CarriesClaims used before
  pub claims_after : CarriesClaims token after
  pub container_before : text_claim (codes "cdniuc") before ≡ Some earlier
  pub container_after : text_claim (codes "cdniuc") after ≡ Some later

-- The URI for which the grant was used: back along the chain from a URI at a place. At a redirection whose container is
-- another than its parent's, it becomes the URI that was sent on there.
pub data Origin (ledger : List Issue) : (place : ℕ) → (uri : List ℕ) → (origin : List ℕ) → Type 0 where
  granted : (place : ℕ) (uri origin token : List ℕ) → slice_get ledger place ≡ Some (Grant token) → origin ≡ uri
      → Origin ledger place uri origin
  renewed : (place parent edge moment : ℕ) (uri origin named token : List ℕ)
      → slice_get ledger place ≡ Some (Renewed parent edge named moment token)
      → Origin ledger parent uri origin → Origin ledger place uri origin
  kept : (place parent edge moment route : ℕ) (uri origin named token earlier later : List ℕ)
      → slice_get ledger place ≡ Some (Resigned parent edge named moment route token)
      → Contains ledger parent token earlier later → earlier ≡ later
      → Origin ledger parent uri origin → Origin ledger place uri origin
  narrowed : (place parent edge moment route : ℕ) (uri origin named token earlier later : List ℕ)
      → slice_get ledger place ≡ Some (Resigned parent edge named moment route token)
      → Contains ledger parent token earlier later → earlier ≢ later
      → Origin ledger parent named origin → Origin ledger place uri origin

-- ---- the last redirection and the last renewal of some links

-- the edge and the route of the last redirection, and before one what was there
abbrev pub redirection_by : (last : Option (ℕ × ℕ)) → Issue → Option (ℕ × ℕ)
redirection_by last (Grant token) = last
redirection_by last (Renewed parent edge uri moment token) = last
redirection_by last (Resigned parent edge uri moment route token) = Some (edge, route)

abbrev pub redirection_behind : (last : Option (ℕ × ℕ)) → List Issue → Option (ℕ × ℕ)
redirection_behind last [] = last
redirection_behind last (link ∷ links) = redirection_behind (redirection_by last link) links

abbrev pub last_redirection : List Issue → Option (ℕ × ℕ)
last_redirection links = redirection_behind None links

-- the moment of the last renewal, and before one what was there
abbrev pub renewal_by : (last : Option ℕ) → Issue → Option ℕ
renewal_by last (Grant token) = last
renewal_by last (Renewed parent edge uri moment token) = Some moment
renewal_by last (Resigned parent edge uri moment route token) = last

abbrev pub renewal_behind : (last : Option ℕ) → List Issue → Option ℕ
renewal_behind last [] = last
renewal_behind last (link ∷ links) = renewal_behind (renewal_by last link) links

abbrev pub last_renewal : List Issue → Option ℕ
last_renewal links = renewal_behind None links

-- ---- what a use must meet of a grant

-- a route by its edge and its place there
abbrev pub route_at : List SiteValue → ℕ × ℕ → Option RouteValue
route_at sites at = option_and_then (λ site. slice_get site.routes at.1) (slice_get sites at.0)

-- The grant's audience admits the edge, or behind a redirection the edge has the audience of the last one. A grant
-- without `aud` asks for none.
abbrev pub IsForEdge : List SiteValue → (grant : Members) → SiteValue → (last : Option (ℕ × ℕ)) → Type 0
IsForEdge sites grant site None = is_for site.profile.audience grant ≡ true
IsForEdge sites grant site (Some last) =
    IfSome (claim (codes "aud") grant)
    (λ aud. (sent : RouteValue) × (route_at sites last ≡ Some sent)
    × (has_identity site.profile.audience sent.audience ≡ true))

-- The moment is before the grant's `exp`, where that is there, or behind a renewal within the grant's `cdniets` of the
-- last one.
abbrev pub IsInTime : (grant : Members) → (moment : ℕ) → (last : Option ℕ) → Type 0
IsInTime grant moment None = is_unexpired moment grant ≡ true
IsInTime grant moment (Some last) =
    (period : ℕ) × (period_claim (codes "cdniets") grant ≡ Some period) × (moment < last + period)

-- A use behind these links meets the audience and the window of a grant.
pub record IsUseMet (sites : List SiteValue) (grant : Members) (links : List Issue) (asked : Use) : Type 0 where
  pub site : SiteValue
  pub named : slice_get sites asked.edge ≡ Some site
  pub audience : IsForEdge sites grant site (last_redirection links)
  pub begun : is_begun asked.moment grant ≡ true
  pub timely : IsInTime grant asked.moment (last_renewal links)

-- each use that the links name, behind the links before it
abbrev pub AreUsesMet : List SiteValue → (grant : Members) → (links : List Issue) → Type 0
AreUsesMet sites grant links = (before after : List Issue) (link : Issue) (asked : Use)
    → links ≡ before ++ link ∷ after → use_of link ≡ Some asked → IsUseMet sites grant before asked

-- A use of the token at a place met its grant: the grant's container meets the origin of the use, and each use along
-- the chain, this one last, met the grant's audience and window.
pub record GrantMet (ledger : List Issue) (sites : List SiteValue) (place : ℕ) (asked : Use) : Type 0 where
  pub places : List ℕ
  pub token : List ℕ
  pub links : List Issue
  pub chain : Chain ledger place places token links
  pub grant : Members
  pub claims : CarriesClaims token grant
  pub origin : List ℕ
  pub from : Origin ledger place asked.uri origin
  pub contained : IsContained (Some origin) grant
  pub earlier : AreUsesMet sites grant links
  pub last : IsUseMet sites grant links asked
