-- What soundness and a met grant say of a ledger, link by link: what the laws state.
use Rattle.std.specs.Prelude.{◌≡◌, ◌⊎◌, ℕ, ◌+◌, ◌<◌, Bool, true, false, List, ◌∷◌, ◌++◌, codes, Some, slice_get}
use Rattle.std.specs.List.{list_any}
use Rattle.usp_claims.specs.Table.{period_claim}
use Rattle.usp_issue.specs.Renewals.{renew}
use Rattle.usp_issue.specs.Resignings.{Resigns}
use Rattle.usp_issue.specs.Routes.{RouteValue}
use Rattle.usp_issue.specs.Sites.{SiteValue}
use Rattle.usp_json.specs.Canon.{canon_members}
use Rattle.usp_json.specs.declared.value.Members.{Members}
use Rattle.usp_jws.specs.Keys.{KeyValue}
use Rattle.usp_jws.specs.Letters.{has_identity}
use Rattle.usp_jws.specs.Sealed.{sealed}
use Rattle.usp_rules.specs.Rules.{Valid}
use Rattle.usp_rules.specs.Tokens.{CarriesClaims}
use Rattle.usp_trace.specs.declared.issue.Issue.{Issue}
use Rattle.usp_trace.specs.declared.issue.Issue.TheVariants.{Grant, Renewed, Resigned}
use Rattle.usp_trace.specs.Chains.{token_at}
use Rattle.usp_trace.specs.Issues.{Use}
use Rattle.usp_trace.specs.Sound.{presented_by}

-- ---- what soundness says of an issue that is no grant

-- The parent is a smaller place, with this token, which no place below it has.
pub record IsLeastBelow (ledger : List Issue) (place parent : ℕ) (token : List ℕ) : Type 0 where
  pub below : parent < place
  pub has : token_at ledger parent ≡ Some token
  pub least : (earlier : ℕ) → earlier < parent → token_at ledger earlier ≡ Some token → ⊥

-- The parent's token was used: it was valid at the named edge, for the named URI at the named moment.
pub record WasUsed (sites : List SiteValue) (ledger : List Issue) (place parent : ℕ) (asked : Use) : Type 0 where
  pub site : SiteValue
  pub token : List ℕ
  pub from : IsLeastBelow ledger place parent token
  pub named : slice_get sites asked.edge ≡ Some site
  pub valid : Valid site.profile (presented_by asked token)

-- The token is sealed with the named edge's own key, over the claims of the parent's renewed.
pub record WasRenewed (sites : List SiteValue) (ledger : List Issue) (parent edge : ℕ) (uri : List ℕ) (moment : ℕ)
    (token : List ℕ) : Type 0 where
  pub site : SiteValue
  pub key : KeyValue
  pub used : List ℕ
  pub before : Members
  pub after : Members
  pub named : slice_get sites edge ≡ Some site
  pub own : slice_get site.profile.ring site.sign ≡ Some key
  pub at : token_at ledger parent ≡ Some used
  pub claims : CarriesClaims used before
  pub renewed : renew before uri moment key ≡ Some after
  pub text : token ≡ sealed key (canon_members after)

-- The token is sealed with the named route's key, over the claims of the parent's signed again for that route.
pub record WasResigned (sites : List SiteValue) (ledger : List Issue) (parent edge : ℕ) (uri : List ℕ) (moment : ℕ)
    (route : ℕ) (token : List ℕ) : Type 0 where
  pub site : SiteValue
  pub sent : RouteValue
  pub used : List ℕ
  pub before : Members
  pub after : Members
  pub named : slice_get sites edge ≡ Some site
  pub by : slice_get site.routes route ≡ Some sent
  pub at : token_at ledger parent ≡ Some used
  pub claims : CarriesClaims used before
  pub resigned : Resigns before uri moment sent after
  pub text : token ≡ sealed sent.key (canon_members after)

-- ---- the uses of a chain

-- A use that one of the links names, a renewal or a redirection, behind the links before it, or the last one, behind
-- all.
abbrev pub IsUseBehind : (links : List Issue) → (asked : Use) → (before : List Issue) → (used : Use) → Type 0
IsUseBehind links asked before used =
    ((parent : ℕ) × (token : List ℕ) × (after : List Issue)
    × (links ≡ before ++ Renewed parent used.edge used.uri used.moment token ∷ after))
    ⊎ (((parent : ℕ) × (route : ℕ) × (token : List ℕ) × (after : List Issue)
    × (links ≡ before ++ Resigned parent used.edge used.uri used.moment route token ∷ after))
    ⊎ ((before ≡ links) × (used ≡ asked)))

abbrev pub is_redirection : Issue → Bool
is_redirection (Grant token) = false
is_redirection (Renewed parent edge uri moment token) = false
is_redirection (Resigned parent edge uri moment route token) = true

abbrev pub is_renewal : Issue → Bool
is_renewal (Grant token) = false
is_renewal (Renewed parent edge uri moment token) = true
is_renewal (Resigned parent edge uri moment route token) = false

-- there is no redirection among the links, and no renewal
abbrev pub IsDirect : List Issue → Type 0
IsDirect links = list_any is_redirection links ≡ false

abbrev pub IsUnrenewed : List Issue → Type 0
IsUnrenewed links = list_any is_renewal links ≡ false

-- The links end with a redirection by that route of that edge, but for renewals.
abbrev pub AreSentBy : (edge route : ℕ) → List Issue → Type 0
AreSentBy edge route links =
    (before : List Issue) × (after : List Issue) × (parent : ℕ) × (uri : List ℕ) × (moment : ℕ) × (token : List ℕ)
    × (links ≡ before ++ Resigned parent edge uri moment route token ∷ after) × IsDirect after

-- The links end with a renewal at that moment, but for redirections.
abbrev pub AreRenewedAt : (moment : ℕ) → List Issue → Type 0
AreRenewedAt moment links =
    (before : List Issue) × (after : List Issue) × (parent : ℕ) × (edge : ℕ) × (uri : List ℕ) × (token : List ℕ)
    × (links ≡ before ++ Renewed parent edge uri moment token ∷ after) × IsUnrenewed after

-- One of the edge's identities is the audience of that route.
abbrev pub HasAudienceOfRoute : List SiteValue → (edge route : ℕ) → SiteValue → Type 0
HasAudienceOfRoute sites edge route site =
    (from : SiteValue) × (sent : RouteValue) × (slice_get sites edge ≡ Some from)
    × (slice_get from.routes route ≡ Some sent) × (has_identity site.profile.audience sent.audience ≡ true)

-- The moment is within a period of `cdniets` from that one.
abbrev pub IsWithinPeriod : (grant : Members) → (start moment : ℕ) → Type 0
IsWithinPeriod grant start moment =
    (period : ℕ) × (period_claim (codes "cdniets") grant ≡ Some period) × (moment < start + period)
