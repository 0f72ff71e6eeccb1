-- A token signed again for the place that a request is sent on to (RFC 9246 section 2).
use Rattle.std.specs.Prelude.{◌≡◌, ◌⊎◌, ℕ, true, List, ◌++◌, codes, Some}
use Rattle.std.specs.Fmt.{decimal}
use Rattle.usp_claims.specs.Changes.{with_claim}
use Rattle.usp_claims.specs.Table.{text_claim}
use Rattle.usp_claims.specs.declared.table.ClaimName.TheVariants.{Aud, Iat, Iss, Uc}
use Rattle.usp_json.specs.Canon.{canon_members}
use Rattle.usp_json.specs.declared.value.Json.TheVariants.{Num, Str}
use Rattle.usp_json.specs.declared.value.Members.{Members}
use Rattle.usp_jws.specs.Letters.{is_identity}
use Rattle.usp_jws.specs.Sealed.{sealed}
use Rattle.usp_rules.specs.Containers.{MeetsRegex}
use Rattle.usp_rules.specs.Segment.{segment_of}
use Rattle.usp_uri.specs.Origin.{moved_text}
use Rattle.usp_issue.specs.Renewals.{with_present}
use Rattle.usp_issue.specs.Routes.{RouteValue}

-- the content at the route's place
abbrev pub target_of : (content : List ℕ) → RouteValue → List ℕ
target_of content route = moved_text content route.place

-- the container is an expression that finds the target
abbrev pub FindsTarget : Members → (target : List ℕ) → Type 0
FindsTarget members target =
    (container : List ℕ) × (text_claim (codes "cdniuc") members ≡ Some container) × MeetsRegex container target

-- the claims whose container is the target alone
abbrev pub for_target : (target : List ℕ) → Members → Members
for_target target members = with_claim Uc (Str (codes "hash:" ++ segment_of target)) members

-- the claims with the issuer of the route's key, its audience and the moment, each where the claim is there
abbrev pub for_route : RouteValue → (moment : ℕ) → Members → Members
for_route route moment members =
    with_present Iat (Num (decimal moment))
    (with_present Aud (Str route.audience) (with_present Iss (Str route.key.issuer) members))

-- The claims that are signed again: the container stays where it finds the target, and is the target alone else.
abbrev pub Resigns : Members → (content : List ℕ) → (moment : ℕ) → RouteValue → (claims : Members) → Type 0
Resigns members content moment route claims =
    (FindsTarget members (target_of content route) × (claims ≡ for_route route moment members))
    ⊎ ((FindsTarget members (target_of content route) → ⊥)
    × (claims ≡ for_route route moment (for_target (target_of content route) members)))

-- The token is these claims, signed again and sealed with the route's key. The issuer and the audience are
-- identities, as those of each route.
pub record IsResigned (members : Members) (content : List ℕ) (moment : ℕ) (route : RouteValue)
    (token : List ℕ) : Type 0 where
  pub issuer : is_identity route.key.issuer ≡ true
  pub audience : is_identity route.audience ≡ true
  pub claims : Members
  pub resigned : Resigns members content moment route claims
  pub text : token ≡ sealed route.key (canon_members claims)
