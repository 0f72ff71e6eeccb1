-- An edge: what it judges by, its own key, and its routes.
use Rattle.std.specs.Prelude.{◌≡◌, ℕ, ◌<◌, ◌≤◌, Bool, true, false, List, length, slice_get}
use Rattle.std.specs.List.{list_any}
use Rattle.std.specs.Option.{option_map_or}
use Rattle.std.specs.Str.{bytes_eq}
use Rattle.usp_jws.specs.Keys.{KeyValue}
use Rattle.usp_rules.specs.declared.profile.Profile.{Profile}
use Rattle.usp_issue.specs.Routes.{RouteValue}
use Rattle.usp_issue.specs.declared.limits.TheConstants.{MAX_ROUTES}

pub record SiteValue : Type 0 where
  pub profile : Profile
  pub sign : ℕ
  pub routes : List RouteValue

abbrev pub site : Profile → ℕ → List RouteValue → SiteValue
site profile sign routes = record { profile = profile; sign = sign; routes = routes }

-- the issuer is one of those
abbrev pub has_issuer : List (List ℕ) → List ℕ → Bool
has_issuer issuers issuer = list_any (λ other. bytes_eq other issuer) issuers

-- the key at that place is there, and the issuers have its issuer
abbrev pub is_own : List KeyValue → List (List ℕ) → ℕ → Bool
is_own keys issuers place = option_map_or (λ key. has_issuer issuers key.issuer) (slice_get keys place) false

-- What each site keeps.
pub record IsSite (value : SiteValue) : Type 0 where
  pub within : value.sign < length value.profile.ring
  pub own : is_own value.profile.ring value.profile.issuers value.sign ≡ true
  pub few : length value.routes ≤ MAX_ROUTES
