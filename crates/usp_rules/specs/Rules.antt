-- The rules, in the order in which they are tried, and the first that fails (RFC 9246 sections 2 and 3).
use Rattle.std.specs.Prelude.{◌≡◌, ◌⊎◌, ℕ, true, ◌||◌, List, [], ◌∷◌, ◌++◌, Option, Some, None, Ok, slice_get}
use Rattle.std.specs.Option.{is_some}
use Rattle.usp_json.specs.declared.value.Members.{Members}
use Rattle.usp_jws.specs.Compact.{IsToken}
use Rattle.usp_jws.specs.Keys.{KeyValue}
use Rattle.usp_package.specs.Package.{Package, package_of}
use Rattle.usp_uri.specs.Faults.{normal_of}
use Rattle.usp_rules.specs.Asks.{AskValue, Presented, has_package, presented_in}
use Rattle.usp_rules.specs.Constraints.{IsContained, is_begun, is_critical_met, is_for, is_issued, is_plain, is_renewable, is_unexpired, is_version_1}
use Rattle.usp_rules.specs.Tokens.{CarriesClaims, HasHeader, IsVerified}
use Rattle.usp_rules.specs.declared.profile.Profile.{Profile}
use Rattle.usp_rules.specs.declared.rule.Rule.{Rule}
use Rattle.usp_rules.specs.declared.rule.Rule.TheVariants as rule

-- Of the rules, in this order, the first that does not hold. None where each holds.
abbrev pub IsFirst : (Rule → Type 0) → List Rule → Option Rule → Type 0
IsFirst Passes [] found = found ≡ None
IsFirst Passes (rule ∷ rules) found =
    (Passes rule × IsFirst Passes rules found) ⊎ ((Passes rule → ⊥) × (found ≡ Some rule))

abbrev pub AllHold : (Rule → Type 0) → List Rule → Type 0
AllHold Passes [] = Unit {0}
AllHold Passes (rule ∷ rules) = Passes rule × AllHold Passes rules

-- The rule is listed and does not hold, and each rule listed before it does.
pub record Breaks (Passes : Rule → Type 0) (rules : List Rule) (broken : Rule) : Type 0 where
  pub before : List Rule
  pub after : List Rule
  pub listed : rules ≡ before ++ broken ∷ after
  pub hold : AllHold Passes before
  pub fails : Passes broken → ⊥

-- What a rule from Version to Container wants of claims, where the key that verifies has this issuer. No
-- other rule is one of claims, so none has what it wants.
abbrev pub Wants : Rule → Profile → (issuer : List ℕ) → Members → (content : Option (List ℕ))
    → (moment : ℕ) → Type 0
Wants rule.Version profile issuer members content moment = is_version_1 members ≡ true
Wants rule.Critical profile issuer members content moment =
    is_critical_met profile.extensions content members ≡ true
Wants rule.Encrypted profile issuer members content moment = is_plain members ≡ true
Wants rule.Issuer profile issuer members content moment =
    is_issued profile.issuers issuer members ≡ true
Wants rule.Audience profile issuer members content moment = is_for profile.audience members ≡ true
Wants rule.NotBefore profile issuer members content moment = is_begun moment members ≡ true
Wants rule.Expired profile issuer members content moment = is_unexpired moment members ≡ true
Wants rule.Renewal profile issuer members content moment = is_renewable members ≡ true
Wants rule.Container profile issuer members content moment = IsContained content members
Wants other profile issuer members content moment = ⊥

-- The token has claims and a key that verifies it, and the rule has what it wants of them.
pub record ConstraintHolds (rule : Rule) (profile : Profile) (shown : Presented) : Type 0 where
  pub members : Members
  pub place : ℕ
  pub key : KeyValue
  pub claims : CarriesClaims shown.token members
  pub verified : IsVerified profile.ring shown.token place
  pub at : slice_get profile.ring place ≡ Some key
  pub wants : Wants rule profile key.issuer members shown.content shown.moment

-- A rule of a token, a content and a moment, from Package to Container. It looks at nothing else of an ask.
-- No other rule holds of these.
abbrev pub TokenHolds : Rule → Profile → Presented → Type 0
TokenHolds rule.Package profile shown = IsToken shown.token
TokenHolds rule.Header profile shown = (kid : Option (List ℕ)) × HasHeader shown.token kid
TokenHolds rule.Signature profile shown = (place : ℕ) × IsVerified profile.ring shown.token place
TokenHolds rule.Claims profile shown = (members : Members) × CarriesClaims shown.token members
TokenHolds other profile shown = ConstraintHolds other profile shown

-- A rule of what an ask presents, false where it presents no token.
abbrev pub OfToken : (Presented → Type 0) → Option Presented → Type 0
OfToken P None = ⊥
OfToken P (Some shown) = P shown

-- A rule of an ask with this package, from Uri to Container.
abbrev pub HoldsWith : Rule → Profile → AskValue → Package → Type 0
HoldsWith rule.Uri profile ask pack = (normal : List ℕ) × (normal_of ask.uri ≡ Ok normal)
HoldsWith rule.Missing profile ask pack = (has_package pack || is_some ask.cookie) ≡ true
HoldsWith other profile ask pack = OfToken (TokenHolds other profile) (presented_in ask pack)

abbrev pub Holds : Rule → Profile → AskValue → Type 0
Holds rule profile ask = HoldsWith rule profile ask (package_of profile.attribute ask.uri)

-- rules 7 to 15, 4 to 15, 3 to 15, 2 to 15, and 1 to 15
abbrev pub constraints : List Rule
constraints =
    rule.Version ∷ rule.Critical ∷ rule.Encrypted ∷ rule.Issuer ∷ rule.Audience ∷ rule.NotBefore
    ∷ rule.Expired ∷ rule.Renewal ∷ rule.Container ∷ []

abbrev pub rules_of_parts : List Rule
rules_of_parts = rule.Header ∷ rule.Signature ∷ rule.Claims ∷ constraints

abbrev pub rules_of_token : List Rule
rules_of_token = rule.Package ∷ rules_of_parts

abbrev pub rules_of_package : List Rule
rules_of_package = rule.Missing ∷ rules_of_token

abbrev pub rules_of_ask : List Rule
rules_of_ask = rule.Uri ∷ rules_of_package

-- the first of rules 1 to 15 that the ask breaks
abbrev pub First : Profile → AskValue → Option Rule → Type 0
First profile ask found = IsFirst (λ rule. Holds rule profile ask) rules_of_ask found

-- The text is a token, and rules 4 to 15 hold of it, that content and that moment.
abbrev pub Valid : Profile → Presented → Type 0
Valid profile shown =
    IsToken shown.token × AllHold (λ rule. TokenHolds rule profile shown) rules_of_parts
