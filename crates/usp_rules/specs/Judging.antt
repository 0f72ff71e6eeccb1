-- What `judge` answers.
use Rattle.std.specs.Prelude.{◌≡◌, ℕ, List, Some, None}
use Rattle.usp_json.specs.declared.value.Members.{Members}
use Rattle.usp_package.specs.Package.{Package, package_of}
use Rattle.usp_rules.specs.Asks.{AskValue, Presented, content_in, presented_in, token_in}
use Rattle.usp_rules.specs.Rules.{First, HoldsWith, IsFirst, TokenHolds, Valid, rules_of_ask, rules_of_package}
use Rattle.usp_rules.specs.Tokens.{CarriesClaims, IsVerified}
use Rattle.usp_rules.specs.declared.judged.Judged.{Judged}
use Rattle.usp_rules.specs.declared.judged.Judged.TheVariants.{Denied, Passed}
use Rattle.usp_rules.specs.declared.profile.Profile.{Profile}
use Rattle.usp_rules.specs.declared.rule.Rule.{Rule}

-- What is told of a token that passes: itself, its content, its claims, and the place of the key that
-- verifies it.
pub record Tells (profile : Profile) (shown : Presented) (content token : List ℕ)
    (members : Members) (place : ℕ) : Type 0 where
  pub uri : shown.content ≡ Some content
  pub text : shown.token ≡ token
  pub claims : CarriesClaims shown.token members
  pub verified : IsVerified profile.ring shown.token place

-- the same of an ask with this package
pub record PassesWith (profile : Profile) (ask : AskValue) (pack : Package) (content token : List ℕ)
    (members : Members) (place : ℕ) : Type 0 where
  pub shown : Presented
  pub presents : presented_in ask pack ≡ Some shown
  pub tells : Tells profile shown content token members place

-- No rule fails and what passed is told, or the first rule that fails is named.
abbrev pub Judges : Profile → AskValue → Judged → Type 0
Judges profile ask (Denied rule) = First profile ask (Some rule)
Judges profile ask (Passed content token members place) =
    First profile ask None
    × PassesWith profile ask (package_of profile.attribute ask.uri) content token members place

-- the same of an ask with this package
abbrev pub JudgesAll : Profile → AskValue → Package → Judged → Type 0
JudgesAll profile ask pack (Denied rule) =
    IsFirst (λ rule. HoldsWith rule profile ask pack) rules_of_ask (Some rule)
JudgesAll profile ask pack (Passed content token members place) =
    IsFirst (λ rule. HoldsWith rule profile ask pack) rules_of_ask None
    × PassesWith profile ask pack content token members place

-- the same by rules 2 to 15
abbrev pub JudgesWith : Profile → AskValue → Package → Judged → Type 0
JudgesWith profile ask pack (Denied rule) =
    IsFirst (λ rule. HoldsWith rule profile ask pack) rules_of_package (Some rule)
JudgesWith profile ask pack (Passed content token members place) =
    IsFirst (λ rule. HoldsWith rule profile ask pack) rules_of_package None
    × PassesWith profile ask pack content token members place

-- the same of a token, by rules 3 to 15 or 4 to 15
abbrev pub JudgesBy : List Rule → Profile → Presented → Judged → Type 0
JudgesBy rules profile shown (Denied rule) =
    IsFirst (λ rule. TokenHolds rule profile shown) rules (Some rule)
JudgesBy rules profile shown (Passed content token members place) =
    IsFirst (λ rule. TokenHolds rule profile shown) rules None
    × Tells profile shown content token members place

-- The ask brings this token, for this content, and it is valid at the ask's moment; its claims are these,
-- and the key at this place verifies it.
pub record Admits (profile : Profile) (ask : AskValue) (content token : List ℕ) (members : Members)
    (place : ℕ) : Type 0 where
  pub brought : token_in (package_of profile.attribute ask.uri) ask.cookie ≡ Some token
  pub of : content_in ask.uri (package_of profile.attribute ask.uri) ≡ Some content
  pub valid : Valid profile (record { token = token; content = Some content; moment = ask.moment })
  pub claims : CarriesClaims token members
  pub verified : IsVerified profile.ring token place
