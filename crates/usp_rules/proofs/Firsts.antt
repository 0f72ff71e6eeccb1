-- The first rule that fails, from the claims of a token out to the ask.
use Rattle.std.proofs.Common.{IfOk, ◌≡◌, inl, inr, ℕ, true, false, ◌||◌, List, [], ◌∷◌, ◌++◌, Option, Some, None, Result, Ok, Err, slice_get, refl, sym, ap, ◌∙◌, subst}
use Rattle.std.specs.Option.{is_some}
use Rattle.std.specs.Result.{result_ok}
use Rattle.std.proofs.lemmas.Option.{none-some, same_Some}
use Rattle.usp_json.specs.declared.value.Members.{Members}
use Rattle.usp_jws.specs.Compact.{IsToken}
use Rattle.usp_jws.specs.Headers.{IsHeader}
use Rattle.usp_jws.specs.Keys.{KeyValue}
use Rattle.usp_jws.specs.Parts.{PartsValue, text_of}
use Rattle.usp_package.specs.Package.{Package, nothing, bad, carried, package_of}
use Rattle.usp_uri.specs.Faults.{normal_of}
use Rattle.usp_uri.specs.declared.fault.UriFault.{UriFault}
use Rattle.usp_rules.specs.Asks.{AskValue, Presented, has_package, presented_in}
use Rattle.usp_rules.specs.Constraints.{IsContained}
use Rattle.usp_rules.specs.Judging.{Judges, JudgesAll, JudgesBy, JudgesWith, PassesWith}
use Rattle.usp_rules.specs.Rules.{HoldsWith, IsFirst, ConstraintHolds, OfToken, TokenHolds, Wants, constraints, rules_of_ask, rules_of_package, rules_of_parts, rules_of_token}
use Rattle.usp_rules.specs.Tokens.{CarriesClaims, HasClaims, HasHeader, HasParts, IsVerified, verifying}
use Rattle.usp_rules.specs.declared.fault.NoMemory.{NoMemory}
use Rattle.usp_rules.specs.declared.judged.Judged.{Judged}
use Rattle.usp_rules.specs.declared.judged.Judged.TheVariants.{Denied, Passed}
use Rattle.usp_rules.specs.declared.profile.Profile.{Profile}
use Rattle.usp_rules.specs.declared.rule.Rule.{Rule}
use Rattle.usp_rules.specs.declared.rule.Rule.TheVariants as rule
use Rattle.usp_rules.proofs.Single.{claims_at, header_at, one_claims, one_place, verified_at}

-- rules that say the same have the same first one that fails
first_same : (P Q : Rule → Type 0) → ((r : Rule) → P r → Q r) → ((r : Rule) → Q r → P r) → (rules : List Rule) (found : Option Rule)
    → IsFirst P rules found → IsFirst Q rules found
first_same P Q f g [] found h = h
first_same P Q f g (r ∷ rs) found (inl h) = inl (f r h.0, first_same P Q f g rs found h.1)
first_same P Q f g (r ∷ rs) found (inr h) = inr ((λ q. h.0 (g r q)), h.1)

-- what a rule wants of the claims that are known
wants_known : (r : Rule) (profile : Profile) (shown : Presented) (members : Members) (place : ℕ) (key : KeyValue)
    → CarriesClaims shown.token members → IsVerified profile.ring shown.token place → slice_get profile.ring place ≡ Some key
    → ConstraintHolds r profile shown → Wants r profile key.issuer members shown.content shown.moment
wants_known r profile shown members place key claims verified at m =
    let these : m.members ≡ members = one_claims shown.token m.members members m.claims claims in
    let here : m.place ≡ place = one_place profile.ring shown.token m.place place m.verified verified in
    let same : m.key ≡ key = same_Some m.key key (sym m.at ∙ (ap (slice_get profile.ring) here ∙ at)) in
    subst (λ k. Wants r profile k.issuer members shown.content shown.moment) same
    (subst (λ ms. Wants r profile m.key.issuer ms shown.content shown.moment) these m.wants)

-- the first rule that fails of the claims that are known is that of the token
pub first_of_claims : (profile : Profile) (shown : Presented) (members : Members) (place : ℕ) (key : KeyValue) (found : Option Rule)
    → CarriesClaims shown.token members → IsVerified profile.ring shown.token place → slice_get profile.ring place ≡ Some key
    → IsFirst (λ r. Wants r profile key.issuer members shown.content shown.moment) constraints found
    → IsFirst (λ r. TokenHolds r profile shown) constraints found
first_of_claims profile shown members place key found claims verified at h =
    first_same (λ r. Wants r profile key.issuer members shown.content shown.moment) (λ r. ConstraintHolds r profile shown)
    (λ r wants. record { members = members; place = place; key = key; claims = claims; verified = verified; at = at; wants = wants })
    (λ r m. wants_known r profile shown members place key claims verified at m) constraints found h

-- a rule that holds goes before those that are judged
pub more : (r : Rule) (rules : List Rule) (profile : Profile) (shown : Presented) (judged : Result Judged NoMemory) → TokenHolds r profile shown
    → IfOk judged (λ j. JudgesBy rules profile shown j) → IfOk judged (λ j. JudgesBy (r ∷ rules) profile shown j)
more r rules profile shown (Err e) holds h = h
more r rules profile shown (Ok (Denied denied)) holds h = inl (holds, h)
more r rules profile shown (Ok (Passed content token members place)) holds h = (inl (holds, h.0), h.1)

pub no_header_at : (token : List ℕ) (parts : PartsValue) → HasParts token parts → ((kid : Option (List ℕ)) → IsHeader parts.header kid → ⊥)
    → ((kid : Option (List ℕ)) × HasHeader token kid) → ⊥
no_header_at token parts split none has = none has.0 (header_at token parts has.0 split has.1)

pub not_verified_at : (ring : List KeyValue) (token : List ℕ) (parts : PartsValue) (kid : Option (List ℕ)) → HasParts token parts → IsHeader parts.header kid
    → verifying ring kid parts ≡ None → ((place : ℕ) × IsVerified ring token place) → ⊥
not_verified_at ring token parts kid split header none has =
    let both : None ≡ Some has.0 = sym none ∙ verified_at ring token has.0 parts kid split header has.1 in cc

pub no_claims_at : (token : List ℕ) (parts : PartsValue) → HasParts token parts → ((members : Members) → HasClaims parts.payload members → ⊥)
    → ((members : Members) × CarriesClaims token members) → ⊥
no_claims_at token parts split none has = none has.0 (claims_at token parts has.0 split has.1)

-- the verdict on what an ask presents is that on the ask with its package
pub of_token : (profile : Profile) (ask : AskValue) (pack : Package) (shown : Presented) (judged : Result Judged NoMemory)
    → presented_in ask pack ≡ Some shown → (has_package pack || is_some ask.cookie) ≡ true
    → IfOk judged (λ j. JudgesBy rules_of_token profile shown j) → IfOk judged (λ j. JudgesWith profile ask pack j)
of_token profile ask pack shown (Err e) presents brings h = h
of_token profile ask pack shown (Ok (Denied denied)) presents brings h =
    inl (brings, subst (λ o. IsFirst (λ r. OfToken (TokenHolds r profile) o) rules_of_token (Some denied)) (sym presents) h)
of_token profile ask pack shown (Ok (Passed content token members place)) presents brings h = (
  inl (brings, subst (λ o. IsFirst (λ r. OfToken (TokenHolds r profile) o) rules_of_token None) (sym presents) h.0),
  record { shown = shown; presents = presents; tells = h.1 },
)

-- ---- rules 1 to 15

-- where the URI has a normal form, the others decide
of_uri : (profile : Profile) (ask : AskValue) (pack : Package) (uri : List ℕ) (judged : Result Judged NoMemory) → normal_of ask.uri ≡ Ok uri
    → IfOk judged (λ j. JudgesWith profile ask pack j) → IfOk judged (λ j. JudgesAll profile ask pack j)
of_uri profile ask pack uri (Err e) normal h = h
of_uri profile ask pack uri (Ok (Denied denied)) normal h = inl ((uri, normal), h)
of_uri profile ask pack uri (Ok (Passed content token members place)) normal h = (inl ((uri, normal), h.0), h.1)

no_normal : (n : Result (List ℕ) UriFault) → result_ok n ≡ None → ((uri : List ℕ) × (n ≡ Ok uri)) → ⊥
no_normal (Ok uri) e has = let differ : Some uri ≡ None = e in cc
no_normal (Err fault) e has = let differ : Err fault ≡ Ok has.0 = has.1 in cc

pub no_uri : (profile : Profile) (ask : AskValue) (pack : Package) → (((uri : List ℕ) × (normal_of ask.uri ≡ Ok uri)) → ⊥)
    → JudgesAll profile ask pack (Denied rule.Uri)
no_uri profile ask pack none = inr (none, refl)

pub no_normal_form : (profile : Profile) (ask : AskValue) (pack : Package) → result_ok (normal_of ask.uri) ≡ None → JudgesAll profile ask pack (Denied rule.Uri)
no_normal_form profile ask pack none = no_uri profile ask pack (no_normal (normal_of ask.uri) none)

-- an ask without a package, and with a cookie or without one
pub of_cookie : (profile : Profile) (ask : AskValue) (token uri : List ℕ) (judged : Result Judged NoMemory) (moment : ℕ)
    → ask.cookie ≡ Some token → normal_of ask.uri ≡ Ok uri → moment ≡ ask.moment
    → IfOk judged (λ j. JudgesBy rules_of_token profile (record { token = token; content = Some uri; moment = moment }) j)
    → IfOk judged (λ j. JudgesAll profile ask nothing j)
of_cookie profile ask token uri judged moment some normal at h =
    of_uri profile ask nothing uri judged normal
    (of_token profile ask nothing (record { token = token; content = Some uri; moment = moment }) judged (rw (some, normal, at) refl) (rw some refl) h)

pub missing : (profile : Profile) (ask : AskValue) (uri : List ℕ) → normal_of ask.uri ≡ Ok uri → ask.cookie ≡ None → JudgesAll profile ask nothing (Denied rule.Missing)
missing profile ask uri normal none =
    inl ((uri, normal), inr ((λ h. let both : is_some ask.cookie ≡ false = ap is_some none in let differ : true ≡ false = sym h ∙ both in cc), refl))

pub bad_package : (profile : Profile) (ask : AskValue) (uri : List ℕ) (at : ℕ) → normal_of ask.uri ≡ Ok uri → JudgesAll profile ask (bad at) (Denied rule.Package)
bad_package profile ask uri at normal = inl ((uri, normal), inl (refl, inr ((λ h. h), refl)))

-- an ask with a package
pub of_carried : (profile : Profile) (ask : AskValue) (token before after uri : List ℕ) (content : Option (List ℕ)) (judged : Result Judged NoMemory) (moment : ℕ)
    → normal_of ask.uri ≡ Ok uri → content ≡ result_ok (normal_of (before ++ after)) → moment ≡ ask.moment
    → IfOk judged (λ j. JudgesBy rules_of_token profile (record { token = token; content = content; moment = moment }) j)
    → IfOk judged (λ j. JudgesAll profile ask (carried token before after) j)
of_carried profile ask token before after uri content judged moment normal left at h =
    of_uri profile ask (carried token before after) uri judged normal
    (of_token profile ask (carried token before after) (record { token = token; content = content; moment = moment }) judged (rw (left, at) refl) refl h)

-- the verdict on an ask is that with its package
pub of_package : (profile : Profile) (ask : AskValue) (pack : Package) (judged : Result Judged NoMemory)
    → pack ≡ package_of profile.attribute ask.uri → IfOk judged (λ j. JudgesAll profile ask pack j) → IfOk judged (λ j. Judges profile ask j)
of_package profile ask pack (Err e) is h = h
of_package profile ask pack (Ok (Denied denied)) is h = subst (λ p. IsFirst (λ r. HoldsWith r profile ask p) rules_of_ask (Some denied)) is h
of_package profile ask pack (Ok (Passed content token members place)) is h = (
  subst (λ p. IsFirst (λ r. HoldsWith r profile ask p) rules_of_ask None) is h.0,
  subst (λ p. PassesWith profile ask p content token members place) is h.1,
)

-- ---- rules 7 to 15

pub claims_denied : (profile : Profile) (token : List ℕ) (content : Option (List ℕ)) (moment : ℕ) (members : Members) (place : ℕ) (key : KeyValue)
    (issuer : List ℕ) (of : Option (List ℕ)) (found : Option Rule) (denied : Rule) → CarriesClaims token members → IsVerified profile.ring token place
    → slice_get profile.ring place ≡ Some key → issuer ≡ key.issuer → of ≡ content → found ≡ Some denied
    → IsFirst (λ r. Wants r profile issuer members of moment) constraints found
    → JudgesBy constraints profile (record { token = token; content = content; moment = moment }) (Denied denied)
claims_denied profile token content moment members place key issuer of found denied claims verified at i o is h =
    let shown : Presented = record { token = token; content = content; moment = moment } in
    let same : IsFirst (λ r. Wants r profile key.issuer members content moment) constraints (Some denied) =
    subst (λ f. IsFirst (λ r. Wants r profile key.issuer members content moment) constraints f) is
    (subst (λ x. IsFirst (λ r. Wants r profile key.issuer members x moment) constraints found) o
    (subst (λ x. IsFirst (λ r. Wants r profile x members of moment) constraints found) i h)) in
    first_of_claims profile shown members place key (Some denied) claims verified at same

pub claims_passed : (profile : Profile) (token : List ℕ) (content : Option (List ℕ)) (moment : ℕ) (members : Members) (place : ℕ) (key : KeyValue)
    (issuer : List ℕ) (of : Option (List ℕ)) (found : Option Rule) (uri text : List ℕ) → CarriesClaims token members → IsVerified profile.ring token place
    → slice_get profile.ring place ≡ Some key → issuer ≡ key.issuer → of ≡ content → found ≡ None → content ≡ Some uri → text ≡ token
    → IsFirst (λ r. Wants r profile issuer members of moment) constraints found
    → JudgesBy constraints profile (record { token = token; content = content; moment = moment }) (Passed uri text members place)
claims_passed profile token content moment members place key issuer of found uri text claims verified at i o is there same h =
    let shown : Presented = record { token = token; content = content; moment = moment } in
    let all : IsFirst (λ r. Wants r profile key.issuer members content moment) constraints None =
    subst (λ f. IsFirst (λ r. Wants r profile key.issuer members content moment) constraints f) is
    (subst (λ x. IsFirst (λ r. Wants r profile key.issuer members x moment) constraints found) o
    (subst (λ x. IsFirst (λ r. Wants r profile x members of moment) constraints found) i h)) in
    (first_of_claims profile shown members place key None claims verified at all, record { uri = there; text = sym same; claims = claims; verified = verified })

contained_somewhere : (content : Option (List ℕ)) (members : Members) → IsContained content members → content ≡ None → ⊥
contained_somewhere content members h none = let both : None ≡ Some h.uri = sym none ∙ h.there in cc

-- where no rule fails there is a content
last_wants : (P : Rule → Type 0) → IsFirst P constraints None → P rule.Container
last_wants P (inl (a, inl (b, inl (c, inl (d, inl (e, inl (f, inl (g, inl (h, inl (i, j)))))))))) = i
last_wants P (inl (a, inl (b, inl (c, inl (d, inl (e, inl (f, inl (g, inl (h, inr i))))))))) = absurd (none-some _ i.1)
last_wants P (inl (a, inl (b, inl (c, inl (d, inl (e, inl (f, inl (g, inr i)))))))) = absurd (none-some _ i.1)
last_wants P (inl (a, inl (b, inl (c, inl (d, inl (e, inl (f, inr i))))))) = absurd (none-some _ i.1)
last_wants P (inl (a, inl (b, inl (c, inl (d, inl (e, inr i)))))) = absurd (none-some _ i.1)
last_wants P (inl (a, inl (b, inl (c, inl (d, inr i))))) = absurd (none-some _ i.1)
last_wants P (inl (a, inl (b, inl (c, inr i)))) = absurd (none-some _ i.1)
last_wants P (inl (a, inl (b, inr i))) = absurd (none-some _ i.1)
last_wants P (inl (a, inr i)) = absurd (none-some _ i.1)
last_wants P (inr i) = absurd (none-some _ i.1)

pub content_there : (profile : Profile) (issuer : List ℕ) (members : Members) (of : Option (List ℕ)) (moment : ℕ) (found : Option Rule) → found ≡ None → of ≡ None
    → IsFirst (λ r. Wants r profile issuer members of moment) constraints found → ⊥
content_there profile issuer members of moment found is none h =
    contained_somewhere of members (last_wants (λ r. Wants r profile issuer members of moment)
    (subst (λ f. IsFirst (λ r. Wants r profile issuer members of moment) constraints f) is h)) none

-- ---- rules 4 to 15

pub claims_here : (parts : PartsValue) (members : Members) → IsToken (text_of parts) → HasClaims parts.payload members → CarriesClaims (text_of parts) members
claims_here parts members token has = record { parts = parts; split = record { short = token; whole = refl }; claims = has }

pub header_here : (parts : PartsValue) (kid : Option (List ℕ)) → IsToken (text_of parts) → IsHeader parts.header kid → HasHeader (text_of parts) kid
header_here parts kid token header = record { parts = parts; split = record { short = token; whole = refl }; header = header }

pub verified_here : (ring : List KeyValue) (parts : PartsValue) (kid : Option (List ℕ)) (place : ℕ) → IsToken (text_of parts) → IsHeader parts.header kid
    → verifying ring kid parts ≡ Some place → IsVerified ring (text_of parts) place
verified_here ring parts kid place token header first =
    record { parts = parts; kid = kid; split = record { short = token; whole = refl }; header = header; first = first }

pub denied_by_header : (profile : Profile) (parts : PartsValue) (content : Option (List ℕ)) (moment : ℕ) → IsToken (text_of parts)
    → ((kid : Option (List ℕ)) → IsHeader parts.header kid → ⊥)
    → JudgesBy rules_of_parts profile (record { token = text_of parts; content = content; moment = moment }) (Denied rule.Header)
denied_by_header profile parts content moment token none =
    inr (no_header_at (text_of parts) parts (record { short = token; whole = refl }) none, refl)

pub denied_by_signature : (profile : Profile) (parts : PartsValue) (content : Option (List ℕ)) (moment : ℕ) (kid : Option (List ℕ)) → IsToken (text_of parts)
    → IsHeader parts.header kid → verifying profile.ring kid parts ≡ None
    → JudgesBy rules_of_parts profile (record { token = text_of parts; content = content; moment = moment }) (Denied rule.Signature)
denied_by_signature profile parts content moment kid token header none =
    inl (
      (kid, header_here parts kid token header),
      inr (not_verified_at profile.ring (text_of parts) parts kid (record { short = token; whole = refl }) header none, refl),
    )

pub denied_by_claims : (profile : Profile) (parts : PartsValue) (content : Option (List ℕ)) (moment : ℕ) (kid : Option (List ℕ)) (place : ℕ) → IsToken (text_of parts)
    → IsHeader parts.header kid → verifying profile.ring kid parts ≡ Some place → ((members : Members) → HasClaims parts.payload members → ⊥)
    → JudgesBy rules_of_parts profile (record { token = text_of parts; content = content; moment = moment }) (Denied rule.Claims)
denied_by_claims profile parts content moment kid place token header first none =
    inl (
      (kid, header_here parts kid token header),
      inl (
        (place, verified_here profile.ring parts kid place token header first),
        inr (no_claims_at (text_of parts) parts (record { short = token; whole = refl }) none, refl),
      ),
    )

pub judged_by_constraints : (profile : Profile) (parts : PartsValue) (content : Option (List ℕ)) (moment : ℕ) (kid : Option (List ℕ)) (place : ℕ) (members : Members)
    (judged : Result Judged NoMemory) → IsToken (text_of parts) → IsHeader parts.header kid → verifying profile.ring kid parts ≡ Some place → HasClaims parts.payload members
    → IfOk judged (λ j. JudgesBy constraints profile (record { token = text_of parts; content = content; moment = moment }) j)
    → IfOk judged (λ j. JudgesBy rules_of_parts profile (record { token = text_of parts; content = content; moment = moment }) j)
judged_by_constraints profile parts content moment kid place members judged token header first has h =
    let shown : Presented = record { token = text_of parts; content = content; moment = moment } in
    more rule.Header (rule.Signature ∷ rule.Claims ∷ constraints) profile shown judged (kid, header_here parts kid token header)
    (more rule.Signature (rule.Claims ∷ constraints) profile shown judged (place, verified_here profile.ring parts kid place token header first)
    (more rule.Claims constraints profile shown judged (members, claims_here parts members token has) h))

-- ---- rules 3 to 15

pub denied_by_package : (profile : Profile) (token : List ℕ) (content : Option (List ℕ)) (moment : ℕ) → (IsToken token → ⊥)
    → JudgesBy rules_of_token profile (record { token = token; content = content; moment = moment }) (Denied rule.Package)
denied_by_package profile token content moment none = inr (none, refl)

pub judged_by_parts : (profile : Profile) (token : List ℕ) (parts : PartsValue) (content : Option (List ℕ)) (moment : ℕ) (judged : Result Judged NoMemory)
    → IsToken token → token ≡ text_of parts
    → IfOk judged (λ j. JudgesBy rules_of_parts profile (record { token = text_of parts; content = content; moment = moment }) j)
    → IfOk judged (λ j. JudgesBy rules_of_token profile (record { token = token; content = content; moment = moment }) j)
judged_by_parts profile token parts content moment judged short whole h =
    let here : IsToken (text_of parts) = subst IsToken whole short in
    subst (λ t. IfOk judged (λ j. JudgesBy rules_of_token profile (record { token = t; content = content; moment = moment }) j)) (sym whole)
    (more rule.Package rules_of_parts profile (record { token = text_of parts; content = content; moment = moment }) judged here h)
