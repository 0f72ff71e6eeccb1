-- How long the tokens are that edges issue.
use Rattle.std.proofs.Common.{◌≡◌, ℕ, ◌+◌, ◌<◌, ◌≤◌, Bool, true, false, cond, codes, List, ◌++◌, length, inl, inr, refl, ap, ◌∙◌, arith}
use Rattle.std.specs.Fmt.{decimal}
use Rattle.std.specs.Option.{is_some}
use Rattle.usp_base.specs.declared.limits.TheConstants.{MOMENT_BOUND}
use Rattle.usp_claims.specs.Changes.{with_claim}
use Rattle.usp_claims.specs.Table.{claim, name_of}
use Rattle.usp_claims.specs.declared.limits.TheConstants.{MAX_PERIOD}
use Rattle.usp_claims.specs.declared.table.ClaimName.{ClaimName}
use Rattle.usp_claims.specs.declared.table.ClaimName.TheVariants.{Aud, Exp, Iat, Iss, Uc}
use Rattle.usp_issue.proofs.Fitting.{container_size, growth, identity_size, number_short, token_short}
use Rattle.usp_issue.proofs.Replacing.{period_below, renew_says}
use Rattle.usp_issue.specs.Renewals.{IsRenewed, for_period, with_present}
use Rattle.usp_issue.specs.Resignings.{IsResigned, Resigns, for_route, for_target, target_of}
use Rattle.usp_issue.specs.Routes.{RouteValue}
use Rattle.usp_issue.specs.declared.limits.TheConstants.{MAX_TOKEN}
use Rattle.usp_json.specs.Canon.{canon, canon_members}
use Rattle.usp_json.specs.declared.value.Json.{Json}
use Rattle.usp_json.specs.declared.value.Json.TheVariants.{Num, Str}
use Rattle.usp_json.specs.declared.value.Members.{Members}
use Rattle.usp_jws.proofs.Sealing.{length-sealed}
use Rattle.usp_jws.specs.Keys.{KeyValue}
use Rattle.usp_jws.specs.Letters.{is_identity}
use Rattle.usp_jws.specs.Sealed.{sealed}
use Rattle.usp_rules.specs.Segment.{segment_of}

-- ---- the canonical text of changed claims

grown_by : (b : Bool) (name : ClaimName) (value : Json) (m : Members)
    → length (canon_members (cond b (with_claim name value m) m)) ≤ length (canon_members m) + length (name_of name) + 4 + length (canon value)
grown_by true name value m = growth name value m
grown_by false name value m = omega arith

present_grown : (name : ClaimName) (value : Json) (m : Members)
    → length (canon_members (with_present name value m)) ≤ length (canon_members m) + length (name_of name) + 4 + length (canon value)
present_grown name value m = grown_by (is_some (claim (name_of name) m)) name value m

-- a claim whose name has three letters
three_grown : (name : ClaimName) (value : Json) (m : Members) (most : ℕ) → length (name_of name) ≡ 3 → length (canon value) ≤ most
    → length (canon_members (with_present name value m)) ≤ length (canon_members m) + 7 + most
three_grown name value m most three short = omega (arith, three, short, present_grown name value m)

period_grown : (m : Members) (moment : ℕ) (key : KeyValue) (period : ℕ) → is_identity key.issuer ≡ true → moment < MOMENT_BOUND → period ≤ MAX_PERIOD
    → length (canon_members m) ≤ 5000 → length (canon_members (for_period m moment key period)) ≤ 5183
period_grown m moment key period issuer early below short =
    let issued = with_present Iss (Str key.issuer) m in
    let dated = with_present Iat (Num (decimal moment)) issued in
    let one : length (canon_members issued) ≤ length (canon_members m) + 7 + 130 = three_grown Iss (Str key.issuer) m 130 refl (identity_size key.issuer issuer) in
    let two : length (canon_members dated) ≤ length (canon_members issued) + 7 + 16 =
    three_grown Iat (Num (decimal moment)) issued 16 refl (number_short moment (omega (arith, early))) in
    let exp : length (name_of Exp) ≡ 3 = refl in
    let three : length (canon_members (for_period m moment key period)) ≤ length (canon_members dated) + length (name_of Exp) + 4 + length (canon (Num (decimal (moment + period)))) =
    growth Exp (Num (decimal (moment + period))) dated in
    omega (arith, short, one, two, three, exp, number_short (moment + period) (omega (arith, early, below)))

route_grown : (m : Members) (moment : ℕ) (route : RouteValue) → is_identity route.key.issuer ≡ true → is_identity route.audience ≡ true → moment < MOMENT_BOUND
    → length (canon_members m) ≤ 5068 → length (canon_members (for_route route moment m)) ≤ 5365
route_grown m moment route issuer audience early short =
    let issued = with_present Iss (Str route.key.issuer) m in
    let heard = with_present Aud (Str route.audience) issued in
    let one : length (canon_members issued) ≤ length (canon_members m) + 7 + 130 = three_grown Iss (Str route.key.issuer) m 130 refl (identity_size route.key.issuer issuer) in
    let two : length (canon_members heard) ≤ length (canon_members issued) + 7 + 130 = three_grown Aud (Str route.audience) issued 130 refl (identity_size route.audience audience) in
    let three : length (canon_members (for_route route moment m)) ≤ length (canon_members heard) + 7 + 16 =
    three_grown Iat (Num (decimal moment)) heard 16 refl (number_short moment (omega (arith, early))) in
    omega (arith, short, one, two, three)

target_grown : (target : List ℕ) (m : Members) → length (canon_members m) ≤ 5000 → length (canon_members (for_target target m)) ≤ 5068
target_grown target m short =
    let six : length (name_of Uc) ≡ 6 = refl in
    omega (arith, short, six, container_size target, growth Uc (Str (codes "hash:" ++ segment_of target)) m)

-- ---- tokens

sealed_short : (key : KeyValue) (payload token : List ℕ) → length key.kid ≤ 64 → length payload ≤ 5365 → token ≡ sealed key payload → length token ≤ MAX_TOKEN
sealed_short key payload token named short is =
    token_short (length key.kid) (length payload) (length token) named (omega (arith, short)) (ap length is ∙ length-sealed key payload)

pub renewed_short : (m : Members) (content : List ℕ) (moment : ℕ) (key : KeyValue) (token : List ℕ) → length key.kid ≤ 64 → moment < MOMENT_BOUND
    → length (canon_members m) ≤ 5000 → IsRenewed m content moment key token → length token ≤ MAX_TOKEN
renewed_short m content moment key token named early short is =
    let says = renew_says m content moment key is.claims is.renewed in
    let grown = period_grown m moment key says.period is.issuer early (period_below m says.period says.there) short in
    sealed_short key (canon_members is.claims) token named (omega (arith, grown, ap (λ c. length (canon_members c)) says.is)) is.text

resigned_grown : (m : Members) (content : List ℕ) (moment : ℕ) (route : RouteValue) (claims : Members) → is_identity route.key.issuer ≡ true
    → is_identity route.audience ≡ true → moment < MOMENT_BOUND → length (canon_members m) ≤ 5000 → Resigns m content moment route claims
    → length (canon_members claims) ≤ 5365
resigned_grown m content moment route claims issuer audience early short (inl kept) =
    omega (arith, ap (λ c. length (canon_members c)) kept.1, route_grown m moment route issuer audience early (omega (arith, short)))
resigned_grown m content moment route claims issuer audience early short (inr narrowed) =
    omega (
      arith,
      ap (λ c. length (canon_members c)) narrowed.1,
      route_grown (for_target (target_of content route) m) moment route issuer audience early (target_grown (target_of content route) m short),
    )

pub resigned_short : (m : Members) (content : List ℕ) (moment : ℕ) (route : RouteValue) (token : List ℕ) → length route.key.kid ≤ 64 → moment < MOMENT_BOUND
    → length (canon_members m) ≤ 5000 → IsResigned m content moment route token → length token ≤ MAX_TOKEN
resigned_short m content moment route token named early short is =
    sealed_short route.key (canon_members is.claims) token named
    (resigned_grown m content moment route is.claims is.issuer is.audience early short is.resigned) is.text
