-- Changed claims are a claim set within the limits.
use Rattle.std.proofs.Common.{◌≡◌, ℕ, ◌+◌, ◌^◌, ◌<◌, ◌≤◌, Bool, true, false, cond, codes, List, ◌++◌, length, Some, inl, inr, refl, sym, subst, arith}
use Rattle.std.specs.Fmt.{decimal}
use Rattle.std.specs.Option.{is_some}
use Rattle.std.specs.Str.{IsUtf8}
use Rattle.std.proofs.lemmas.Str.{IsAscii-append, IsUtf8-from_ascii}
use Rattle.usp_base.specs.declared.limits.TheConstants.{MOMENT_BOUND}
use Rattle.usp_claims.proofs.Counts.{there_kept, wider_kept}
use Rattle.usp_claims.proofs.Named.{still_kept}
use Rattle.usp_claims.specs.Changes.{with_claim}
use Rattle.usp_claims.specs.Table.{IsClaimSet, claim, name_of}
use Rattle.usp_claims.specs.declared.limits.TheConstants.{MAX_PERIOD}
use Rattle.usp_claims.specs.declared.table.ClaimName.{ClaimName}
use Rattle.usp_claims.specs.declared.table.ClaimName.TheVariants.{Aud, Exp, Iat, Iss, Uc}
use Rattle.usp_json.proofs.ByteLaws.{tested_ascii}
use Rattle.usp_json.proofs.Numbers.{decimal_is_number, is_number_sound}
use Rattle.usp_json.specs.Entries.{entries}
use Rattle.usp_json.specs.Kept.{Keeps, KeepsLimits, KeepsWithin, number, string}
use Rattle.usp_json.specs.Spells.{given, with_a_member_more}
use Rattle.usp_json.specs.declared.limits.TheConstants.{MAX_MEMBERS}
use Rattle.usp_json.specs.declared.value.Json.{Json}
use Rattle.usp_json.specs.declared.value.Json.TheVariants.{Num, Str}
use Rattle.usp_json.specs.declared.value.Members.{Members}
use Rattle.usp_jws.proofs.Ascii.{identity_text}
use Rattle.usp_jws.specs.Keys.{KeyValue}
use Rattle.usp_jws.specs.Letters.{is_identity}
use Rattle.usp_rules.proofs.Segments.{segment_ascii}
use Rattle.usp_rules.specs.Segment.{segment_of}
use Rattle.usp_issue.specs.Renewals.{for_period, renew, with_present}
use Rattle.usp_issue.specs.Resignings.{Resigns, for_route, for_target, target_of}
use Rattle.usp_issue.specs.Routes.{RouteValue}
use Rattle.usp_issue.proofs.Fitting.{audience_set, container_set, expiry_set, issuer_set, moment_set}
use Rattle.usp_issue.proofs.Replacing.{period_below, renew_says}

-- ---- values within the limits

identity_kept : (text : List ℕ) → is_identity text ≡ true → Keeps given given.levels (Str text)
identity_kept text e = string given.levels (Str text) text refl (identity_text text e)

number_kept : (n : ℕ) → n < 2 ^ 64 → Keeps given given.levels (Num (decimal n))
number_kept n small = number given.levels (Num (decimal n)) (decimal n) refl (is_number_sound (decimal n) (decimal_is_number n small))

container_utf8 : (uri : List ℕ) → IsUtf8 (codes "hash:" ++ segment_of uri)
container_utf8 uri = IsUtf8-from_ascii (codes "hash:" ++ segment_of uri) (IsAscii-append (codes "hash:") (segment_of uri) (tested_ascii (codes "hash:") refl) (segment_ascii uri))

container_kept : (uri : List ℕ) → Keeps given given.levels (Str (codes "hash:" ++ segment_of uri))
container_kept uri = string given.levels (Str (codes "hash:" ++ segment_of uri)) (codes "hash:" ++ segment_of uri) refl (container_utf8 uri)

-- ---- a claim replaced where it is there

kept_by : (b : Bool) (name : ClaimName) (value : Json) (m : Members) → is_some (claim (name_of name) m) ≡ b → KeepsLimits m → Keeps given given.levels value → KeepsLimits (cond b (with_claim name value m) m)
kept_by true name value m there k v = there_kept name value m there k v
kept_by false name value m there k v = k

present_kept : (name : ClaimName) (value : Json) (m : Members) → KeepsLimits m → Keeps given given.levels value → KeepsLimits (with_present name value m)
present_kept name value m k v = kept_by (is_some (claim (name_of name) m)) name value m refl k v

set_by : (b : Bool) (name : ClaimName) (value : Json) (m : Members) → IsClaimSet m → IsClaimSet (with_claim name value m) → IsClaimSet (cond b (with_claim name value m) m)
set_by true name value m set changed = changed
set_by false name value m set changed = set

issued_set : (issuer : List ℕ) (m : Members) → IsClaimSet m → IsClaimSet (with_present Iss (Str issuer) m)
issued_set issuer m set = set_by (is_some (claim (name_of Iss) m)) Iss (Str issuer) m set (issuer_set issuer m set)

heard_set : (audience : List ℕ) (m : Members) → IsClaimSet m → IsClaimSet (with_present Aud (Str audience) m)
heard_set audience m set = set_by (is_some (claim (name_of Aud) m)) Aud (Str audience) m set (audience_set audience m set)

dated_set : (moment : ℕ) (m : Members) → moment < MOMENT_BOUND → IsClaimSet m → IsClaimSet (with_present Iat (Num (decimal moment)) m)
dated_set moment m early set = set_by (is_some (claim (name_of Iat) m)) Iat (Num (decimal moment)) m set (moment_set moment m (omega (arith, early)) set)

-- ---- renewed claims

-- the claims before they get their end
abbrev pub dated_for : Members → (moment : ℕ) → KeyValue → Members
dated_for m moment key = with_present Iat (Num (decimal moment)) (with_present Iss (Str key.issuer) m)

dated_kept : (m : Members) (moment : ℕ) (key : KeyValue) → is_identity key.issuer ≡ true → moment < MOMENT_BOUND → KeepsLimits m → KeepsLimits (dated_for m moment key)
dated_kept m moment key issuer early k =
    present_kept Iat (Num (decimal moment)) (with_present Iss (Str key.issuer) m) (present_kept Iss (Str key.issuer) m k (identity_kept key.issuer issuer)) (number_kept moment (omega (arith, early)))

period_wider : (m : Members) (moment period : ℕ) (key : KeyValue) → is_identity key.issuer ≡ true → moment < MOMENT_BOUND → period ≤ MAX_PERIOD → KeepsLimits m
    → KeepsWithin with_a_member_more (for_period m moment key period)
period_wider m moment period key issuer early le k =
    wider_kept Exp (Num (decimal (moment + period))) (dated_for m moment key) (dated_kept m moment key issuer early k) (number_kept (moment + period) (omega (arith, early, le)))

period_few : (m : Members) (moment period : ℕ) (key : KeyValue) → is_identity key.issuer ≡ true → moment < MOMENT_BOUND → period ≤ MAX_PERIOD → KeepsLimits m
    → length (entries (for_period m moment key period)) ≤ MAX_MEMBERS → KeepsLimits (for_period m moment key period)
period_few m moment period key issuer early le k few =
    still_kept Exp (Num (decimal (moment + period))) (dated_for m moment key) (dated_kept m moment key issuer early k) (number_kept (moment + period) (omega (arith, early, le))) few

period_set : (m : Members) (moment period : ℕ) (key : KeyValue) → moment < MOMENT_BOUND → period ≤ MAX_PERIOD → IsClaimSet m → IsClaimSet (for_period m moment key period)
period_set m moment period key early le set =
    expiry_set (moment + period) (dated_for m moment key) (omega (arith, early, le)) (dated_set moment (with_present Iss (Str key.issuer) m) early (issued_set key.issuer m set))

-- within the limits with a member more
pub renewed_wider : (m claims : Members) (content : List ℕ) (moment : ℕ) (key : KeyValue) → is_identity key.issuer ≡ true → moment < MOMENT_BOUND → KeepsLimits m
    → renew m content moment key ≡ Some claims → KeepsWithin with_a_member_more claims
renewed_wider m claims content moment key issuer early k e =
    let p = renew_says m content moment key claims e in
    subst (λ (x : Members). KeepsWithin with_a_member_more x) (sym p.is) (period_wider m moment p.period key issuer early (period_below m p.period p.there) k)

-- and within them where there are few
pub renewed_few : (m claims : Members) (content : List ℕ) (moment : ℕ) (key : KeyValue) → is_identity key.issuer ≡ true → moment < MOMENT_BOUND → KeepsLimits m
    → renew m content moment key ≡ Some claims → length (entries claims) ≤ MAX_MEMBERS → KeepsLimits claims
renewed_few m claims content moment key issuer early k e few =
    let p = renew_says m content moment key claims e in
    subst (λ (x : Members). KeepsLimits x) (sym p.is)
    (period_few m moment p.period key issuer early (period_below m p.period p.there) k (subst (λ (x : Members). length (entries x) ≤ MAX_MEMBERS) p.is few))

pub renewed_set : (m claims : Members) (content : List ℕ) (moment : ℕ) (key : KeyValue) → moment < MOMENT_BOUND → IsClaimSet m
    → renew m content moment key ≡ Some claims → IsClaimSet claims
renewed_set m claims content moment key early set e =
    let p = renew_says m content moment key claims e in
    subst (λ (x : Members). IsClaimSet x) (sym p.is) (period_set m moment p.period key early (period_below m p.period p.there) set)

-- ---- claims that are signed again

routed_kept : (route : RouteValue) (moment : ℕ) (m : Members) → is_identity route.key.issuer ≡ true → is_identity route.audience ≡ true → moment < MOMENT_BOUND → KeepsLimits m
    → KeepsLimits (for_route route moment m)
routed_kept route moment m issuer audience early k =
    present_kept Iat (Num (decimal moment)) (with_present Aud (Str route.audience) (with_present Iss (Str route.key.issuer) m))
    (present_kept Aud (Str route.audience) (with_present Iss (Str route.key.issuer) m) (present_kept Iss (Str route.key.issuer) m k (identity_kept route.key.issuer issuer))
    (identity_kept route.audience audience)) (number_kept moment (omega (arith, early)))

routed_set : (route : RouteValue) (moment : ℕ) (m : Members) → moment < MOMENT_BOUND → IsClaimSet m → IsClaimSet (for_route route moment m)
routed_set route moment m early set =
    dated_set moment (with_present Aud (Str route.audience) (with_present Iss (Str route.key.issuer) m)) early
    (heard_set route.audience (with_present Iss (Str route.key.issuer) m) (issued_set route.key.issuer m set))

pub resigned_kept : (m : Members) (content : List ℕ) (moment : ℕ) (route : RouteValue) (claims : Members) → is_identity route.key.issuer ≡ true → is_identity route.audience ≡ true → moment < MOMENT_BOUND
    → IsClaimSet m → KeepsLimits m → Resigns m content moment route claims → KeepsLimits claims
resigned_kept m content moment route claims issuer audience early set k (inl kept) = rw kept.1 (routed_kept route moment m issuer audience early k)
resigned_kept m content moment route claims issuer audience early set k (inr narrowed) =
    rw narrowed.1 (routed_kept route moment (for_target (target_of content route) m) issuer audience early
    (there_kept Uc (Str (codes "hash:" ++ segment_of (target_of content route))) m set.contained k (container_kept (target_of content route))))

pub resigned_set : (m : Members) (content : List ℕ) (moment : ℕ) (route : RouteValue) (claims : Members) → moment < MOMENT_BOUND → IsClaimSet m → Resigns m content moment route claims → IsClaimSet claims
resigned_set m content moment route claims early set (inl kept) = rw kept.1 (routed_set route moment m early set)
resigned_set m content moment route claims early set (inr narrowed) =
    rw narrowed.1 (routed_set route moment (for_target (target_of content route) m) early (container_set (codes "hash:" ++ segment_of (target_of content route)) m set))
