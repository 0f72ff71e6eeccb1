-- Claims that are renewed, or signed again, and sealed are read as themselves.
use Rattle.std.proofs.Common.{◌≡◌, ℕ, ◌<◌, true, List, Some, sym, ◌∙◌, subst}
use Rattle.usp_base.specs.declared.limits.TheConstants.{MOMENT_BOUND}
use Rattle.usp_json.proofs.ByteLaws.{reading_bytes}
use Rattle.usp_json.proofs.CanonLaws.{reads_back_within}
use Rattle.usp_json.proofs.FaultLaws.{reads_once}
use Rattle.usp_json.proofs.KeepLaws.{reading_keeps}
use Rattle.usp_json.proofs.WideLaws.{members_wider_kept, reading_wider}
use Rattle.usp_json.specs.Canon.{canon_members}
use Rattle.usp_json.specs.Grammar.{IsBytes}
use Rattle.usp_json.specs.Kept.{KeepsWithin}
use Rattle.usp_json.specs.Spells.{IsReading, with_a_member_more}
use Rattle.usp_json.specs.declared.value.Members.{Members}
use Rattle.usp_jws.proofs.Once.{b64u_once}
use Rattle.usp_jws.proofs.Sealing.{sealed_payload}
use Rattle.usp_jws.specs.Base64url.{b64u}
use Rattle.usp_jws.specs.Keys.{KeyValue}
use Rattle.usp_jws.specs.Letters.{is_identity}
use Rattle.usp_jws.specs.Sealed.{sealed}
use Rattle.usp_rules.specs.Tokens.{CarriesClaims}
use Rattle.usp_issue.specs.Renewals.{renew}
use Rattle.usp_issue.specs.Resignings.{Resigns}
use Rattle.usp_issue.specs.Routes.{RouteValue}
use Rattle.usp_issue.proofs.Keeping.{renewed_wider, resigned_kept}

claims_read : (key : KeyValue) (payload : List ℕ) (read : Members) → IsBytes payload → CarriesClaims (sealed key payload) read → IsReading payload read
claims_read key payload read are h =
    let encoded : h.parts.payload ≡ b64u payload = sealed_payload key payload h.parts (sym h.split.whole) in
    let same : h.claims.bytes ≡ payload = b64u_once h.claims.bytes payload h.claims.are_bytes are (sym h.claims.encoded ∙ encoded) in
    subst (λ (l : List ℕ). IsReading l read) same h.claims.claims.reads

once_within : (key : KeyValue) (m read : Members) → KeepsWithin with_a_member_more m → CarriesClaims (sealed key (canon_members m)) read → read ≡ m
once_within key m read kept h =
    let text = canon_members m in
    let back = reads_back_within with_a_member_more m kept in
    let bytes = reading_bytes with_a_member_more text m back in
    reads_once with_a_member_more text read m (reading_wider text read (claims_read key text read bytes h)) back

pub renewed_once : (m claims read : Members) (token content : List ℕ) (moment : ℕ) (key : KeyValue) → is_identity key.issuer ≡ true → moment < MOMENT_BOUND
    → CarriesClaims token m → renew m content moment key ≡ Some claims → CarriesClaims (sealed key (canon_members claims)) read → read ≡ claims
renewed_once m claims read token content moment key issuer early h e k =
    once_within key claims read (renewed_wider m claims content moment key issuer early (reading_keeps h.claims.bytes m h.claims.claims.reads) e) k

pub resigned_once : (m claims read : Members) (token content : List ℕ) (moment : ℕ) (route : RouteValue) → is_identity route.key.issuer ≡ true → is_identity route.audience ≡ true → moment < MOMENT_BOUND
    → CarriesClaims token m → Resigns m content moment route claims → CarriesClaims (sealed route.key (canon_members claims)) read → read ≡ claims
resigned_once m claims read token content moment route issuer audience early h e k =
    once_within route.key claims read (members_wider_kept claims (resigned_kept m content moment route claims issuer audience early h.claims.claims.set (reading_keeps h.claims.bytes m h.claims.claims.reads) e)) k
