-- A token has one list of parts, one header, one key that verifies it, and one list of claims.
use Rattle.std.proofs.Common.{◌≡◌, ℕ, List, Option, Some, sym, ap, ◌∙◌, subst}
use Rattle.std.proofs.lemmas.Option.{same_Some}
use Rattle.usp_json.proofs.FaultLaws.{reads_once}
use Rattle.usp_json.specs.Spells.{IsReading, given}
use Rattle.usp_json.specs.declared.value.Members.{Members}
use Rattle.usp_jws.proofs.Once.{b64u_once}
use Rattle.usp_jws.proofs.Parameters.{one_kid}
use Rattle.usp_jws.proofs.Tokens.{dots_compact, parts_of_compact}
use Rattle.usp_jws.specs.Base64url.{b64u}
use Rattle.usp_jws.specs.Compact.{dots}
use Rattle.usp_jws.specs.Headers.{IsHeader}
use Rattle.usp_jws.specs.Keys.{KeyValue}
use Rattle.usp_jws.specs.Parts.{PartsValue}
use Rattle.usp_rules.specs.Tokens.{CarriesClaims, HasClaims, HasHeader, HasParts, IsVerified, verifying}

-- the parts of a token by the bytes that they encode
encoded_parts : (token : List ℕ) (parts : PartsValue) (h : HasParts token parts)
    → (parts.header ≡ b64u h.short.1.header) × (parts.payload ≡ b64u h.short.1.payload) × (parts.signature ≡ b64u h.short.1.signature)
encoded_parts token parts h =
    let t = h.short.1 in
    parts_of_compact parts.header parts.payload parts.signature t.header t.payload t.signature token h.whole
    (ap dots t.spelled ∙ dots_compact t.header t.payload t.signature) t.spelled

abbrev made_of : List ℕ → List ℕ → List ℕ → PartsValue
made_of header payload signature = record { header = header; payload = payload; signature = signature }

same_parts : (h p s x y z : List ℕ) → h ≡ x → p ≡ y → s ≡ z → made_of h p s ≡ made_of x y z
same_parts h p s x y z a b c = cc

pub one_parts : (token : List ℕ) (a b : PartsValue) → HasParts token a → HasParts token b → a ≡ b
one_parts token a b h k =
    let x = encoded_parts token a h in
    let y = encoded_parts token b (record { short = h.short; whole = k.whole }) in
    same_parts a.header a.payload a.signature b.header b.payload b.signature (x.0 ∙ sym y.0) (x.1 ∙ sym y.1) (x.2 ∙ sym y.2)

one_payload : (payload : List ℕ) (a b : Members) → HasClaims payload a → HasClaims payload b → a ≡ b
one_payload payload a b h k =
    let same : h.bytes ≡ k.bytes = b64u_once h.bytes k.bytes h.are_bytes k.are_bytes (sym h.encoded ∙ k.encoded) in
    reads_once given k.bytes a b (subst (λ bytes. IsReading bytes a) same h.claims.reads) k.claims.reads

pub one_claims : (token : List ℕ) (a b : Members) → CarriesClaims token a → CarriesClaims token b → a ≡ b
one_claims token a b h k =
    let same : h.parts ≡ k.parts = one_parts token h.parts k.parts h.split k.split in
    one_payload k.parts.payload a b (subst (λ parts. HasClaims parts.payload a) same h.claims) k.claims

-- claims of the token are those of its payload
pub claims_at : (token : List ℕ) (parts : PartsValue) (members : Members) → HasParts token parts → CarriesClaims token members → HasClaims parts.payload members
claims_at token parts members split h =
    subst (λ parts. HasClaims parts.payload members) (one_parts token h.parts parts h.split split) h.claims

-- a header of the token is that of its first part
pub header_at : (token : List ℕ) (parts : PartsValue) (kid : Option (List ℕ)) → HasParts token parts → HasHeader token kid → IsHeader parts.header kid
header_at token parts kid split h =
    subst (λ parts. IsHeader parts.header kid) (one_parts token h.parts parts h.split split) h.header

-- the key that verifies is found by the token's own parts and name of a key
pub verified_at : (ring : List KeyValue) (token : List ℕ) (place : ℕ) (parts : PartsValue) (kid : Option (List ℕ))
    → HasParts token parts → IsHeader parts.header kid → IsVerified ring token place → verifying ring kid parts ≡ Some place
verified_at ring token place parts kid split header h =
    let same : h.parts ≡ parts = one_parts token h.parts parts h.split split in
    let named : IsHeader parts.header h.kid = subst (λ parts. IsHeader parts.header h.kid) same h.header in
    let kids : h.kid ≡ kid = one_kid parts.header h.kid kid named header in
    sym (ap (λ k. verifying ring k parts) kids) ∙ (sym (ap (λ p. verifying ring h.kid p) same) ∙ h.first)

pub one_place : (ring : List KeyValue) (token : List ℕ) (i j : ℕ) → IsVerified ring token i → IsVerified ring token j → i ≡ j
one_place ring token i j h k = same_Some i j (sym (verified_at ring token i k.parts k.kid k.split k.header h) ∙ k.first)
