-- Headers and claims, against what refuses them.
use Rattle.std.proofs.Common.{IfOk, MatchOption, ◌≡◌, ◌≢◌, ℕ, List, Option, Some, None, Result, Ok, Err, sym, ◌∙◌, subst}
use Rattle.std.specs.Result.{result_ok}
use Rattle.base64.specs.GeneralPurpose.{IsBytes}
use Rattle.usp_claims.proofs.Refused.{no_claim_set}
use Rattle.usp_claims.specs.Faults.{RefusesClaims}
use Rattle.usp_claims.specs.declared.fault.ClaimFault.{ClaimFault}
use Rattle.usp_claims.specs.declared.fault.ClaimFault.TheVariants.{NoMemory as NoClaimMemory}
use Rattle.usp_json.specs.declared.value.Members.{Members}
use Rattle.usp_jws.proofs.Once.{b64u_once}
use Rattle.usp_jws.proofs.Parameters.{no_header as refused_header}
use Rattle.usp_jws.specs.Base64url.{b64u}
use Rattle.usp_jws.specs.Headers.{IsHeader, RefusesHeader}
use Rattle.usp_jws.specs.declared.header.HeaderFault.{HeaderFault}
use Rattle.usp_jws.specs.declared.header.HeaderFault.TheVariants.{NoMemory as NoHeaderMemory}
use Rattle.usp_rules.specs.Tokens.{HasClaims, SpellsClaims}
use Rattle.usp_rules.specs.declared.fault.NoMemory.{NoMemory}

-- what is refused for another cause than memory is no header
pub no_header : (fault : HeaderFault) (text : List ℕ) → RefusesHeader fault text → fault ≢ NoHeaderMemory
    → (kid : Option (List ℕ)) → IsHeader text kid → ⊥
no_header fault text refused other kid is = refused_header fault text kid refused other is

-- what is refused for another cause than memory is no claim set
pub no_claims : (fault : ClaimFault) (payload : List ℕ) → RefusesClaims fault payload → fault ≢ NoClaimMemory
    → (members : Members) → SpellsClaims payload members → ⊥
no_claims fault payload refused other members is = no_claim_set fault payload members refused other is.short is.reads is.set

-- what an answer is, where it is one
pub ok_of : {E : Type 0} (r : Result (List ℕ) E) (bytes : List ℕ) → result_ok r ≡ Some bytes → r ≡ Ok bytes
ok_of (Ok x) bytes e = cc
ok_of (Err f) bytes e = cc

has_claims : (payload bytes : List ℕ) (members : Members) → payload ≡ b64u bytes → IsBytes bytes → SpellsClaims bytes members → HasClaims payload members
has_claims payload bytes members is are spells = record { bytes = bytes; are_bytes = are; encoded = is; claims = spells }

no_claims_in : (payload bytes : List ℕ) → payload ≡ b64u bytes → IsBytes bytes → ((members : Members) → SpellsClaims bytes members → ⊥)
    → (members : Members) → HasClaims payload members → ⊥
no_claims_in payload bytes is are none members has =
    let same : has.bytes ≡ bytes = b64u_once has.bytes bytes has.are_bytes are (sym has.encoded ∙ is) in
    none members (subst (λ b. SpellsClaims b members) same has.claims)

-- the claims of a payload are those of its bytes
pub claims_by : (payload bytes : List ℕ) (r : Result (Option Members) NoMemory) → payload ≡ b64u bytes → IsBytes bytes
    → IfOk r (λ found. MatchOption found ((members : Members) → SpellsClaims bytes members → ⊥) (λ members. SpellsClaims bytes members))
    → IfOk r (λ found. MatchOption found ((members : Members) → HasClaims payload members → ⊥) (λ members. HasClaims payload members))
claims_by payload bytes (Err e) is are h = h
claims_by payload bytes (Ok None) is are h = no_claims_in payload bytes is are h
claims_by payload bytes (Ok (Some members)) is are h = has_claims payload bytes members is are h
