-- The claims that the tests change.
use Rattle.std.proofs.Common.{◌≡◌, ℕ, ◌<◌, ◌≤◌, List, length, refl, arith}
use Rattle.std.specs.Fmt.{decimal}
use Rattle.usp_json.specs.declared.value.Json.TheVariants.{Num, Str}
use Rattle.usp_json.specs.declared.value.Members.{Members}
use Rattle.usp_json.specs.Canon.{canon_members}
use Rattle.usp_claims.specs.Table.{IsClaimSet}
use Rattle.usp_claims.specs.Changes.{with_claim}
use Rattle.usp_claims.specs.declared.table.ClaimName.TheVariants.{Iss, Exp}
use Rattle.usp_claims.proofs.Decimals.{text_set, number_set}
use Rattle.usp_claims.proofs.Lengths.{grows, number_size, text_size}
use Rattle.usp_claims.specs.declared.limits.TheConstants.{MAX_CANONICAL, MAX_PAYLOAD}

pub expiry_set : (m : Members) (n : ℕ) (spelled : List ℕ) → spelled ≡ decimal n → n < 4294967296 → IsClaimSet m → IsClaimSet (with_claim Exp (Num spelled) m)
expiry_set m n spelled is lt set = rw is (number_set 3 Exp n m refl (omega arith) set)

pub expiry_short : (m : Members) (n : ℕ) (spelled : List ℕ) → spelled ≡ decimal n → n < 4294967296 → length (canon_members m) ≤ MAX_PAYLOAD → length (canon_members (with_claim Exp (Num spelled) m)) ≤ MAX_CANONICAL
expiry_short m n spelled is lt short = rw is (omega (arith, grows Exp (Num (decimal n)) m, number_size n (omega arith), short))

pub issuer_set : (m : Members) (bytes : List ℕ) → IsClaimSet m → IsClaimSet (with_claim Iss (Str bytes) m)
issuer_set m bytes set = text_set 0 Iss bytes m refl set

pub issuer_short : (m : Members) (bytes : List ℕ) → length bytes ≤ 100 → length (canon_members m) ≤ MAX_PAYLOAD → length (canon_members (with_claim Iss (Str bytes) m)) ≤ MAX_CANONICAL
issuer_short m bytes few short = omega (arith, grows Iss (Str bytes) m, text_size bytes, few, short)
