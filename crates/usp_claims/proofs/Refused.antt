-- What is refused is no claim set.
use Rattle.std.proofs.Common.{◌≡◌, ◌≢◌, ℕ, suc, ◌≤◌, Bool, true, not, List, [], ◌∷◌, length, Option, Some, None, refl, sym, ◌∙◌, arith}
use Rattle.std.specs.List.{All, find}
use Rattle.std.specs.Option.{is_some, option_map_or}
use Rattle.usp_json.specs.declared.value.Json.{Json as JsonValue}
use Rattle.usp_json.specs.declared.value.Members.{Members}
use Rattle.usp_json.specs.declared.fault.JsonFault.{JsonFault}
use Rattle.usp_json.specs.declared.fault.JsonFault.TheVariants.{Syntax, Duplicate, Deep, Many, NoMemory as NoJsonMemory}
use Rattle.usp_json.specs.Faults.{RefusesJson}
use Rattle.usp_json.specs.Spells.{given, IsReading}
use Rattle.usp_json.proofs.FaultLaws.{reads_once}
use Rattle.usp_claims.specs.Table.{name_of, rows, claim, fits, IsClaimSet}
use Rattle.usp_claims.specs.Faults.{fault_in, first_failing, RefusesClaims}
use Rattle.usp_claims.specs.declared.table.ClaimName.TheVariants.{Uc}
use Rattle.usp_claims.specs.declared.fault.ClaimFault.{ClaimFault}
use Rattle.usp_claims.specs.declared.fault.ClaimFault.TheVariants.{TooLong, Json, Kind, Range, NoContainer, NoMemory}
use Rattle.usp_claims.specs.declared.limits.TheConstants.{MAX_PAYLOAD}

all_fit : {X : Type 0} (p : X → Bool) (xs : List X) → All (λ x. p x ≡ true) xs → find (λ x. not (p x)) xs ≡ None
all_fit p [] h = refl
all_fit p (x ∷ xs) h =
    let has : p x ≡ true = h 0 x (omega arith) in
    rw has (all_fit p xs (λ k d lt. h (suc k) d (omega arith)))

there : (o : Option JsonValue) → is_some o ≡ true → option_map_or (λ value. None) o (Some NoContainer) ≡ None
there None h = cc h
there (Some value) h = refl

-- a claim set has no fault
accepted : (m : Members) → IsClaimSet m → fault_in m ≡ None
accepted m set =
    let e : first_failing m ≡ None = all_fit (λ each. fits m each) rows set.fitting in
    rw e (there (claim (name_of Uc) m) set.contained)

no_fault_of : (m k : Members) (payload : List ℕ) (fault : ClaimFault) → IsReading payload m → IsReading payload k → fault_in k ≡ Some fault → IsClaimSet m → ⊥
no_fault_of m k payload fault reads other is set =
    let same : m ≡ k = reads_once given payload m k reads other in
    let none : fault_in k ≡ None = rw (sym same) (accepted m set) in
    let clash : Some fault ≡ None = sym is ∙ none in
    cc

no_object : (payload : List ℕ) (m : Members) (fault : JsonFault) → RefusesJson fault payload → fault ≢ NoJsonMemory → IsReading payload m → ⊥
no_object payload m (Syntax at) r n reads = r.0.no_reading m reads
no_object payload m (Duplicate at) r n reads = r.0.no_reading m reads
no_object payload m (Deep at) r n reads = r.0.no_reading m reads
no_object payload m (Many at) r n reads = r.0.no_reading m reads
no_object payload m NoJsonMemory r n reads = n refl

pub no_claim_set : (fault : ClaimFault) (payload : List ℕ) (m : Members) → RefusesClaims fault payload → fault ≢ NoMemory → length payload ≤ MAX_PAYLOAD → IsReading payload m → IsClaimSet m → ⊥
no_claim_set TooLong payload m r n short reads set = omega arith
no_claim_set (Json fault) payload m r n short reads set = no_object payload m fault r.2 r.1 reads
no_claim_set (Kind name) payload m r n short reads set = no_fault_of m r.1 payload (Kind name) reads r.2 r.3 set
no_claim_set (Range name) payload m r n short reads set = no_fault_of m r.1 payload (Range name) reads r.2 r.3 set
no_claim_set NoContainer payload m r n short reads set = no_fault_of m r.1 payload NoContainer reads r.2 r.3 set
no_claim_set NoMemory payload m r n short reads set = n refl
