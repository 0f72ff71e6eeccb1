-- What a claim set says of each row.
use Rattle.std.proofs.Common.{◌≡◌, ◌⊎◌, ℕ, zero, suc, ◌≤◌, Bool, true, false, not, List, [], ◌∷◌, length, Option, Some, None, inl, inr, refl, subst, arith, if◌then◌else◌}
use Rattle.std.specs.List.{All, find}
use Rattle.std.specs.Option.{is_some, option_map_or}
use Rattle.usp_json.specs.declared.value.Json.{Json as JsonValue}
use Rattle.usp_json.specs.declared.value.Members.{Members}
use Rattle.usp_json.specs.Spells.{IsReading}
use Rattle.usp_claims.specs.Table.{name_of, row, rows, claim, has_kind, fits, IsClaimSet}
use Rattle.usp_claims.specs.Faults.{fault_in, first_failing, container_fault, failure, RefusesClaims}
use Rattle.usp_claims.specs.declared.fault.ClaimFault.{ClaimFault}
use Rattle.usp_claims.specs.declared.fault.ClaimFault.TheVariants.{TooLong, Json, Kind, Range, NoContainer, NoMemory}
use Rattle.usp_claims.specs.declared.table.ClaimName.{ClaimName}
use Rattle.usp_claims.specs.declared.table.Row.{Row}
use Rattle.usp_claims.specs.declared.table.ClaimName.TheVariants.{Iss, Exp, Nbf, Iat, Jti, Version, Crit, Uc, Ets, Stt, Std}
use Rattle.usp_claims.specs.declared.table.ClaimKind.TheVariants.{Text, Number, Period}
use Rattle.usp_claims.specs.declared.limits.TheConstants.{MAX_PAYLOAD}

pub tells : (b : Bool) → (b ≡ true) ⊎ (b ≡ false)
tells true = inl refl
tells false = inr refl

first_and_rest : {X : Type 0} (p : X → Bool) (x : X) (xs : List X) → p x ≡ true → All (λ y. p y ≡ true) xs → All (λ y. p y ≡ true) (x ∷ xs)
first_and_rest p x xs has rest zero d lt = has
first_and_rest p x xs has rest (suc k) d lt = rest k d (omega arith)

-- where no row fails, each fits
pub none_fails : {X : Type 0} (p : X → Bool) (xs : List X) → find (λ x. not (p x)) xs ≡ None → All (λ x. p x ≡ true) xs
none_fails p [] h k d lt = absurd (omega arith)
none_fails p (x ∷ xs) h k d lt = elim (tells (p x)) [
  | inl has ↦ let rest = rw has at h in first_and_rest p x xs has (none_fails p xs rest) k d lt
  | inr misses ↦ let some = rw misses at h in cc some
]

pub iss_fits : (m : Members) → IsClaimSet m → fits m (row Iss Text) ≡ true
iss_fits m set = set.fitting 0 (row Iss Text) (omega arith)

pub exp_fits : (m : Members) → IsClaimSet m → fits m (row Exp Number) ≡ true
exp_fits m set = set.fitting 3 (row Iss Text) (omega arith)

pub nbf_fits : (m : Members) → IsClaimSet m → fits m (row Nbf Number) ≡ true
nbf_fits m set = set.fitting 4 (row Iss Text) (omega arith)

pub iat_fits : (m : Members) → IsClaimSet m → fits m (row Iat Number) ≡ true
iat_fits m set = set.fitting 5 (row Iss Text) (omega arith)

pub jti_fits : (m : Members) → IsClaimSet m → fits m (row Jti Text) ≡ true
jti_fits m set = set.fitting 6 (row Iss Text) (omega arith)

pub version_fits : (m : Members) → IsClaimSet m → fits m (row Version Number) ≡ true
version_fits m set = set.fitting 7 (row Iss Text) (omega arith)

pub crit_fits : (m : Members) → IsClaimSet m → fits m (row Crit Text) ≡ true
crit_fits m set = set.fitting 8 (row Iss Text) (omega arith)

pub uc_fits : (m : Members) → IsClaimSet m → fits m (row Uc Text) ≡ true
uc_fits m set = set.fitting 10 (row Iss Text) (omega arith)

pub uc_contained : (m : Members) → IsClaimSet m → is_some (claim (name_of Uc) m) ≡ true
uc_contained m set = set.contained

pub ets_fits : (m : Members) → IsClaimSet m → fits m (row Ets Period) ≡ true
ets_fits m set = set.fitting 11 (row Iss Text) (omega arith)

pub stt_fits : (m : Members) → IsClaimSet m → fits m (row Stt Number) ≡ true
stt_fits m set = set.fitting 12 (row Iss Text) (omega arith)

pub std_fits : (m : Members) → IsClaimSet m → fits m (row Std Number) ≡ true
std_fits m set = set.fitting 13 (row Iss Text) (omega arith)

present : (o : Option JsonValue) → option_map_or (λ value. None) o (Some NoContainer) ≡ None → is_some o ≡ true
present None h = cc h
present (Some value) h = refl

-- the faults of members
abbrev IsOfMembers : ClaimFault → Type 0
IsOfMembers (Kind name) = Unit {0}
IsOfMembers (Range name) = Unit {0}
IsOfMembers NoContainer = Unit {0}
IsOfMembers _ = ⊥

row_fault : (t : Bool) (name : ClaimName) (fault : ClaimFault) → Some (if t then Range name else Kind name) ≡ Some fault → IsOfMembers fault
row_fault true name fault h = let e : Range name ≡ fault = cc in subst (λ (f : ClaimFault). IsOfMembers f) e tt
row_fault false name fault h = let e : Kind name ≡ fault = cc in subst (λ (f : ClaimFault). IsOfMembers f) e tt

of_container : (o : Option JsonValue) (fault : ClaimFault) → option_map_or (λ value. None) o (Some NoContainer) ≡ Some fault → IsOfMembers fault
of_container None fault h = let e : NoContainer ≡ fault = cc in subst (λ (f : ClaimFault). IsOfMembers f) e tt
of_container (Some value) fault h = cc h

which_fault : (m : Members) (first : Option Row) (fault : ClaimFault) → option_map_or (λ each. Some (failure m each)) first (container_fault m) ≡ Some fault → IsOfMembers fault
which_fault m None fault h = of_container (claim (name_of Uc) m) fault h
which_fault m (Some first) fault h = row_fault (option_map_or (has_kind first.kind) (claim (name_of first.name) m) true) first.name fault h

-- members without a fault are a claim set
contained : (m : Members) → container_fault m ≡ None → is_some (claim (name_of Uc) m) ≡ true
contained m h = present (claim (name_of Uc) m) h

none_failing : (m : Members) (first : Option Row) → option_map_or (λ each. Some (failure m each)) first (container_fault m) ≡ None → (first ≡ None) × (container_fault m ≡ None)
none_failing m None h = (refl, h)
none_failing m (Some first) h = cc h

pub no_fault : (m : Members) → fault_in m ≡ None → IsClaimSet m
no_fault m h =
    let parts = none_failing m (first_failing m) h in
    record { fitting = none_fails (λ each. fits m each) rows parts.0; contained = contained m parts.1 }

-- a fault of the members is one of a row, or of the container
of_row : (m : Members) (payload : List ℕ) (fault : ClaimFault) → length payload ≤ MAX_PAYLOAD → IsReading payload m → fault_in m ≡ Some fault → IsOfMembers fault → RefusesClaims fault payload
of_row m payload TooLong short reads is which = absurd which
of_row m payload (Json fault) short reads is which = absurd which
of_row m payload NoMemory short reads is which = absurd which
of_row m payload (Kind name) short reads is which = (short, m, reads, is)
of_row m payload (Range name) short reads is which = (short, m, reads, is)
of_row m payload NoContainer short reads is which = (short, m, reads, is)

pub refuses : (m : Members) (payload : List ℕ) (fault : ClaimFault) → length payload ≤ MAX_PAYLOAD → IsReading payload m → fault_in m ≡ Some fault → RefusesClaims fault payload
refuses m payload fault short reads is = of_row m payload fault short reads is (which_fault m (first_failing m) fault is)
