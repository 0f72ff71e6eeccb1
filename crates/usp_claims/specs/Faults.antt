-- Why a payload has no claim set (RFC 7519 section 7.2).
use Rattle.std.specs.Prelude.{◌≡◌, ◌≢◌, ℕ, ◌<◌, ◌≤◌, true, not, List, length, Option, Some, None, if◌then◌else◌}
use Rattle.std.specs.List.{find}
use Rattle.std.specs.Option.{option_map_or}
use Rattle.usp_json.specs.declared.value.Members.{Members}
use Rattle.usp_json.specs.declared.fault.JsonFault.{JsonFault}
use Rattle.usp_json.specs.declared.fault.JsonFault.TheVariants.{NoMemory as NoJsonMemory}
use Rattle.usp_json.specs.Spells.{IsReading}
use Rattle.usp_json.specs.Faults.{RefusesJson}
use Rattle.usp_claims.specs.Table.{rows, claim, name_of, has_kind, fits}
use Rattle.usp_claims.specs.declared.table.ClaimName.TheVariants.{Uc}
use Rattle.usp_claims.specs.declared.limits.TheConstants.{MAX_PAYLOAD}
use Rattle.usp_claims.specs.declared.table.Row.{Row}
use Rattle.usp_claims.specs.declared.fault.ClaimFault.{ClaimFault}
use Rattle.usp_claims.specs.declared.fault.ClaimFault.TheVariants.{TooLong, Json, Kind, Range, NoContainer, NoMemory}

-- the first row that the members fail
abbrev pub first_failing : Members → Option Row
first_failing members = find (λ row. not (fits members row)) rows

-- how they fail it: by the kind, and else by the range
abbrev pub failure : Members → Row → ClaimFault
failure members row =
    if option_map_or (has_kind row.kind) (claim (name_of row.name) members) true then Range row.name else Kind row.name

-- the fault where no row fails
abbrev pub container_fault : Members → Option ClaimFault
container_fault members = option_map_or (λ value. None) (claim (name_of Uc) members) (Some NoContainer)

-- why the members are no claim set
abbrev pub fault_in : Members → Option ClaimFault
fault_in members = option_map_or (λ row. Some (failure members row)) (first_failing members) (container_fault members)

-- the payload is read as members that have this fault
abbrev pub HasFault : ClaimFault → List ℕ → Type 0
HasFault fault payload =
    (length payload ≤ MAX_PAYLOAD) × (members : Members) × IsReading payload members × (fault_in members ≡ Some fault)

-- what a fault says of a payload; want of memory is free
abbrev pub RefusesClaims : ClaimFault → List ℕ → Type 0
RefusesClaims TooLong payload = MAX_PAYLOAD < length payload
RefusesClaims (Json fault) payload = (length payload ≤ MAX_PAYLOAD) × (fault ≢ NoJsonMemory) × RefusesJson fault payload
RefusesClaims (Kind name) payload = HasFault (Kind name) payload
RefusesClaims (Range name) payload = HasFault (Range name) payload
RefusesClaims NoContainer payload = HasFault NoContainer payload
RefusesClaims NoMemory payload = Unit {0}

-- the fault of a payload that is no JSON
abbrev pub json_fault : JsonFault → ClaimFault
json_fault NoJsonMemory = NoMemory
json_fault fault = Json fault
