-- The claims that have a test (RFC 9246 section 2.1.9).
use Rattle.std.specs.Prelude.{◌≡◌, ℕ, Bool, true, List, Option}
use Rattle.std.specs.List.{find}
use Rattle.std.specs.Option.{is_some, option_map}
use Rattle.std.specs.Str.{bytes_eq}
use Rattle.usp_json.specs.declared.value.Json.{Json}
use Rattle.usp_ext.specs.Tests.{means}
use Rattle.usp_ext.specs.declared.kinds.TestKind.{TestKind}
use Rattle.usp_ext.specs.declared.kinds.Setting.{Setting}
use Rattle.usp_ext.specs.declared.kinds.Extension.{Extension}
use Rattle.usp_ext.specs.declared.extensions.ExtFault.{ExtFault}
use Rattle.usp_ext.specs.declared.extensions.ExtFault.TheVariants.{Repeat, NoMemory}

abbrev pub extension : List ℕ → TestKind → Setting → Extension
extension claim kind setting = record { claim = claim; kind = kind; setting = setting }

-- the extension is of that claim
abbrev pub is_of : List ℕ → Extension → Bool
is_of claim listed = bytes_eq listed.claim claim

-- the first extension of that claim
abbrev pub listed_of : List ℕ → List Extension → Option Extension
listed_of claim extensions = find (is_of claim) extensions

abbrev pub is_listed : List ℕ → List Extension → Bool
is_listed claim extensions = is_some (listed_of claim extensions)

-- whether the value passes the test of that claim, where it has one
abbrev pub means_of : List Extension → List ℕ → Json → List ℕ → Option Bool
means_of extensions claim value path =
    option_map (λ listed. means listed.kind listed.setting value path) (listed_of claim extensions)

-- what a refusal says; want of memory is free
abbrev pub RefusesExtension : ExtFault → List ℕ → List Extension → Type 0
RefusesExtension Repeat claim extensions = is_listed claim extensions ≡ true
RefusesExtension NoMemory claim extensions = Unit {0}
