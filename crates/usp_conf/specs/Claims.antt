-- Extensions: claims with their tests.
use Rattle.std.specs.Prelude.{ℕ, Bool, false, not, ◌||◌, List, [], ◌∷◌, ◌++◌, codes, Option, Some, None, Result, Ok, Err, if◌then◌else◌}
use Rattle.std.specs.List.{list_any}
use Rattle.std.specs.Option.{option_map_or}
use Rattle.std.specs.Str.{bytes_eq}
use Rattle.serde_json.specs.Data.{Data}
use Rattle.serde_json.specs.Data.{Items as Elements}
use Rattle.serde_json.specs.Find.{as_null, as_array}
use Rattle.usp_json.specs.declared.value.Json.{Json}
use Rattle.usp_json.specs.declared.value.Json.TheVariants.{Str}
use Rattle.usp_json.specs.declared.value.Json.TheViews.{roll-Items}
use Rattle.usp_json.specs.declared.value.Items.{Items}
use Rattle.usp_claims.specs.Table as table
use Rattle.usp_claims.specs.declared.table.Row.{Row}
use Rattle.usp_ext.specs.Listed.{extension, is_listed}
use Rattle.usp_ext.specs.declared.kinds.TestKind.{TestKind}
use Rattle.usp_ext.specs.declared.kinds.TestKind.TheVariants as kind
use Rattle.usp_ext.specs.declared.kinds.Setting.{Setting}
use Rattle.usp_ext.specs.declared.kinds.Setting.TheVariants as setting
use Rattle.usp_ext.specs.declared.kinds.Extension.{Extension}
use Rattle.usp_conf.specs.Answers.{and_then}
use Rattle.usp_conf.specs.Texts.{required, optional, text_of, text_that, number_of}
use Rattle.usp_conf.specs.Lists.{each, rows_of, object_of}
use Rattle.usp_claims.specs.declared.limits.TheConstants.{MAX_NUMBER}
use Rattle.usp_conf.specs.declared.limits.TheConstants.{MAX_EXTENSIONS}
use Rattle.usp_conf.specs.declared.fault.ConfFault.{ConfFault}
use Rattle.usp_conf.specs.declared.fault.ConfFault.TheVariants as fault
use Rattle.usp_conf.specs.declared.member.Member.TheVariants as member

abbrev pub has_row : List Row → List ℕ → Bool
has_row rows claim = list_any (λ row. bytes_eq (table.name_of row.name) claim) rows

-- the claim is no row of the table of claims
abbrev pub is_free : List ℕ → Bool
is_free claim = not (has_row table.rows claim)

-- the test of that name
abbrev pub kind_named : List ℕ → Option TestKind
kind_named name =
    if bytes_eq name (codes "any") then Some kind.Any
    else (if bytes_eq name (codes "equals") then Some kind.Equals
    else (if bytes_eq name (codes "one_of") then Some kind.OneOf
    else (if bytes_eq name (codes "at_most") then Some kind.AtMost
    else (if bytes_eq name (codes "path_prefix") then Some kind.PathPrefix else None))))

abbrev pub kind_value : List ℕ → Result TestKind ConfFault
kind_value name = option_map_or (λ kind. Ok kind) (kind_named name) (Err (fault.Range member.Test))

abbrev pub kind_of : Data → Result TestKind ConfFault
kind_of value = and_then (text_of member.Test value) kind_value

-- the shape of the setting, by the kind of the test
abbrev pub nothing_of : Data → Result Setting ConfFault
nothing_of value =
    option_map_or (λ null. Ok setting.Nothing) (as_null value) (Err (fault.Kind member.Setting))

abbrev pub words_of : Data → Result Setting ConfFault
words_of value = and_then (text_of member.Setting value) (λ text. Ok (setting.Words text))

abbrev pub json_text_of : Data → Result Json ConfFault
json_text_of value = and_then (text_of member.Setting value) (λ text. Ok (Str text))

abbrev pub items : List Json → Items
items values = roll-Items (record { values = values })

abbrev pub texts_of : Elements → Result Items ConfFault
texts_of values = and_then (each json_text_of values) (λ texts. Ok (items texts))

abbrev pub several_of : Data → Result Setting ConfFault
several_of value =
    option_map_or (λ values. and_then (texts_of values) (λ texts. Ok (setting.Several texts)))
    (as_array value) (Err (fault.Kind member.Setting))

abbrev pub most_of : Data → Result Setting ConfFault
most_of value =
    and_then (number_of member.Setting 0 MAX_NUMBER value) (λ most. Ok (setting.Number most))

abbrev pub setting_value : TestKind → Data → Result Setting ConfFault
setting_value kind.Any = nothing_of
setting_value kind.Equals = words_of
setting_value kind.OneOf = several_of
setting_value kind.AtMost = most_of
setting_value kind.PathPrefix = nothing_of

abbrev pub claim_of : Data → Result (List ℕ) ConfFault
claim_of = required member.Claim (text_that is_free member.Claim)

abbrev pub test_of : Data → Result TestKind ConfFault
test_of = required member.Test kind_of

abbrev pub setting_of : TestKind → Data → Result Setting ConfFault
setting_of kind = required member.Setting (setting_value kind)

-- the extension of an object
abbrev pub extension_in : Data → Result Extension ConfFault
extension_in fields =
    and_then (claim_of fields) (λ claim.
    and_then (test_of fields) (λ test.
    and_then (setting_of test fields) (λ told. Ok (extension claim test told))))

-- one of the extensions is of a claim of an earlier one
abbrev pub repeats_behind : List Extension → List Extension → Bool
repeats_behind earlier [] = false
repeats_behind earlier (one ∷ more) =
    is_listed one.claim earlier || repeats_behind (earlier ++ one ∷ []) more

abbrev pub distinct_extensions : List Extension → Result (List Extension) ConfFault
distinct_extensions extensions =
    if repeats_behind [] extensions then Err (fault.Repeat member.Claim) else Ok extensions

abbrev pub extensions_value : Data → Result (List Extension) ConfFault
extensions_value value =
    and_then
    (rows_of member.Extensions 0 MAX_EXTENSIONS (object_of member.Extensions extension_in) value)
    distinct_extensions

abbrev pub extensions_of : Data → Result (List Extension) ConfFault
extensions_of = optional member.Extensions [] extensions_value
