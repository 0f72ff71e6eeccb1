-- What each test of a claim that must be understood means (RFC 9246 section 2.1.9).
use Rattle.std.specs.Prelude.{ℕ, Bool, true, false, ◌&&◌, nat_le, List}
use Rattle.std.specs.List.{list_all, list_any}
use Rattle.std.specs.Option.{option_map_or}
use Rattle.usp_json.specs.declared.value.Json.{Json}
use Rattle.usp_json.specs.Scalars.{text_in}
use Rattle.usp_json.specs.Values.{is_text, is_this}
use Rattle.usp_claims.specs.declared.limits.TheConstants.{MAX_NUMBER}
use Rattle.usp_ext.specs.Values.{begins, is_number_up_to}
use Rattle.usp_ext.specs.declared.kinds.TestKind.{TestKind}
use Rattle.usp_ext.specs.declared.kinds.TestKind.TheVariants.{Any, Equals, OneOf, AtMost, PathPrefix}
use Rattle.usp_ext.specs.declared.kinds.Setting.{Setting}
use Rattle.usp_ext.specs.declared.kinds.Setting.TheVariants.{Nothing, Words, Several, Number}

-- a value is one of the texts of a list of texts
abbrev pub is_text_of : List Json → Json → Bool
is_text_of texts value =
    list_all is_text texts && option_map_or (λ text. list_any (is_this text) texts) (text_in value) false

-- the test of that kind, under that setting, passes the value, where the content has that path
abbrev pub means : TestKind → Setting → Json → List ℕ → Bool
means Any Nothing value path = true
means Equals (Words text) value path = is_this text value
means OneOf (Several texts) value path = is_text_of texts.values value
means AtMost (Number most) value path = nat_le most MAX_NUMBER && is_number_up_to most value
means PathPrefix Nothing value path = begins path value
means _ _ value path = false
