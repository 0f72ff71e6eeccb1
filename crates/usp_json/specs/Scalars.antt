-- The text or the number that a value is (RFC 8259 section 3).
use Rattle.std.specs.Prelude.{ℕ, List, Option, Some, None}
use Rattle.usp_json.specs.declared.value.Json.{Json, out-Json}
use Rattle.usp_json.specs.declared.value.Json.TheOpen.{Json-F}
use Rattle.usp_json.specs.declared.value.Json.TheOpen as level
use Rattle.usp_json.specs.declared.value.Items.{Items}
use Rattle.usp_json.specs.declared.value.Members.{Members}

-- the text that a value is
abbrev pub level_text : Json-F Json Items Members → Option (List ℕ)
level_text (level.Str text) = Some text
level_text _ = None

abbrev pub text_in : Json → Option (List ℕ)
text_in value = level_text (out-Json value)

-- the spelling of the number that a value is
abbrev pub level_number : Json-F Json Items Members → Option (List ℕ)
level_number (level.Num spelled) = Some spelled
level_number _ = None

abbrev pub number_in : Json → Option (List ℕ)
number_in value = level_number (out-Json value)
