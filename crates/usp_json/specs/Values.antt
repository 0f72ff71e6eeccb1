-- Texts and lists of texts among the values (RFC 8259 sections 3 and 5).
use Rattle.std.specs.Prelude.{ℕ, Bool, false, List}
use Rattle.std.specs.List.{list_all, list_any}
use Rattle.std.specs.Option.{is_some, option_map_or}
use Rattle.std.specs.Str.{bytes_eq}
use Rattle.usp_json.specs.declared.value.Json.{Json, out-Json}
use Rattle.usp_json.specs.declared.value.Json.TheOpen.{Json-F}
use Rattle.usp_json.specs.declared.value.Json.TheOpen as level
use Rattle.usp_json.specs.declared.value.Items.{Items}
use Rattle.usp_json.specs.declared.value.Members.{Members}
use Rattle.usp_json.specs.Scalars.{text_in}

-- the value is a text
abbrev pub is_text : Json → Bool
is_text value = is_some (text_in value)

-- the value is this text
abbrev pub is_this : List ℕ → Json → Bool
is_this text value = option_map_or (λ other. bytes_eq other text) (text_in value) false

-- the value is a list of texts
abbrev pub level_is_texts : Json-F Json Items Members → Bool
level_is_texts (level.List items) = list_all is_text items.values
level_is_texts _ = false

abbrev pub is_texts : Json → Bool
is_texts value = level_is_texts (out-Json value)

-- the value is a list that has this text
abbrev pub level_lists : List ℕ → Json-F Json Items Members → Bool
level_lists text (level.List items) = list_any (is_this text) items.values
level_lists text _ = false

abbrev pub lists : List ℕ → Json → Bool
lists text value = level_lists text (out-Json value)
