-- What a claim's value is (RFC 8259 section 3).
use Rattle.std.specs.Prelude.{ℕ, Bool, false, nat_le, List, length, take}
use Rattle.std.specs.Option.{option_map_or}
use Rattle.std.specs.Str.{bytes_eq}
use Rattle.usp_claims.specs.Table.{whole_in}
use Rattle.usp_claims.specs.declared.limits.TheConstants.{MAX_NUMBER}
use Rattle.usp_json.specs.Scalars.{text_in}
use Rattle.usp_json.specs.declared.value.Json.{Json}

-- the value is a text with which the path begins
abbrev pub begins : List ℕ → Json → Bool
begins path value = option_map_or (λ text. bytes_eq (take (length text) path) text) (text_in value) false

-- the value is a number that a claim may have, at most that
abbrev pub is_number_up_to : ℕ → Json → Bool
is_number_up_to most value = option_map_or (λ number. nat_le number most) (whole_in MAX_NUMBER value) false
