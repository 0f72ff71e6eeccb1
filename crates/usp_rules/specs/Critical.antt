-- The claims that must be understood: `cdnicrit` (RFC 9246 section 2.1.9).
use Rattle.std.specs.Prelude.{ℕ, Bool, false, not, ◌&&◌, ◌==◌, List, length, map, Option, count_by}
use Rattle.std.specs.List.{list_all, list_any, slice_split}
use Rattle.std.specs.Option.{option_map_or, unwrap_or}
use Rattle.std.specs.Str.{bytes_eq}
use Rattle.usp_base.specs.Blanks.{trim_blanks}
use Rattle.usp_claims.specs.Table.{claim, name_of, rows}
use Rattle.usp_ext.specs.Listed.{means_of}
use Rattle.usp_ext.specs.declared.kinds.Extension.{Extension}
use Rattle.usp_json.specs.declared.value.Json.{Json}
use Rattle.usp_json.specs.declared.value.Members.{Members}

-- `,`
abbrev pub comma : ℕ
comma = 44

-- the names of the list, which commas part, without the spaces and tabs at their ends
abbrev pub names_in : List ℕ → List (List ℕ)
names_in text = map trim_blanks (slice_split (λ b. b == comma) text)

-- the name stands once among these
abbrev pub stands_once : List ℕ → List (List ℕ) → Bool
stands_once name names = count_by (bytes_eq name) names == 1

-- the name is that of a claim of the standard
abbrev pub is_standard : List ℕ → Bool
is_standard name = list_any (λ row. bytes_eq (name_of row.name) name) rows

-- the test that is stored for the claim of that name answers yes
abbrev pub passes_test : List Extension → List ℕ → List ℕ → Option Json → Bool
passes_test extensions path name value =
    option_map_or (λ value. unwrap_or (means_of extensions name value path) false) value false

-- The name is not empty, stands once among these, is no claim of the standard, and is a claim of the token
-- whose test answers yes.
abbrev pub is_understood : List Extension → List ℕ → Members → List (List ℕ) → List ℕ → Bool
is_understood extensions path members names name =
    not (length name == 0)
    && (stands_once name names
    && (not (is_standard name) && passes_test extensions path name (claim name members)))

-- each name of the list is understood
abbrev pub are_understood : List Extension → List ℕ → Members → List (List ℕ) → Bool
are_understood extensions path members names =
    list_all (is_understood extensions path members names) names
