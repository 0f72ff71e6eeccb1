-- A claim set (RFC 7519 section 4) with one claim changed.
use Rattle.std.specs.Prelude.{ℕ, List, [], ◌∷◌, map, if◌then◌else◌}
use Rattle.std.specs.Str.{bytes_eq}
use Rattle.usp_json.specs.Entries.{entries, members_of, IsPaired}
use Rattle.usp_json.specs.Spells.{given, AreApart}
use Rattle.usp_json.specs.declared.value.Json.{Json}
use Rattle.usp_json.specs.declared.value.Members.{Members}
use Rattle.usp_claims.specs.Table.{name_of}
use Rattle.usp_claims.specs.declared.table.ClaimName.{ClaimName}

-- that value under that name: a name that is there keeps its place, and another goes last
abbrev pub with_entry : List ℕ → Json → List (List ℕ × Json) → List (List ℕ × Json)
with_entry name value [] = (name, value) ∷ []
with_entry name value (entry ∷ more) =
    if bytes_eq entry.0 name then (entry.0, value) ∷ more else entry ∷ with_entry name value more

abbrev pub of_entries : List (List ℕ × Json) → Members
of_entries entries = members_of (map (λ entry. entry.0) entries) (map (λ entry. entry.1) entries)

-- the members with that value for that claim
abbrev pub with_claim : ClaimName → Json → Members → Members
with_claim name value members = of_entries (with_entry (name_of name) value (entries members))

-- each name stands once, beside one value
pub record AreNamed (members : Members) : Type 0 where
  pub paired : IsPaired members
  pub apart : AreApart given [] members.names
