-- The members of an object as a list of pairs, each a name and its value (RFC 8259 section 4).
use Rattle.std.specs.Prelude.{◌≡◌, ℕ, List, [], ◌∷◌, length, Option, Some, None, if◌then◌else◌}
use Rattle.std.specs.List.{position, zip}
use Rattle.std.specs.Str.{bytes_eq}
use Rattle.usp_json.specs.declared.value.Json.{Json}
use Rattle.usp_json.specs.declared.value.Json.TheVariants.{List as Array, Obj}
use Rattle.usp_json.specs.declared.value.Json.TheViews.{roll-Members, roll-Items}
use Rattle.usp_json.specs.declared.value.Members.{Members}

abbrev pub entries : Members → List (List ℕ × Json)
entries members = zip members.names members.values

-- there are as many names as values
abbrev pub IsPaired : Members → Type 0
IsPaired members = length members.names ≡ length members.values

-- the value of the first member of that name
abbrev pub value_of : List ℕ → List (List ℕ × Json) → Option Json
value_of name [] = None
value_of name (entry ∷ more) = if bytes_eq entry.0 name then Some entry.1 else value_of name more

-- the place of the first name that is that one
abbrev pub place_of : List ℕ → List (List ℕ) → Option ℕ
place_of name names = position (λ other. bytes_eq other name) names

-- an object of those names and values, and the values that they and an array stand for
abbrev pub members_of : List (List ℕ) → List Json → Members
members_of names values = roll-Members (record { names = names; values = values })

abbrev pub object_of : List (List ℕ) → List Json → Json
object_of names values = Obj (members_of names values)

abbrev pub array_of : List Json → Json
array_of values = Array (roll-Items (record { values = values }))
