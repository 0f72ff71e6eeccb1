-- The members that keep limits (RFC 8259 section 9): names apart, few members, few levels. Each number is one, and each
-- text is UTF-8, as their types promise.
use Rattle.std.specs.Prelude.{◌≡◌, ℕ, suc, ◌≤◌, Bool, List, [], ◌∷◌, length}
use Rattle.std.specs.Str.{IsUtf8}
use Rattle.usp_json.specs.declared.value.Json.{Json}
use Rattle.usp_json.specs.declared.value.Json.TheVariants.{Null, Bool as Boolean, Num, Str}
use Rattle.usp_json.specs.declared.value.Members.{Members}
use Rattle.usp_json.specs.Entries.{members_of, object_of, array_of}
use Rattle.usp_json.specs.Grammar.{IsNumber}
use Rattle.usp_json.specs.Spells.{Limits, given, AreApart}

pub data AreUtf8 : List (List ℕ) → Type 0 where
  no_names : AreUtf8 []
  more_names : (name : List ℕ) (names : List (List ℕ)) → IsUtf8 name → AreUtf8 names → AreUtf8 (name ∷ names)

-- The number is how many levels may stand inside.
mutual
  pub data Keeps (limits : Limits) : ℕ → Json → Type 0 where
    null : (n : ℕ) (value : Json) → value ≡ Null → Keeps limits n value
    boolean : (n : ℕ) (value : Json) (b : Bool) → value ≡ Boolean b → Keeps limits n value
    number : (n : ℕ) (value : Json) (text : List ℕ) → value ≡ Num text → IsNumber text → Keeps limits n value
    string : (n : ℕ) (value : Json) (bytes : List ℕ) → value ≡ Str bytes → IsUtf8 bytes → Keeps limits n value
    array : (n : ℕ) (value : Json) (values : List Json) → value ≡ array_of values → KeepEach limits n values
        → Keeps limits (suc n) value
    object : (n : ℕ) (value : Json) (names : List (List ℕ)) (values : List Json) → value ≡ object_of names values
        → KeepMembers limits n names values → Keeps limits (suc n) value

  pub data KeepEach (limits : Limits) : ℕ → List Json → Type 0 where
    none : (n : ℕ) → KeepEach limits n []
    more : (n : ℕ) (value : Json) (values : List Json) → Keeps limits n value → KeepEach limits n values
        → KeepEach limits n (value ∷ values)

  -- a value for each name; the names are UTF-8
  pub data KeepMembers (limits : Limits) : ℕ → List (List ℕ) → List Json → Type 0 where
    members : (n : ℕ) (names : List (List ℕ)) (values : List Json) → length names ≡ length values → AreUtf8 names
        → AreApart limits [] names → length names ≤ limits.members
        → KeepEach limits n values → KeepMembers limits n names values

-- members that keep those limits
pub record KeepsWithin (limits : Limits) (m : Members) : Type 0 where
  pub names : List (List ℕ)
  pub values : List Json
  pub is : m ≡ members_of names values
  pub kept : KeepMembers limits limits.levels names values

-- the limits of `read_members`
abbrev pub KeepsLimits : Members → Type 0
KeepsLimits = KeepsWithin given
