-- The spellings of JSON values (RFC 8259 sections 3 to 5), within limits.
use Rattle.std.specs.Prelude.{◌≡◌, ℕ, suc, ◌+◌, ◌-◌, ◌≤◌, ◌&&◌, ◌||◌, Bool, true, false, List, [], ◌∷◌, ◌++◌, codes, length, if◌then◌else◌}
use Rattle.std.specs.Str.{bytes_eq}
use Rattle.usp_json.specs.declared.limits.TheConstants.{MAX_LEVELS, MAX_MEMBERS}
use Rattle.usp_json.specs.declared.value.Json.{Json}
use Rattle.usp_json.specs.declared.value.Json.TheVariants.{Null, Bool as Boolean, Num, Str}
use Rattle.usp_json.specs.declared.value.Members.{Members}
use Rattle.usp_json.specs.Entries.{members_of, object_of, array_of}
use Rattle.usp_json.specs.Grammar.{IsSpace, IsNumber, SpellsText}
use Rattle.usp_json.specs.Signs.{value_separator, name_separator, begin_array, end_array, begin_object, end_object}

-- how many levels may stand inside the outermost object, how many members in each object, and whether its names must be
-- apart
pub record Limits : Type 0 where
  pub levels : ℕ
  pub members : ℕ
  pub distinct : Bool

-- the name is one of those
abbrev pub has_name : List ℕ → List (List ℕ) → Bool
has_name name [] = false
has_name name (other ∷ names) = bytes_eq other name || has_name name names

-- the name may stand behind those
abbrev pub IsFresh : Limits → List ℕ → List (List ℕ) → Type 0
IsFresh limits name earlier = (limits.distinct && has_name name earlier) ≡ false

-- each name may stand behind those and the names before it
abbrev pub AreApart : Limits → List (List ℕ) → List (List ℕ) → Type 0
AreApart limits earlier [] = Unit {0}
AreApart limits earlier (name ∷ names) = IsFresh limits name earlier × AreApart limits (earlier ++ name ∷ []) names

abbrev pub word_of : Bool → List ℕ
word_of b = if b then codes "true" else codes "false"

-- The number is how many levels may stand inside.
mutual
  -- a value (section 3)
  pub data Spells (limits : Limits) : ℕ → Json → List ℕ → Type 0 where
    null : (n : ℕ) (value : Json) (text : List ℕ) → value ≡ Null → text ≡ codes "null" → Spells limits n value text
    boolean : (n : ℕ) (value : Json) (text : List ℕ) (b : Bool) → value ≡ Boolean b → text ≡ word_of b
        → Spells limits n value text
    number : (n : ℕ) (value : Json) (text : List ℕ) → value ≡ Num text → IsNumber text → Spells limits n value text
    string : (n : ℕ) (value : Json) (text bytes : List ℕ) → value ≡ Str bytes → SpellsText bytes text
        → Spells limits n value text
    array : (n : ℕ) (value : Json) (text : List ℕ) (values : List Json) → value ≡ array_of values
        → SpellsArray limits n values text → Spells limits (suc n) value text
    object : (n : ℕ) (value : Json) (text : List ℕ) (names : List (List ℕ)) (values : List Json)
        → value ≡ object_of names values → SpellsObject limits n names values text
        → Spells limits (suc n) value text

  -- an array (section 5)
  pub data SpellsArray (limits : Limits) : ℕ → List Json → List ℕ → Type 0 where
    no_items : (n : ℕ) (values : List Json) (space text : List ℕ) → values ≡ [] → IsSpace space
        → text ≡ begin_array ∷ (space ++ end_array ∷ []) → SpellsArray limits n values text
    items : (n : ℕ) (values : List Json) (inner text : List ℕ) → SpellsItems limits n values inner
        → text ≡ begin_array ∷ (inner ++ end_array ∷ []) → SpellsArray limits n values text

  -- a value or more, with commas between them
  pub data SpellsItems (limits : Limits) : ℕ → List Json → List ℕ → Type 0 where
    last_item : (n : ℕ) (value : Json) (text : List ℕ) → SpellsPadded limits n value text
        → SpellsItems limits n (value ∷ []) text
    more_items : (n : ℕ) (value : Json) (values : List Json) (front back text : List ℕ)
        → SpellsPadded limits n value front → SpellsItems limits n values back
        → text ≡ front ++ value_separator ∷ back → SpellsItems limits n (value ∷ values) text

  -- a value with white space round it
  pub data SpellsPadded (limits : Limits) : ℕ → Json → List ℕ → Type 0 where
    padded : (n : ℕ) (value : Json) (before inner after text : List ℕ) → IsSpace before → Spells limits n value inner
        → IsSpace after
        → text ≡ before ++ (inner ++ after) → SpellsPadded limits n value text

  -- an object (section 4)
  pub data SpellsObject (limits : Limits) : ℕ → List (List ℕ) → List Json → List ℕ → Type 0 where
    no_members : (n : ℕ) (names : List (List ℕ)) (values : List Json) (space text : List ℕ) → names ≡ [] → values ≡ []
        → IsSpace space
        → text ≡ begin_object ∷ (space ++ end_object ∷ []) → SpellsObject limits n names values text
    members : (n : ℕ) (names : List (List ℕ)) (values : List Json) (inner text : List ℕ)
        → SpellsMembers limits n names values inner
        → AreApart limits [] names → length names ≤ limits.members → text ≡ begin_object ∷ (inner ++ end_object ∷ [])
        → SpellsObject limits n names values text

  -- a member or more, with commas between them
  pub data SpellsMembers (limits : Limits) : ℕ → List (List ℕ) → List Json → List ℕ → Type 0 where
    last_member : (n : ℕ) (name : List ℕ) (value : Json) (text : List ℕ) → SpellsMember limits n name value text
        → SpellsMembers limits n (name ∷ []) (value ∷ []) text
    more_members : (n : ℕ) (name : List ℕ) (value : Json) (names : List (List ℕ)) (values : List Json)
        (front back text : List ℕ) → SpellsMember limits n name value front
        → SpellsMembers limits n names values back → text ≡ front ++ value_separator ∷ back
        → SpellsMembers limits n (name ∷ names) (value ∷ values) text

  -- a name with white space round it, a colon and a value
  pub data SpellsMember (limits : Limits) : ℕ → List ℕ → Json → List ℕ → Type 0 where
    member : (n : ℕ) (name : List ℕ) (value : Json) (before spelled after back text : List ℕ) → IsSpace before
        → SpellsText name spelled → IsSpace after
        → SpellsPadded limits n value back → text ≡ before ++ (spelled ++ (after ++ name_separator ∷ back))
        → SpellsMember limits n name value text

-- the text of an object with white space round it
pub record IsReadingWithin (limits : Limits) (text : List ℕ) (members : Members) : Type 0 where
  pub before : List ℕ
  pub inner : List ℕ
  pub after : List ℕ
  pub begins : IsSpace before
  pub names : List (List ℕ)
  pub values : List Json
  pub is : members ≡ members_of names values
  pub spells : SpellsObject limits limits.levels names values inner
  pub ends : IsSpace after
  pub whole : text ≡ before ++ (inner ++ after)

-- some continuation makes it such a text
abbrev pub IsViableWithin : Limits → List ℕ → Type 0
IsViableWithin limits front = (rest : List ℕ) × (members : Members) × IsReadingWithin limits (front ++ rest) members

-- the limits of `read_members` (section 9): so many levels with the outermost object, so many members, names apart
abbrev pub given : Limits
given = record { levels = MAX_LEVELS - 1; members = MAX_MEMBERS; distinct = true }

abbrev pub IsReading : List ℕ → Members → Type 0
IsReading = IsReadingWithin given

abbrev pub IsViable : List ℕ → Type 0
IsViable = IsViableWithin given

-- the same with a level more, with a member more, and with equal names
abbrev pub with_a_level_more : Limits
with_a_level_more = record { levels = MAX_LEVELS; members = MAX_MEMBERS; distinct = true }

abbrev pub with_a_member_more : Limits
with_a_member_more = record { levels = MAX_LEVELS - 1; members = MAX_MEMBERS + 1; distinct = true }

abbrev pub with_equal_names : Limits
with_equal_names = record { levels = MAX_LEVELS - 1; members = MAX_MEMBERS; distinct = false }
