-- What is within the limits is within them with a member more.
use Rattle.std.proofs.Common.{◌≡◌, ℕ, false, List, [], ◌∷◌, ◌++◌, refl, arith, length-append}
use Rattle.std.specs.Str.{IsUtf8}
use Rattle.usp_json.proofs.GrowLaws.{apart_snoc}
use Rattle.usp_json.proofs.KeepLaws.{lists_kept, snoc_each, snoc_utf8}
use Rattle.usp_json.specs.declared.value.Json.{Json}
use Rattle.usp_json.specs.declared.value.Members.{Members}
use Rattle.usp_json.specs.Entries.{members_of}
use Rattle.usp_json.specs.Kept.{Keeps, null, boolean, number, string, array, object, KeepEach, none, more, KeepMembers, members, KeepsWithin, KeepsLimits}
use Rattle.usp_json.specs.Spells.{given, with_a_member_more, has_name, AreApart, Spells, null as spells_null, boolean as spells_boolean, number as spells_number, string as spells_string, array as spells_array, object as spells_object, SpellsArray, no_items, items, SpellsItems, last_item, more_items, SpellsPadded, padded, SpellsObject, no_members, members as some_members, SpellsMembers, last_member, more_members, SpellsMember, member, IsReading, IsReadingWithin}

apart_wider : (earlier names : List (List ℕ)) → AreApart given earlier names → AreApart with_a_member_more earlier names
apart_wider earlier [] a = tt
apart_wider earlier (n ∷ names) a = (a.0, apart_wider (earlier ++ n ∷ []) names a.1)

-- ---- spellings

mutual
  value_wider : (n : ℕ) (v : Json) (text : List ℕ) → Spells given n v text → Spells with_a_member_more n v text
  value_wider _ _ _ (spells_null n v text is e) = spells_null n v text is e
  value_wider _ _ _ (spells_boolean n v text b is e) = spells_boolean n v text b is e
  value_wider _ _ _ (spells_number n v text is k) = spells_number n v text is k
  value_wider _ _ _ (spells_string n v text bytes is s) = spells_string n v text bytes is s
  value_wider _ _ _ (spells_array n v text values is s) = spells_array n v text values is (array_wider n values text s)
  value_wider _ _ _ (spells_object n v text names values is s) = spells_object n v text names values is (object_wider n names values text s)

  array_wider : (n : ℕ) (values : List Json) (text : List ℕ) → SpellsArray given n values text → SpellsArray with_a_member_more n values text
  array_wider _ _ _ (no_items n values space text is s e) = no_items n values space text is s e
  array_wider _ _ _ (items n values inner text s e) = items n values inner text (items_wider n values inner s) e

  items_wider : (n : ℕ) (values : List Json) (text : List ℕ) → SpellsItems given n values text → SpellsItems with_a_member_more n values text
  items_wider _ _ _ (last_item n v text s) = last_item n v text (padded_wider n v text s)
  items_wider _ _ _ (more_items n v values front back text s rest e) = more_items n v values front back text (padded_wider n v front s) (items_wider n values back rest) e

  padded_wider : (n : ℕ) (v : Json) (text : List ℕ) → SpellsPadded given n v text → SpellsPadded with_a_member_more n v text
  padded_wider _ _ _ (padded n v before inner after text b s a e) = padded n v before inner after text b (value_wider n v inner s) a e

  object_wider : (n : ℕ) (names : List (List ℕ)) (values : List Json) (text : List ℕ) → SpellsObject given n names values text → SpellsObject with_a_member_more n names values text
  object_wider _ _ _ _ (no_members n names values space text is has s e) = no_members n names values space text is has s e
  object_wider _ _ _ _ (some_members n names values inner text s apart few e) =
      some_members n names values inner text (members_wider n names values inner s) (apart_wider [] names apart) (omega (arith, few)) e

  members_wider : (n : ℕ) (names : List (List ℕ)) (values : List Json) (text : List ℕ) → SpellsMembers given n names values text → SpellsMembers with_a_member_more n names values text
  members_wider _ _ _ _ (last_member n name v text s) = last_member n name v text (member_wider n name v text s)
  members_wider _ _ _ _ (more_members n name v names values front back text s rest e) =
      more_members n name v names values front back text (member_wider n name v front s) (members_wider n names values back rest) e

  member_wider : (n : ℕ) (name : List ℕ) (v : Json) (text : List ℕ) → SpellsMember given n name v text → SpellsMember with_a_member_more n name v text
  member_wider _ _ _ _ (member n name v before spelled after back text b s a p e) = member n name v before spelled after back text b s a (padded_wider n v back p) e

pub reading_wider : (text : List ℕ) (m : Members) → IsReading text m → IsReadingWithin with_a_member_more text m
reading_wider text m r = record {
  before = r.before;
  inner = r.inner;
  after = r.after;
  begins = r.begins;
  names = r.names;
  values = r.values;
  is = r.is;
  spells = object_wider given.levels r.names r.values r.inner r.spells;
  ends = r.ends;
  whole = r.whole;
}

-- ---- values

mutual
  kept_wider : (n : ℕ) (v : Json) → Keeps given n v → Keeps with_a_member_more n v
  kept_wider _ _ (null n v is) = null n v is
  kept_wider _ _ (boolean n v b is) = boolean n v b is
  kept_wider _ _ (number n v text is k) = number n v text is k
  kept_wider _ _ (string n v bytes is u) = string n v bytes is u
  kept_wider _ _ (array n v values is k) = array n v values is (each_wider n values k)
  kept_wider _ _ (object n v names values is k) = object n v names values is (lists_wider n names values k)

  each_wider : (n : ℕ) (values : List Json) → KeepEach given n values → KeepEach with_a_member_more n values
  each_wider _ _ (none n) = none n
  each_wider _ _ (more n v vs k ks) = more n v vs (kept_wider n v k) (each_wider n vs ks)

  lists_wider : (n : ℕ) (names : List (List ℕ)) (values : List Json) → KeepMembers given n names values → KeepMembers with_a_member_more n names values
  lists_wider _ _ _ (members n names values same u apart few k) = members n names values same u (apart_wider [] names apart) (omega (arith, few)) (each_wider n values k)

pub members_wider_kept : (m : Members) → KeepsLimits m → KeepsWithin with_a_member_more m
members_wider_kept m k = record { names = k.names; values = k.values; is = k.is; kept = lists_wider given.levels k.names k.values k.kept }

push_wider : (n : ℕ) (names : List (List ℕ)) (values : List Json) (name : List ℕ) (v : Json) → KeepMembers given n names values → Keeps given n v → IsUtf8 name → has_name name names ≡ false
    → KeepMembers with_a_member_more n (names ++ name ∷ []) (values ++ v ∷ [])
push_wider _ _ _ name v (members n names values same u apart few k) h utf8 fresh =
    members n (names ++ name ∷ []) (values ++ v ∷ []) (omega (arith, same, length-append names (name ∷ []), length-append values (v ∷ []))) (snoc_utf8 names name u utf8)
    (apart_wider [] (names ++ name ∷ []) (apart_snoc given [] names name apart fresh)) (omega (arith, few, length-append names (name ∷ []))) (each_wider n (values ++ v ∷ []) (snoc_each given n values v k h))

-- one member more is within the wider limits
pub pushed_wider : (names : List (List ℕ)) (values : List Json) (name : List ℕ) (v : Json) → KeepsLimits (members_of names values) → Keeps given given.levels v → IsUtf8 name → has_name name names ≡ false
    → KeepsWithin with_a_member_more (members_of (names ++ name ∷ []) (values ++ v ∷ []))
pushed_wider names values name v k h utf8 fresh =
    record { names = names ++ name ∷ []; values = values ++ v ∷ []; is = refl; kept = push_wider given.levels names values name v (lists_kept names values k) h utf8 fresh }
