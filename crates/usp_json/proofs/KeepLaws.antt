-- What was read keeps the limits, and so does what is changed within them.
use Rattle.std.proofs.Common.{◌≡◌, ℕ, zero, suc, ◌<◌, false, List, [], ◌∷◌, ◌++◌, length, set, refl, sym, ap, ◌∙◌, arith, length-append, length-set}
use Rattle.std.specs.Str.{IsUtf8}
use Rattle.usp_json.specs.declared.value.Json.{Json}
use Rattle.usp_json.specs.declared.value.Members.{Members}
use Rattle.usp_json.specs.Entries.{members_of}
use Rattle.usp_json.specs.Spells.{Limits, given, has_name, Spells, null as spells_null, boolean as spells_boolean, number as spells_number, string as spells_string, array as spells_array, object as spells_object, SpellsArray, no_items, items, SpellsItems, last_item, more_items, SpellsPadded, padded, SpellsObject, no_members, members as some_members, SpellsMembers, last_member, more_members, SpellsMember, member, IsReadingWithin, IsReading}
use Rattle.usp_json.specs.Kept.{Keeps, null, boolean, number, string, array, object, KeepEach, none, more, KeepMembers, members, AreUtf8, no_names, more_names, KeepsWithin, KeepsLimits}
use Rattle.usp_json.proofs.GrowLaws.{apart_snoc}
use Rattle.usp_json.proofs.PieceLaws.{chars_utf8}

-- a value for each name, the names UTF-8, the values within the limits
record AreKept (limits : Limits) (n : ℕ) (names : List (List ℕ)) (values : List Json) : Type 0 where
  paired : length names ≡ length values
  utf8 : AreUtf8 names
  each : KeepEach limits n values

no_more : (limits : Limits) (n : ℕ) (names : List (List ℕ)) (values : List Json) → names ≡ [] → values ≡ [] → KeepMembers limits n names values
no_more limits n names values h k = rw (h, k) (members n [] [] refl no_names tt (omega arith) (none n))

mutual
  value_kept : (limits : Limits) (n : ℕ) (v : Json) (text : List ℕ) → Spells limits n v text → Keeps limits n v
  value_kept limits _ _ _ (spells_null n v text is e) = null n v is
  value_kept limits _ _ _ (spells_boolean n v text b is e) = boolean n v b is
  value_kept limits _ _ _ (spells_number n v text is k) = number n v text is k
  value_kept limits _ _ _ (spells_string n v text bytes is s) = string n v bytes is (chars_utf8 bytes s.0 s.2)
  value_kept limits _ _ _ (spells_array n v text values is s) = array n v values is (array_kept limits n values text s)
  value_kept limits _ _ _ (spells_object n v text names values is s) = object n v names values is (object_kept limits n names values text s)

  array_kept : (limits : Limits) (n : ℕ) (values : List Json) (text : List ℕ) → SpellsArray limits n values text → KeepEach limits n values
  array_kept limits _ _ _ (no_items n values space text is s e) = rw is (none n)
  array_kept limits _ _ _ (items n values inner text s e) = items_kept limits n values inner s

  items_kept : (limits : Limits) (n : ℕ) (values : List Json) (text : List ℕ) → SpellsItems limits n values text → KeepEach limits n values
  items_kept limits _ _ _ (last_item n v text s) = more n v [] (padded_kept limits n v text s) (none n)
  items_kept limits _ _ _ (more_items n v values front back text s rest e) = more n v values (padded_kept limits n v front s) (items_kept limits n values back rest)

  padded_kept : (limits : Limits) (n : ℕ) (v : Json) (text : List ℕ) → SpellsPadded limits n v text → Keeps limits n v
  padded_kept limits _ _ _ (padded n v before inner after text b s a e) = value_kept limits n v inner s

  object_kept : (limits : Limits) (n : ℕ) (names : List (List ℕ)) (values : List Json) (text : List ℕ) → SpellsObject limits n names values text → KeepMembers limits n names values
  object_kept limits _ _ _ _ (no_members n names values space text is has s e) = no_more limits n names values is has
  object_kept limits _ _ _ _ (some_members n names values inner text s apart few e) =
      let k = members_kept limits n names values inner s in
      members n names values k.paired k.utf8 apart few k.each

  members_kept : (limits : Limits) (n : ℕ) (names : List (List ℕ)) (values : List Json) (text : List ℕ) → SpellsMembers limits n names values text → AreKept limits n names values
  members_kept limits _ _ _ _ (last_member n name v text s) =
      let k = member_kept limits n name v text s in
      record { paired = refl; utf8 = more_names name [] k.0 no_names; each = more n v [] k.1 (none n) }
  members_kept limits _ _ _ _ (more_members n name v names values front back text s rest e) =
      let k = member_kept limits n name v front s in
      let r = members_kept limits n names values back rest in
      record { paired = ap suc r.paired; utf8 = more_names name names k.0 r.utf8; each = more n v values k.1 r.each }

  member_kept : (limits : Limits) (n : ℕ) (name : List ℕ) (v : Json) (text : List ℕ) → SpellsMember limits n name v text → IsUtf8 name × Keeps limits n v
  member_kept limits _ _ _ _ (member n name v before spelled after back text b s a p e) = (chars_utf8 name s.0 s.2, padded_kept limits n v back p)

-- what was read keeps the limits
pub reading_keeps_within : (limits : Limits) (text : List ℕ) (m : Members) → IsReadingWithin limits text m → KeepsWithin limits m
reading_keeps_within limits text m r = record { names = r.names; values = r.values; is = r.is; kept = object_kept limits limits.levels r.names r.values r.inner r.spells }

pub reading_keeps : (text : List ℕ) (m : Members) → IsReading text m → KeepsLimits m
reading_keeps text m r = reading_keeps_within given text m r

-- a value in the place of another
set_each : (limits : Limits) (n : ℕ) (values : List Json) (place : ℕ) (v : Json) → KeepEach limits n values → Keeps limits n v → KeepEach limits n (set values place v)
set_each limits _ _ place v (none n) k = none n
set_each limits _ _ zero v (more n w ws h hs) k = more n v ws k hs
set_each limits _ _ (suc place) v (more n w ws h hs) k = more n w (set ws place v) h (set_each limits n ws place v hs k)

set_members : (limits : Limits) (n : ℕ) (names : List (List ℕ)) (values : List Json) (place : ℕ) (v : Json) → KeepMembers limits n names values → Keeps limits n v → KeepMembers limits n names (set values place v)
set_members limits _ _ _ place v (members n names values same u apart few k) h = members n names (set values place v) (same ∙ sym (length-set values place v)) u apart few (set_each limits n values place v k h)

-- a member behind the others
pub snoc_each : (limits : Limits) (n : ℕ) (values : List Json) (v : Json) → KeepEach limits n values → Keeps limits n v → KeepEach limits n (values ++ v ∷ [])
snoc_each limits _ _ v (none n) k = more n v [] k (none n)
snoc_each limits _ _ v (more n w ws h hs) k = more n w (ws ++ v ∷ []) h (snoc_each limits n ws v hs k)

pub snoc_utf8 : (names : List (List ℕ)) (name : List ℕ) → AreUtf8 names → IsUtf8 name → AreUtf8 (names ++ name ∷ [])
snoc_utf8 _ name no_names h = more_names name [] h no_names
snoc_utf8 _ name (more_names other names u us) h = more_names other (names ++ name ∷ []) u (snoc_utf8 names name us h)

push_members : (n : ℕ) (names : List (List ℕ)) (values : List Json) (name : List ℕ) (v : Json) → KeepMembers given n names values → Keeps given n v → IsUtf8 name → has_name name names ≡ false → length names < given.members
    → KeepMembers given n (names ++ name ∷ []) (values ++ v ∷ [])
push_members _ _ _ name v (members n names values same u apart few k) h utf8 fresh room =
    members n (names ++ name ∷ []) (values ++ v ∷ []) (omega (arith, same, length-append names (name ∷ []), length-append values (v ∷ []))) (snoc_utf8 names name u utf8)
    (apart_snoc given [] names name apart fresh) (omega (arith, length-append names (name ∷ []))) (snoc_each given n values v k h)

-- the lists of members within the limits
pub lists_kept : (names : List (List ℕ)) (values : List Json) → KeepsLimits (members_of names values) → KeepMembers given given.levels names values
lists_kept names values k =
    let e : names ≡ k.names = ap (λ (m : Members). m.names) k.is in
    let f : values ≡ k.values = ap (λ (m : Members). m.values) k.is in
    rw (e, f) k.kept

pub set_keeps : (names : List (List ℕ)) (values : List Json) (place : ℕ) (v : Json) → KeepsLimits (members_of names values) → Keeps given given.levels v → KeepsLimits (members_of names (set values place v))
set_keeps names values place v k h = record { names = names; values = set values place v; is = refl; kept = set_members given given.levels names values place v (lists_kept names values k) h }

pub push_keeps : (names : List (List ℕ)) (values : List Json) (name : List ℕ) (v : Json) → KeepsLimits (members_of names values) → Keeps given given.levels v → IsUtf8 name → has_name name names ≡ false → length names < given.members
    → KeepsLimits (members_of (names ++ name ∷ []) (values ++ v ∷ []))
push_keeps names values name v k h utf8 fresh room =
    record { names = names ++ name ∷ []; values = values ++ v ∷ []; is = refl; kept = push_members given.levels names values name v (lists_kept names values k) h utf8 fresh room }
