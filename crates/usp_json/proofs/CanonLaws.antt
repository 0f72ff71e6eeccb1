-- The canonical text spells what it is of.
use Rattle.std.proofs.Common.{◌≡◌, ◌≢◌, ℕ, ◌+◌, ◌-◌, ◌/◌, ◌%◌, ◌<◌, ◌≤◌, Bool, true, List, [], ◌∷◌, ◌++◌, length, map, Some, inl, inr, refl, sym, ap, ◌∙◌, subst, arith, suc, codes, append_assoc, append-nil, lt-ltb, le-ltb}
use Rattle.std.specs.List.{zip}
use Rattle.std.specs.Str.{IsUtf8}
use Rattle.std.specs.Char.{IsScalar}
use Rattle.std.proofs.lemmas.Bool.Decides.{eqb_tells}
use Rattle.std.proofs.lemmas.Bool.{and_parts, cases_lt}
use Rattle.std.proofs.lemmas.Str.{encode_ascii}
use lib.Utf8.{scalar, scalars, encode, encodes, low_scalar}
use Rattle.usp_json.specs.declared.value.Json.{Json}
use Rattle.usp_json.specs.declared.value.Json.TheVariants.{Null, Bool as Boolean, Num, Str, rolls-Null, rolls-Bool, rolls-Num, rolls-Str, rolls-List, rolls-Obj}
use Rattle.usp_json.specs.declared.value.Json.TheOpen as level
use Rattle.usp_json.specs.declared.value.Json.TheViews.{roll-Items}
use Rattle.usp_json.specs.declared.value.Json.TheFolds.{fold-roll-Json, fold-roll-Items, fold-roll-Members}
use Rattle.usp_json.specs.declared.value.Members.{Members}
use Rattle.usp_json.specs.Entries.{members_of, object_of, array_of}
use Rattle.usp_json.specs.Grammar.{hex_value, SpellsChar, plain, short, unit, SpellsChars, none as no_chars, more as more_chars, SpellsText}
use Rattle.usp_json.specs.Spells.{Limits, given, AreApart, word_of, Spells, null as spells_null, boolean as spells_boolean, number as spells_number, string as spells_string, array as spells_array, object as spells_object, SpellsArray, no_items, items, SpellsItems, last_item, more_items, SpellsPadded, padded, SpellsObject, no_members, members as some_members, SpellsMembers, last_member, more_members, SpellsMember, member, IsReadingWithin, IsReading}
use Rattle.usp_json.specs.Canon.{hex_digit, escape_of, escaped_text, canon_text, commas, member_of, canon, canon_members, canon_step, items_step, members_step}
use Rattle.usp_json.specs.Kept.{Keeps, null, boolean, number, string, array, object, KeepEach, none, more, KeepMembers, members, AreUtf8, no_names, more_names, KeepsWithin, KeepsLimits}
use Rattle.usp_json.proofs.CharLemmas.{between_true, between_high, differs, one, two_bytes, three_of, four_of, shape}

pub escaped_append : (xs ys : List ℕ) → escaped_text (xs ++ ys) ≡ escaped_text xs ++ escaped_text ys
escaped_append [] ys = refl
escaped_append (x ∷ xs) ys = ap (λ l. escape_of x ++ l) (escaped_append xs ys) ∙ sym (append_assoc (escape_of x) (escaped_text xs) (escaped_text ys))

pub own_byte : (b : ℕ) → 32 ≤ b → b ≢ 34 → b ≢ 92 → escape_of b ≡ b ∷ []
own_byte b l q s =
    rw (differs b 34 q, differs b 92 s, differs b 8 (λ e. omega arith), differs b 9 (λ e. omega arith), differs b 10 (λ e. omega arith), differs b 12 (λ e. omega arith), differs b 13 (λ e. omega arith), le-ltb b 32 l) refl

pub high_byte : (b : ℕ) → 128 ≤ b → escape_of b ≡ b ∷ []
high_byte b l = own_byte b (omega arith) (λ e. omega arith) (λ e. omega arith)

hex_digit_value : (d : ℕ) → d < 16 → hex_value (hex_digit d) ≡ Some d
hex_digit_value d h = elim (cases_lt d 10) [
  | inl low ↦
      let e : 48 + d - 48 ≡ d = omega arith in
      rw (lt-ltb d 10 low, between_true 48 57 (48 + d) (omega arith) (omega arith), e) refl
  | inr high ↦
      let e : 87 + d - 87 ≡ d = omega arith in
      rw (le-ltb d 10 high, between_high 48 57 (87 + d) (omega arith), between_true 97 102 (87 + d) (omega arith) (omega arith), e) refl
]

control : (c : ℕ) → c < 32 → SpellsChar c (92 ∷ 117 ∷ 48 ∷ 48 ∷ hex_digit (c / 16) ∷ hex_digit (c % 16) ∷ [])
control c h =
    unit (low_scalar c (omega arith))
    (record {
      a = 48;
      b = 48;
      c = hex_digit (c / 16);
      d = hex_digit (c % 16);
      w = 0;
      x = 0;
      y = c / 16;
      z = c % 16;
      first = refl;
      second = refl;
      third = hex_digit_value (c / 16) (omega arith);
      fourth = hex_digit_value (c % 16) (omega arith);
      value = omega arith;
      spelled = refl;
    })

low_char : (c : ℕ) → c < 128 → encode c ≡ c ∷ [] → SpellsChar c (escape_of c)
low_char c h e = elim (eqb_tells c 34) [
  | inl i ↦ rw i.1 (short 34 refl refl)
  | inr a ↦ elim (eqb_tells c 92) [
    | inl i ↦ rw i.1 (short 92 refl refl)
    | inr b ↦ elim (eqb_tells c 8) [
      | inl i ↦ rw i.1 (short 98 refl refl)
      | inr d ↦ elim (eqb_tells c 9) [
        | inl i ↦ rw i.1 (short 116 refl refl)
        | inr f ↦ elim (eqb_tells c 10) [
          | inl i ↦ rw i.1 (short 110 refl refl)
          | inr g ↦ elim (eqb_tells c 12) [
            | inl i ↦ rw i.1 (short 102 refl refl)
            | inr k ↦ elim (eqb_tells c 13) [
              | inl i ↦ rw i.1 (short 114 refl refl)
              | inr l ↦ elim (cases_lt c 32) [
                | inl low ↦ rw (a.0, b.0, d.0, f.0, g.0, k.0, l.0, lt-ltb c 32 low) (control c low)
                | inr high ↦ rw (own_byte c high a.1 b.1) (plain (low_scalar c (omega arith)) high a.1 b.1 (sym e))
              ]
            ]
          ]
        ]
      ]
    ]
  ]
]

-- a character as it stands
high_char : (c : ℕ) (bytes : List ℕ) → IsScalar c → encode c ≡ bytes → escaped_text bytes ≡ bytes → (c < 128 → ⊥) → SpellsChar c (escaped_text bytes)
high_char c bytes ok e same n = rw same (plain ok (elim (cases_lt c 128) [ inl l ↦ absurd (n l) | inr h ↦ omega arith ]) (λ k. n (omega arith)) (λ k. n (omega arith)) (sym e))

two_same : (a b : ℕ) → 128 ≤ a → 128 ≤ b → escaped_text (a ∷ b ∷ []) ≡ a ∷ b ∷ []
two_same a b l k = rw (high_byte a l, high_byte b k) refl

three_same : (a b d : ℕ) → 128 ≤ a → 128 ≤ b → 128 ≤ d → escaped_text (a ∷ b ∷ d ∷ []) ≡ a ∷ b ∷ d ∷ []
three_same a b d l k m = rw (high_byte a l, high_byte b k, high_byte d m) refl

four_same : (a b d e : ℕ) → 128 ≤ a → 128 ≤ b → 128 ≤ d → 128 ≤ e → escaped_text (a ∷ b ∷ d ∷ e ∷ []) ≡ a ∷ b ∷ d ∷ e ∷ []
four_same a b d e l k m n = rw (high_byte a l, high_byte b k, high_byte d m, high_byte e n) refl

ascii_only : (c : ℕ) → c < 128 → (bytes : List ℕ) → encode c ≡ bytes → c ∷ [] ≡ bytes
ascii_only c h bytes e = sym (encode_ascii c h) ∙ e

char_canon : (c : ℕ) → IsScalar c → SpellsChar c (escaped_text (encode c))
char_canon c ok = elim (cases_lt c 128) [
  | inl low ↦ elim (shape c ok) [
    | one h e ↦ rw e (subst (λ (l : List ℕ). SpellsChar c l) (sym (append-nil (escape_of c))) (low_char c low e))
    | two_bytes a b la ha lb hb e ↦ let k = ascii_only c low (a ∷ b ∷ []) e in cc k
    | three_of a b d la ha lb hb x y ld hd e ↦ let k = ascii_only c low (a ∷ b ∷ d ∷ []) e in cc k
    | four_of a b d f la ha lb hb x y ld hd lf hf e ↦ let k = ascii_only c low (a ∷ b ∷ d ∷ f ∷ []) e in cc k
  ]
  | inr high ↦ elim (shape c ok) [
    | one h e ↦ absurd (omega arith)
    | two_bytes a b la ha lb hb e ↦ rw e (high_char c (a ∷ b ∷ []) ok e (two_same a b (omega arith) lb) (λ l. omega arith))
    | three_of a b d la ha lb hb x y ld hd e ↦ rw e (high_char c (a ∷ b ∷ d ∷ []) ok e (three_same a b d (omega arith) lb ld) (λ l. omega arith))
    | four_of a b d f la ha lb hb x y ld hd lf hf e ↦ rw e (high_char c (a ∷ b ∷ d ∷ f ∷ []) ok e (four_same a b d f (omega arith) lb ld lf) (λ l. omega arith))
  ]
]

chars_canon : (cs : List ℕ) → scalars cs ≡ true → SpellsChars (encodes cs) (escaped_text (encodes cs))
chars_canon [] h = no_chars
chars_canon (c ∷ cs) h =
    let p = and_parts (scalar c) (scalars cs) h in
    more_chars c (encodes cs) (escaped_text (encode c)) (escaped_text (encodes cs)) (encode c ++ encodes cs) (escaped_text (encode c ++ encodes cs)) (char_canon c p.0) (chars_canon cs p.1) refl (escaped_append (encode c) (encodes cs))

pub text_canon : (bytes : List ℕ) → IsUtf8 bytes → SpellsText bytes (canon_text bytes)
text_canon bytes u = (escaped_text bytes, refl, subst (λ (l : List ℕ). SpellsChars l (escaped_text l)) u.1.1 (chars_canon u.0 u.1.0))

alone : (limits : Limits) (n : ℕ) (v : Json) (text : List ℕ) → Spells limits n v text → SpellsPadded limits n v text
alone limits n v text s = padded n v [] text [] text tt s tt (sym (append-nil text))

one_member : (limits : Limits) (n : ℕ) (name : List ℕ) (v : Json) (text : List ℕ) → IsUtf8 name → Spells limits n v text → SpellsMember limits n name v (member_of (name, text))
one_member limits n name v text u s = member n name v [] (canon_text name) [] text (member_of (name, text)) tt (text_canon name u) tt (alone limits n v text s) refl

-- the canonical text of each value spells it
data SpelledEach (limits : Limits) (n : ℕ) : List Json → Type 0 where
  nothing : SpelledEach limits n []
  also : (v : Json) (vs : List Json) → Spells limits n v (canon v) → SpelledEach limits n vs → SpelledEach limits n (v ∷ vs)

items_canon : (limits : Limits) (n : ℕ) (v : Json) → Spells limits n v (canon v) → (vs : List Json) → SpelledEach limits n vs → SpellsItems limits n (v ∷ vs) (commas (map canon (v ∷ vs)))
items_canon limits n v s _ nothing = last_item n v (canon v ++ []) (subst (λ (l : List ℕ). SpellsPadded limits n v l) (sym (append-nil (canon v))) (alone limits n v (canon v) s))
items_canon limits n v s _ (also w ws t ts) =
    more_items n v (w ∷ ws) (canon v) (commas (map canon (w ∷ ws))) (commas (map canon (v ∷ w ∷ ws))) (alone limits n v (canon v) s) (items_canon limits n w t ws ts) refl

array_canon : (limits : Limits) (n : ℕ) (values : List Json) → SpelledEach limits n values → SpellsArray limits n values (91 ∷ (commas (map canon values) ++ 93 ∷ []))
array_canon limits n _ nothing = no_items n [] [] (91 ∷ 93 ∷ []) refl tt refl
array_canon limits n _ (also v vs s ss) = items n (v ∷ vs) (commas (map canon (v ∷ vs))) (91 ∷ (commas (map canon (v ∷ vs)) ++ 93 ∷ [])) (items_canon limits n v s vs ss) refl

members_canon : (limits : Limits) (n : ℕ) (m : List ℕ) (u : IsUtf8 m) (names : List (List ℕ)) → AreUtf8 names → (v : Json) → Spells limits n v (canon v) → (values : List Json) → SpelledEach limits n values
    → length names ≡ length values → SpellsMembers limits n (m ∷ names) (v ∷ values) (commas (map member_of (zip (m ∷ names) (map canon (v ∷ values)))))
members_canon limits n m u _ no_names v s _ nothing same =
    last_member n m v (member_of (m, canon v) ++ []) (subst (λ (l : List ℕ). SpellsMember limits n m v l) (sym (append-nil (member_of (m, canon v)))) (one_member limits n m v (canon v) u s))
members_canon limits n m u _ no_names v s _ (also w ws t ts) same = absurd (omega arith)
members_canon limits n m u _ (more_names l ls x xs) v s _ nothing same = absurd (omega arith)
members_canon limits n m u _ (more_names l ls x xs) v s _ (also w ws t ts) same =
    more_members n m v (l ∷ ls) (w ∷ ws) (member_of (m, canon v)) (commas (map member_of (zip (l ∷ ls) (map canon (w ∷ ws))))) (commas (map member_of (zip (m ∷ l ∷ ls) (map canon (v ∷ w ∷ ws)))))
    (one_member limits n m v (canon v) u s) (members_canon limits n l x ls xs w t ws ts (omega arith)) refl

object_canon : (limits : Limits) (n : ℕ) (names : List (List ℕ)) (values : List Json) → length names ≡ length values → AreUtf8 names → AreApart limits [] names → length names ≤ limits.members → SpelledEach limits n values
    → SpellsObject limits n names values (123 ∷ (commas (map member_of (zip names (map canon values))) ++ 125 ∷ []))
object_canon limits n _ _ same no_names apart few nothing = no_members n [] [] [] (123 ∷ 125 ∷ []) refl refl tt refl
object_canon limits n _ _ same no_names apart few (also w ws t ts) = absurd (omega arith)
object_canon limits n _ _ same (more_names l ls x xs) apart few nothing = absurd (omega arith)
object_canon limits n _ _ same (more_names l ls x xs) apart few (also w ws t ts) =
    some_members n (l ∷ ls) (w ∷ ws) (commas (map member_of (zip (l ∷ ls) (map canon (w ∷ ws))))) (123 ∷ (commas (map member_of (zip (l ∷ ls) (map canon (w ∷ ws)))) ++ 125 ∷ []))
    (members_canon limits n l x ls xs w t ws ts (omega arith)) apart few refl

pub canon_null : canon Null ≡ codes "null"
canon_null = ap canon (sym rolls-Null) ∙ fold-roll-Json (List ℕ) (List ℕ) (List ℕ) canon_step items_step members_step level.Null

pub canon_boolean : (b : Bool) → canon (Boolean b) ≡ word_of b
canon_boolean b = ap canon (sym (rolls-Bool b)) ∙ fold-roll-Json (List ℕ) (List ℕ) (List ℕ) canon_step items_step members_step (level.Bool b)

pub canon_number : (text : List ℕ) → canon (Num text) ≡ text
canon_number text = ap canon (sym (rolls-Num text)) ∙ fold-roll-Json (List ℕ) (List ℕ) (List ℕ) canon_step items_step members_step (level.Num text)

pub canon_string : (bytes : List ℕ) → canon (Str bytes) ≡ canon_text bytes
canon_string bytes = ap canon (sym (rolls-Str bytes)) ∙ fold-roll-Json (List ℕ) (List ℕ) (List ℕ) canon_step items_step members_step (level.Str bytes)

pub canon_array : (values : List Json) → canon (array_of values) ≡ 91 ∷ (commas (map canon values) ++ 93 ∷ [])
canon_array values =
    let items = roll-Items (record { values = values }) in
    ap canon (sym (rolls-List items)) ∙ (fold-roll-Json (List ℕ) (List ℕ) (List ℕ) canon_step items_step members_step (level.List items)
    ∙ fold-roll-Items (List ℕ) (List ℕ) (List ℕ) canon_step items_step members_step (record { values = values }))

pub canon_of : (names : List (List ℕ)) (values : List Json) → canon_members (members_of names values) ≡ 123 ∷ (commas (map member_of (zip names (map canon values))) ++ 125 ∷ [])
canon_of names values = fold-roll-Members (List ℕ) (List ℕ) (List ℕ) canon_step items_step members_step (record { names = names; values = values })

pub canon_object : (names : List (List ℕ)) (values : List Json) → canon (object_of names values) ≡ 123 ∷ (commas (map member_of (zip names (map canon values))) ++ 125 ∷ [])
canon_object names values =
    ap canon (sym (rolls-Obj (members_of names values))) ∙ (fold-roll-Json (List ℕ) (List ℕ) (List ℕ) canon_step items_step members_step (level.Obj (members_of names values)) ∙ canon_of names values)

by_canon : (limits : Limits) (n : ℕ) (v w : Json) (text : List ℕ) → v ≡ w → canon w ≡ text → Spells limits n w text → Spells limits n v (canon v)
by_canon limits n v w text is e s = rw is (rw e s)

mutual
  value_canon : (limits : Limits) (n : ℕ) (v : Json) → Keeps limits n v → Spells limits n v (canon v)
  value_canon limits _ _ (null n v is) = by_canon limits n v Null (codes "null") is canon_null (spells_null n Null (codes "null") refl refl)
  value_canon limits _ _ (boolean n v b is) = by_canon limits n v (Boolean b) (word_of b) is (canon_boolean b) (spells_boolean n (Boolean b) (word_of b) b refl refl)
  value_canon limits _ _ (number n v text is k) = by_canon limits n v (Num text) text is (canon_number text) (spells_number n (Num text) text refl k)
  value_canon limits _ _ (string n v bytes is u) = by_canon limits n v (Str bytes) (canon_text bytes) is (canon_string bytes) (spells_string n (Str bytes) (canon_text bytes) bytes refl (text_canon bytes u))
  value_canon limits _ _ (array n v values is k) =
      by_canon limits (suc n) v (array_of values) (91 ∷ (commas (map canon values) ++ 93 ∷ [])) is (canon_array values)
      (spells_array n (array_of values) (91 ∷ (commas (map canon values) ++ 93 ∷ [])) values refl (array_canon limits n values (each_canon limits n values k)))
  value_canon limits _ _ (object n v names values is (members _ _ _ same u apart few k)) =
      by_canon limits (suc n) v (object_of names values) (123 ∷ (commas (map member_of (zip names (map canon values))) ++ 125 ∷ [])) is (canon_object names values)
      (spells_object n (object_of names values) (123 ∷ (commas (map member_of (zip names (map canon values))) ++ 125 ∷ [])) names values refl (object_canon limits n names values same u apart few (each_canon limits n values k)))

  each_canon : (limits : Limits) (n : ℕ) (values : List Json) → KeepEach limits n values → SpelledEach limits n values
  each_canon limits _ _ (none n) = nothing
  each_canon limits _ _ (more n v vs k ks) = also v vs (value_canon limits n v k) (each_canon limits n vs ks)

members_spelled : (limits : Limits) (n : ℕ) (names : List (List ℕ)) (values : List Json) → KeepMembers limits n names values
    → SpellsObject limits n names values (123 ∷ (commas (map member_of (zip names (map canon values))) ++ 125 ∷ []))
members_spelled limits _ _ _ (members n names values same u apart few k) = object_canon limits n names values same u apart few (each_canon limits n values k)

-- what is written reads back, within any limits that it keeps
pub reads_back_within : (limits : Limits) (m : Members) → KeepsWithin limits m → IsReadingWithin limits (canon_members m) m
reads_back_within limits m k =
    let text = canon_members m in
    let same : text ≡ 123 ∷ (commas (map member_of (zip k.names (map canon k.values))) ++ 125 ∷ []) = rw k.is (canon_of k.names k.values) in
    record {
      before = [];
      inner = text;
      after = [];
      begins = tt;
      names = k.names;
      values = k.values;
      is = k.is;
      spells = subst (λ (l : List ℕ). SpellsObject limits limits.levels k.names k.values l) (sym same) (members_spelled limits limits.levels k.names k.values k.kept);
      ends = tt;
      whole = sym (append-nil text);
    }

pub reads_back : (m : Members) → KeepsLimits m → IsReading (canon_members m) m
reads_back m k = reads_back_within given m k
