-- The canonical text is no longer than any other spelling.
use Rattle.std.proofs.Common.{◌≡◌, ◌≢◌, ℕ, ◌+◌, ◌-◌, ◌/◌, ◌%◌, ◌<◌, ◌≤◌, ◌==◌, nat_lt, Bool, true, false, List, [], ◌∷◌, ◌++◌, length, map, Option, Some, None, inl, inr, refl, ap, ◌∙◌, subst, arith, codes, append-nil, if◌then◌else◌}
use Rattle.std.specs.List.{zip}
use Rattle.std.specs.Char.{IsScalar}
use Rattle.std.proofs.lemmas.Bool.{cases_lt}
use Rattle.std.proofs.lemmas.List.{length-append}
use Rattle.std.proofs.lemmas.Str.{encode_ascii}
use lib.Utf8.{encode}
use Rattle.usp_json.specs.declared.value.Json.{Json}
use Rattle.usp_json.specs.declared.value.Json.TheVariants.{Null, Bool as Boolean, Num, Str}
use Rattle.usp_json.specs.declared.value.Members.{Members}
use Rattle.usp_json.specs.Entries.{object_of, array_of}
use Rattle.usp_json.specs.Grammar.{escaped, IsUnit, SpellsChar, plain, short, unit, pair, SpellsChars, none, more, SpellsText}
use Rattle.usp_json.specs.Spells.{Limits, given, word_of, Spells, null, boolean, number, string, array, object, SpellsArray, no_items, items, SpellsItems, last_item, more_items, SpellsPadded, padded, SpellsObject, no_members, members, SpellsMembers, last_member, more_members, SpellsMember, member, IsReading}
use Rattle.usp_json.specs.Canon.{hex_digit, escape_of, escaped_text, canon_text, behind, commas, member_of, canon, canon_members}
use Rattle.usp_json.proofs.CanonLaws.{escaped_append, own_byte, high_byte, canon_null, canon_boolean, canon_number, canon_string, canon_array, canon_of, canon_object}
use Rattle.usp_json.proofs.Sizes.{quoted, bracketed, behind_size, member_size}
use Rattle.usp_json.proofs.CharLemmas.{four, one, two_bytes, three_of, four_of, shape}

-- an escape has at most 6 bytes, and at most 2 where there is a short one
pick : (t : Bool) (x y : List ℕ) → length x ≤ 6 → length y ≤ 6 → length (if t then x else y) ≤ 6
pick true x y l r = l
pick false x y l r = r

within_six : (n : ℕ) (text : List ℕ) → length text ≡ n → n ≤ 6 → length text ≤ 6
within_six n text e l = rw e l

abbrev past_r : ℕ → List ℕ
past_r b = if nat_lt b 32 then 92 ∷ 117 ∷ 48 ∷ 48 ∷ hex_digit (b / 16) ∷ hex_digit (b % 16) ∷ [] else b ∷ []

past_r_size : (b : ℕ) → length (past_r b) ≤ 6
past_r_size b = pick (nat_lt b 32) (92 ∷ 117 ∷ 48 ∷ 48 ∷ hex_digit (b / 16) ∷ hex_digit (b % 16) ∷ []) (b ∷ []) (omega arith) (omega arith)

abbrev past_f : ℕ → List ℕ
past_f b = if b == 13 then codes "\\r" else past_r b

past_f_size : (b : ℕ) → length (past_f b) ≤ 6
past_f_size b = pick (b == 13) (codes "\\r") (past_r b) (within_six 2 (codes "\\r") refl (omega arith)) (past_r_size b)

abbrev past_n : ℕ → List ℕ
past_n b = if b == 12 then codes "\\f" else past_f b

past_n_size : (b : ℕ) → length (past_n b) ≤ 6
past_n_size b = pick (b == 12) (codes "\\f") (past_f b) (within_six 2 (codes "\\f") refl (omega arith)) (past_f_size b)

abbrev past_t : ℕ → List ℕ
past_t b = if b == 10 then codes "\\n" else past_n b

past_t_size : (b : ℕ) → length (past_t b) ≤ 6
past_t_size b = pick (b == 10) (codes "\\n") (past_n b) (within_six 2 (codes "\\n") refl (omega arith)) (past_n_size b)

abbrev past_b : ℕ → List ℕ
past_b b = if b == 9 then codes "\\t" else past_t b

past_b_size : (b : ℕ) → length (past_b b) ≤ 6
past_b_size b = pick (b == 9) (codes "\\t") (past_t b) (within_six 2 (codes "\\t") refl (omega arith)) (past_t_size b)

abbrev past_backslash : ℕ → List ℕ
past_backslash b = if b == 8 then codes "\\b" else past_b b

past_backslash_size : (b : ℕ) → length (past_backslash b) ≤ 6
past_backslash_size b = pick (b == 8) (codes "\\b") (past_b b) (within_six 2 (codes "\\b") refl (omega arith)) (past_b_size b)

abbrev past_quote : ℕ → List ℕ
past_quote b = if b == 92 then codes "\\\\" else past_backslash b

past_quote_size : (b : ℕ) → length (past_quote b) ≤ 6
past_quote_size b = pick (b == 92) (codes "\\\\") (past_backslash b) (within_six 2 (codes "\\\\") refl (omega arith)) (past_backslash_size b)

pub escape_size : (b : ℕ) → length (escape_of b) ≤ 6
escape_size b = pick (b == 34) (codes "\\\"") (past_quote b) (within_six 2 (codes "\\\"") refl (omega arith)) (past_quote_size b)

record IsShort (c : ℕ) : Type 0 where
  pub low : c < 128
  pub size : length (escape_of c) ≤ 2

short_at : (k n : ℕ) → length (escape_of k) ≡ n → n ≤ 2 → k < 128 → IsShort k
short_at k n e l h = record { low = h; size = rw e l }

kept : (t : Bool) (k : ℕ) (o : Option ℕ) (c : ℕ) → (if t then Some k else o) ≡ Some c → IsShort k → (o ≡ Some c → IsShort c) → IsShort c
kept true k o c h s r = let e : k ≡ c = cc in subst (λ (n : ℕ). IsShort n) e s
kept false k o c h s r = r h

is_short : (letter c : ℕ) → escaped letter ≡ Some c → IsShort c
is_short letter c h =
    kept (letter == 34) 34 _ c h (short_at 34 2 refl (omega arith) (omega arith)) (λ h. kept (letter == 92) 92 _ c h (short_at 92 2 refl (omega arith) (omega arith))
    (λ h. kept (letter == 47) 47 _ c h (short_at 47 1 refl (omega arith) (omega arith)) (λ h. kept (letter == 98) 8 _ c h (short_at 8 2 refl (omega arith) (omega arith))
    (λ h. kept (letter == 102) 12 _ c h (short_at 12 2 refl (omega arith) (omega arith)) (λ h. kept (letter == 110) 10 _ c h (short_at 10 2 refl (omega arith) (omega arith))
    (λ h. kept (letter == 114) 13 _ c h (short_at 13 2 refl (omega arith) (omega arith)) (λ h. kept (letter == 116) 9 None c h (short_at 9 2 refl (omega arith) (omega arith)) (λ h. cc))))))))

-- a character below 128 is its one byte, and one above is at most 4 bytes that stand as they are
low_size : (c n : ℕ) → c < 128 → length (escape_of c) ≤ n → length (escaped_text (encode c)) ≤ n
low_size c n low h =
    let e : escaped_text (encode c) ≡ escape_of c = ap escaped_text (encode_ascii c low) ∙ append-nil (escape_of c) in
    rw e h

record IsWide (bytes : List ℕ) : Type 0 where
  pub same : escaped_text bytes ≡ bytes
  pub size : length bytes ≤ 4

two_wide : (a b : ℕ) → 128 ≤ a → 128 ≤ b → IsWide (a ∷ b ∷ [])
two_wide a b l k = record { same = rw (high_byte a l, high_byte b k) refl; size = omega arith }

three_wide : (a b d : ℕ) → 128 ≤ a → 128 ≤ b → 128 ≤ d → IsWide (a ∷ b ∷ d ∷ [])
three_wide a b d l k m = record { same = rw (high_byte a l, high_byte b k, high_byte d m) refl; size = omega arith }

four_wide : (a b d e : ℕ) → 128 ≤ a → 128 ≤ b → 128 ≤ d → 128 ≤ e → IsWide (a ∷ b ∷ d ∷ e ∷ [])
four_wide a b d e l k m n = record { same = rw (high_byte a l, high_byte b k, high_byte d m, high_byte e n) refl; size = omega arith }

wide : (c : ℕ) → IsScalar c → 128 ≤ c → IsWide (encode c)
wide c ok high = elim (shape c ok) [
  | one h e ↦ absurd (omega arith)
  | two_bytes a b la ha lb hb e ↦ rw e (two_wide a b (omega arith) lb)
  | three_of a b d la ha lb hb x y ld hd e ↦ rw e (three_wide a b d (omega arith) lb ld)
  | four_of a b d f la ha lb hb x y ld hd lf hf e ↦ rw e (four_wide a b d f (omega arith) lb ld lf)
]

highest : (c : ℕ) → 65536 ≤ c → IsWide (encode c)
highest c h = rw (four c h) (four_wide (240 + c / 262144) (128 + c / 4096 % 64) (128 + c / 64 % 64) (128 + c % 64) (omega arith) (omega arith) (omega arith) (omega arith))

wide_size : (bytes text : List ℕ) → IsWide bytes → 4 ≤ length text → length (escaped_text bytes) ≤ length text
wide_size bytes text w h = let s = w.size in rw w.same (omega arith)

unit_size : (c : ℕ) (text : List ℕ) → IsUnit c text → length text ≡ 6
unit_size c text u = rw u.spelled refl

unit_short : (c : ℕ) (text : List ℕ) → IsScalar c → length text ≡ 6 → length (escaped_text (encode c)) ≤ length text
unit_short c text ok six = elim (cases_lt c 128) [
  | inl low ↦ rw six (low_size c 6 low (escape_size c))
  | inr high ↦ wide_size (encode c) text (wide c ok high) (omega arith)
]

plain_short : (c : ℕ) → IsScalar c → 32 ≤ c → c ≢ 34 → c ≢ 92 → length (escaped_text (encode c)) ≤ length (encode c)
plain_short c ok l q s = elim (cases_lt c 128) [
  | inl low ↦
      let own : length (escape_of c) ≤ 1 = rw (own_byte c l q s) (omega arith) in
      let e : length (encode c) ≡ 1 = rw (encode_ascii c low) refl in
      rw e (low_size c 1 low own)
  | inr high ↦ let w = wide c ok high in rw w.same (omega arith)
]

char_short : (c : ℕ) (text : List ℕ) → SpellsChar c text → length (escaped_text (encode c)) ≤ length text
char_short c text (plain ok l q s is) = rw is (plain_short c ok l q s)
char_short c text (short letter h is) = let s = is_short letter c h in rw is (low_size c 2 s.low s.size)
char_short c text (unit ok u) = unit_short c text ok (unit_size c text u)
char_short c text (pair high low front back lh hh ll hl value f b is) =
    let p = unit_size high front f in
    let e : length text ≡ length front + length back = rw is (length-append front back) in
    wide_size (encode c) text (highest c (omega arith)) (omega arith)

chars_short : (bytes text : List ℕ) → SpellsChars bytes text → length (escaped_text bytes) ≤ length text
chars_short _ _ none = omega arith
chars_short _ _ (more c bytes front back all text s rest is spelled) =
    let a = char_short c front s in
    let b = chars_short bytes back rest in
    let e : length (escaped_text all) ≡ length (escaped_text (encode c)) + length (escaped_text bytes)
    = rw is (ap length (escaped_append (encode c) bytes) ∙ length-append (escaped_text (encode c)) (escaped_text bytes)) in
    let f : length text ≡ length front + length back = rw spelled (length-append front back) in
    omega arith

text_short : (bytes text : List ℕ) → SpellsText bytes text → length (canon_text bytes) ≤ length text
text_short bytes text s =
    let h = chars_short bytes s.0 s.2 in
    let e : length text ≡ length s.0 + 2 = rw s.1 (quoted s.0) in
    let f = quoted (escaped_text bytes) in
    omega arith

-- the texts with commas between them are shorter than with a comma before each
commas_size : (texts : List (List ℕ)) → length (commas texts) ≤ length (behind texts) - 1
commas_size [] = omega arith
commas_size (text ∷ texts) = omega arith

abbrev object_text : List (List ℕ) → List Json → List ℕ
object_text names values = 123 ∷ (commas (map member_of (zip names (map canon values))) ++ 125 ∷ [])

by_canon : (v w : Json) (spelled text : List ℕ) → v ≡ w → canon w ≡ spelled → length spelled ≤ length text → length (canon v) ≤ length text
by_canon v w spelled text is e l = rw is (rw e l)

same_length : (xs ys : List ℕ) → ys ≡ xs → length xs ≤ length ys
same_length xs ys e = rw e (omega arith)

array_size : (texts : List (List ℕ)) (inner text : List ℕ) → length (behind texts) ≤ 1 + length inner → text ≡ 91 ∷ (inner ++ 93 ∷ []) → length (91 ∷ (commas texts ++ 93 ∷ [])) ≤ length text
array_size texts inner text h is =
    let c = commas_size texts in
    let e : length text ≡ length inner + 2 = rw is (bracketed 91 93 inner) in
    let f = bracketed 91 93 (commas texts) in
    omega arith

object_size : (texts : List (List ℕ)) (inner text : List ℕ) → length (behind texts) ≤ 1 + length inner → text ≡ 123 ∷ (inner ++ 125 ∷ []) → length (123 ∷ (commas texts ++ 125 ∷ [])) ≤ length text
object_size texts inner text h is =
    let c = commas_size texts in
    let e : length text ≡ length inner + 2 = rw is (bracketed 123 125 inner) in
    let f = bracketed 123 125 (commas texts) in
    omega arith

mutual
  value_short : (limits : Limits) (n : ℕ) (v : Json) (text : List ℕ) → Spells limits n v text → length (canon v) ≤ length text
  value_short limits _ _ _ (null n v text is e) = by_canon v Null (codes "null") text is canon_null (same_length (codes "null") text e)
  value_short limits _ _ _ (boolean n v text b is e) = by_canon v (Boolean b) (word_of b) text is (canon_boolean b) (same_length (word_of b) text e)
  value_short limits _ _ _ (number n v text is k) = by_canon v (Num text) text text is (canon_number text) (omega arith)
  value_short limits _ _ _ (string n v text bytes is s) = by_canon v (Str bytes) (canon_text bytes) text is (canon_string bytes) (text_short bytes text s)
  value_short limits _ _ _ (array n v text values is s) = by_canon v (array_of values) (91 ∷ (commas (map canon values) ++ 93 ∷ [])) text is (canon_array values) (array_short limits n values text s)
  value_short limits _ _ _ (object n v text names values is s) = by_canon v (object_of names values) (object_text names values) text is (canon_object names values) (object_short limits n names values text s)

  array_short : (limits : Limits) (n : ℕ) (values : List Json) (text : List ℕ) → SpellsArray limits n values text → length (91 ∷ (commas (map canon values) ++ 93 ∷ [])) ≤ length text
  array_short limits _ _ _ (no_items n values space text is s e) = rw is (array_size [] space text (omega arith) e)
  array_short limits _ _ _ (items n values inner text s e) = array_size (map canon values) inner text (items_short limits n values inner s) e

  items_short : (limits : Limits) (n : ℕ) (values : List Json) (text : List ℕ) → SpellsItems limits n values text → length (behind (map canon values)) ≤ 1 + length text
  items_short limits _ _ _ (last_item n v text s) =
      let h = padded_short limits n v text s in
      let e = behind_size (canon v) [] in
      omega arith
  items_short limits _ _ _ (more_items n v values front back text s rest is) =
      let h = padded_short limits n v front s in
      let k = items_short limits n values back rest in
      let e = behind_size (canon v) (map canon values) in
      let f : length text ≡ length front + length (44 ∷ back) = rw is (length-append front (44 ∷ back)) in
      omega arith

  padded_short : (limits : Limits) (n : ℕ) (v : Json) (text : List ℕ) → SpellsPadded limits n v text → length (canon v) ≤ length text
  padded_short limits _ _ _ (padded n v before inner after text b s a is) =
      let h = value_short limits n v inner s in
      let e : length text ≡ length before + length (inner ++ after) = rw is (length-append before (inner ++ after)) in
      let f = length-append inner after in
      omega arith

  object_short : (limits : Limits) (n : ℕ) (names : List (List ℕ)) (values : List Json) (text : List ℕ) → SpellsObject limits n names values text → length (object_text names values) ≤ length text
  object_short limits _ _ _ _ (no_members n names values space text is has s e) = rw is (object_size [] space text (omega arith) e)
  object_short limits _ _ _ _ (members n names values inner text s apart few e) = object_size (map member_of (zip names (map canon values))) inner text (members_short limits n names values inner s) e

  members_short : (limits : Limits) (n : ℕ) (names : List (List ℕ)) (values : List Json) (text : List ℕ) → SpellsMembers limits n names values text
      → length (behind (map member_of (zip names (map canon values)))) ≤ 1 + length text
  members_short limits _ _ _ _ (last_member n name v text s) =
      let h = member_short limits n name v text s in
      let e = behind_size (member_of (name, canon v)) [] in
      omega arith
  members_short limits _ _ _ _ (more_members n name v names values front back text s rest is) =
      let h = member_short limits n name v front s in
      let k = members_short limits n names values back rest in
      let e = behind_size (member_of (name, canon v)) (map member_of (zip names (map canon values))) in
      let f : length text ≡ length front + length (44 ∷ back) = rw is (length-append front (44 ∷ back)) in
      omega arith

  member_short : (limits : Limits) (n : ℕ) (name : List ℕ) (v : Json) (text : List ℕ) → SpellsMember limits n name v text → length (member_of (name, canon v)) ≤ length text
  member_short limits _ _ _ _ (member n name v before spelled after back text b s a p is) =
      let h = text_short name spelled s in
      let k = padded_short limits n v back p in
      let e = member_size name (canon v) in
      let f : length text ≡ length before + length (spelled ++ (after ++ 58 ∷ back)) = rw is (length-append before (spelled ++ (after ++ 58 ∷ back))) in
      let g = length-append spelled (after ++ 58 ∷ back) in
      let j = length-append after (58 ∷ back) in
      omega arith

-- the canonical text is no longer than the text that was read
pub no_longer : (text : List ℕ) (m : Members) → IsReading text m → length (canon_members m) ≤ length text
no_longer text m r =
    let h = object_short given given.levels r.names r.values r.inner r.spells in
    let e : length (canon_members m) ≡ length (object_text r.names r.values) = rw r.is (ap length (canon_of r.names r.values)) in
    let f : length text ≡ length r.before + length (r.inner ++ r.after) = rw r.whole (length-append r.before (r.inner ++ r.after)) in
    let g = length-append r.inner r.after in
    omega arith
