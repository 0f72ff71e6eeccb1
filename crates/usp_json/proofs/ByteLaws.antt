-- What is read as JSON is bytes.
use Rattle.std.proofs.Common.{◌≡◌, ℕ, zero, suc, ◌-◌, ◌<◌, ◌==◌, ◌&&◌, Bool, true, false, cond, codes, List, [], ◌∷◌, ◌++◌, Option, Some, None, inl, inr, refl, sym, subst, arith}
use Rattle.std.specs.Prelude.{nat_le, nat_lt}
use Rattle.std.specs.Char.{IsScalar}
use Rattle.std.specs.List.{list_all}
use Rattle.std.specs.Str.{IsAscii}
use Rattle.std.proofs.lemmas.Bool.{and_parts}
use Rattle.std.proofs.lemmas.Bool.Decides.{nat_tests}
use Rattle.std.proofs.lemmas.Str.Ascii.{IsAscii-nil, IsAscii-cons}
use lib.Utf8.{encode}
use Rattle.usp_json.specs.declared.value.Json.{Json}
use Rattle.usp_json.specs.declared.value.Members.{Members}
use Rattle.usp_base.specs.Numbers.{is_digit}
use Rattle.usp_json.specs.Grammar.{Each, IsBytes, is_space, IsSpace, AreDigits, IsMinus, IsWhole, IsFraction, is_mark, is_sign, IsSigned, IsExponent, IsNumber, hex_value, IsUnit, escaped, SpellsChar, plain, short, unit, pair, SpellsChars, none, more, SpellsText}
use Rattle.usp_json.specs.Spells.{Limits, word_of, Spells, null, boolean, number, string, array, object, SpellsArray, no_items, items, SpellsItems, last_item, more_items, SpellsPadded, padded, SpellsObject, no_members, members, SpellsMembers, last_member, more_members, SpellsMember, member, IsReadingWithin}
use Rattle.usp_json.proofs.CharLemmas.{one, two_bytes, three_of, four_of, shape}

-- ---- texts

bytes_nil : IsBytes []
bytes_nil i = omega arith

bytes_cons : (c : ℕ) (text : List ℕ) → c < 256 → IsBytes text → IsBytes (c ∷ text)
bytes_cons c text h k zero = h
bytes_cons c text h k (suc i) = k i

bytes_joined : (a b : List ℕ) → IsBytes a → IsBytes b → IsBytes (a ++ b)
bytes_joined [] b h k = k
bytes_joined (x ∷ a) b h k = bytes_cons x (a ++ b) (h 0) (bytes_joined a b (λ i. h (suc i)) k)

bytes_same : (a b : List ℕ) → a ≡ b → IsBytes b → IsBytes a
bytes_same a b is h = subst IsBytes (sym is) h

below_128 : (c : ℕ) → nat_lt c 128 ≡ true → c < 128
below_128 c e = grind (arith, nat_tests)

pub tested_ascii : (text : List ℕ) → list_all (λ c. nat_lt c 128) text ≡ true → IsAscii text
tested_ascii [] e = IsAscii-nil
tested_ascii (c ∷ rest) e =
    let first = and_parts (nat_lt c 128) (list_all (λ c. nat_lt c 128) rest) e in
    IsAscii-cons c rest (below_128 c first.0) (tested_ascii rest first.1)

ascii_bytes : (text : List ℕ) → IsAscii text → IsBytes text
ascii_bytes text h i = let low = h i in omega (arith, low)

each_bytes : (test : ℕ → Bool) → ((c : ℕ) → test c ≡ true → c < 256) → (text : List ℕ) → Each test text → IsBytes text
each_bytes test low [] h = bytes_nil
each_bytes test low (c ∷ rest) h = bytes_cons c rest (low c h.0) (each_bytes test low rest h.1)

-- between two marks
bytes_between : (l r : ℕ) (inner text : List ℕ) → l < 256 → r < 256 → text ≡ l ∷ (inner ++ r ∷ []) → IsBytes inner → IsBytes text
bytes_between l r inner text low high is h =
    bytes_same text (l ∷ (inner ++ r ∷ [])) is (bytes_cons l (inner ++ r ∷ []) low (bytes_joined inner (r ∷ []) h (bytes_cons r [] high bytes_nil)))

-- with a comma between
bytes_comma : (front back text : List ℕ) → text ≡ front ++ 44 ∷ back → IsBytes front → IsBytes back → IsBytes text
bytes_comma front back text is h k = bytes_same text (front ++ 44 ∷ back) is (bytes_joined front (44 ∷ back) h (bytes_cons 44 back (omega arith) k))

-- ---- spaces, digits and numbers

space_low : (c : ℕ) → is_space c ≡ true → c < 256
space_low c e = grind (arith, nat_tests)

digit_low : (c : ℕ) → is_digit c ≡ true → c < 256
digit_low c e = grind (arith, nat_tests)

mark_low : (c : ℕ) → is_mark c ≡ true → c < 256
mark_low c e = grind (arith, nat_tests)

sign_low : (c : ℕ) → is_sign c ≡ true → c < 256
sign_low c e = grind (arith, nat_tests)

space_bytes : (text : List ℕ) → IsSpace text → IsBytes text
space_bytes text h = each_bytes is_space space_low text h

digits_bytes : (text : List ℕ) → AreDigits text → IsBytes text
digits_bytes text h = each_bytes is_digit digit_low text h.1

minus_bytes : (text : List ℕ) → IsMinus text → IsBytes text
minus_bytes text (inl is) = bytes_same text [] is bytes_nil
minus_bytes text (inr is) = bytes_same text (45 ∷ []) is (bytes_cons 45 [] (omega arith) bytes_nil)

whole_bytes : (text : List ℕ) → IsWhole text → IsBytes text
whole_bytes text (inl is) = bytes_same text (48 ∷ []) is (bytes_cons 48 [] (omega arith) bytes_nil)
whole_bytes text (inr h) = bytes_same text (h.0 ∷ h.1) h.2 (bytes_cons h.0 h.1 (digit_low h.0 h.3) (each_bytes is_digit digit_low h.1 h.5))

fraction_bytes : (text : List ℕ) → IsFraction text → IsBytes text
fraction_bytes text (inl is) = bytes_same text [] is bytes_nil
fraction_bytes text (inr h) = bytes_same text (46 ∷ h.0) h.1 (bytes_cons 46 h.0 (omega arith) (digits_bytes h.0 h.2))

signed_bytes : (text : List ℕ) → IsSigned text → IsBytes text
signed_bytes text (inl is) = bytes_same text [] is bytes_nil
signed_bytes text (inr h) = bytes_same text (h.0 ∷ []) h.1 (bytes_cons h.0 [] (sign_low h.0 h.2) bytes_nil)

exponent_bytes : (text : List ℕ) → IsExponent text → IsBytes text
exponent_bytes text (inl is) = bytes_same text [] is bytes_nil
exponent_bytes text (inr h) =
    bytes_same text (h.0 ∷ (h.1 ++ h.2)) h.5 (bytes_cons h.0 (h.1 ++ h.2) (mark_low h.0 h.3) (bytes_joined h.1 h.2 (signed_bytes h.1 h.4) (digits_bytes h.2 h.6)))

number_bytes : (text : List ℕ) → IsNumber text → IsBytes text
number_bytes text k =
    let d = k.is_decimal in
    let i = d.is_integer in
    let integer : IsBytes d.integer = bytes_same d.integer (i.minus ++ i.whole) i.spelled (bytes_joined i.minus i.whole (minus_bytes i.minus i.is_minus) (whole_bytes i.whole i.is_whole)) in
    let decimal : IsBytes k.decimal = bytes_same k.decimal (d.integer ++ d.fraction) d.spelled (bytes_joined d.integer d.fraction integer (fraction_bytes d.fraction d.is_fraction)) in
    bytes_same text (k.decimal ++ k.exponent) k.spelled (bytes_joined k.decimal k.exponent decimal (exponent_bytes k.exponent k.is_exponent))

-- ---- characters

pick_low : (t : Bool) (x : ℕ) (o : Option ℕ) (b w : ℕ) → cond t (Some x) o ≡ Some w → (t ≡ true → b < 256) → (o ≡ Some w → b < 256) → b < 256
pick_low true x o b w h hit rest = hit refl
pick_low false x o b w h hit rest = rest h

range_low : (l m b : ℕ) → m < 256 → (nat_le l b && nat_le b m) ≡ true → b < 256
range_low l m b h e = grind (arith, nat_tests)

same_low : (k b : ℕ) → k < 256 → (b == k) ≡ true → b < 256
same_low k b h e = grind (arith, nat_tests)

none_low : (b w : ℕ) → None ≡ Some w → b < 256
none_low b w h = cc

hex_low : (b w : ℕ) → hex_value b ≡ Some w → b < 256
hex_low b w h =
    pick_low (nat_le 48 b && nat_le b 57) (b - 48) _ b w h (range_low 48 57 b (omega arith))
    (λ h. pick_low (nat_le 97 b && nat_le b 102) (b - 87) _ b w h (range_low 97 102 b (omega arith))
    (λ h. pick_low (nat_le 65 b && nat_le b 70) (b - 55) None b w h (range_low 65 70 b (omega arith)) (none_low b w)))

letter_low : (b c : ℕ) → escaped b ≡ Some c → b < 256
letter_low b c h =
    pick_low (b == 34) 34 _ b c h (same_low 34 b (omega arith)) (λ h. pick_low (b == 92) 92 _ b c h (same_low 92 b (omega arith))
    (λ h. pick_low (b == 47) 47 _ b c h (same_low 47 b (omega arith)) (λ h. pick_low (b == 98) 8 _ b c h (same_low 98 b (omega arith))
    (λ h. pick_low (b == 102) 12 _ b c h (same_low 102 b (omega arith)) (λ h. pick_low (b == 110) 10 _ b c h (same_low 110 b (omega arith))
    (λ h. pick_low (b == 114) 13 _ b c h (same_low 114 b (omega arith)) (λ h. pick_low (b == 116) 9 None b c h (same_low 116 b (omega arith)) (none_low b c))))))))

encoded_bytes : (c : ℕ) → IsScalar c → IsBytes (encode c)
encoded_bytes c ok = elim (shape c ok) [
  | one h e ↦ bytes_same (encode c) (c ∷ []) e (bytes_cons c [] (omega (arith, h)) bytes_nil)
  | two_bytes a b la ha lb hb e ↦ bytes_same (encode c) (a ∷ b ∷ []) e (bytes_cons a (b ∷ []) (omega (arith, ha)) (bytes_cons b [] (omega (arith, hb)) bytes_nil))
  | three_of a b d la ha lb hb x y ld hd e ↦
      bytes_same (encode c) (a ∷ b ∷ d ∷ []) e (bytes_cons a (b ∷ d ∷ []) (omega (arith, ha)) (bytes_cons b (d ∷ []) (omega (arith, hb)) (bytes_cons d [] (omega (arith, hd)) bytes_nil)))
  | four_of a b d f la ha lb hb x y ld hd lf hf e ↦
      bytes_same (encode c) (a ∷ b ∷ d ∷ f ∷ []) e
      (bytes_cons a (b ∷ d ∷ f ∷ []) (omega (arith, ha)) (bytes_cons b (d ∷ f ∷ []) (omega (arith, hb)) (bytes_cons d (f ∷ []) (omega (arith, hd)) (bytes_cons f [] (omega (arith, hf)) bytes_nil))))
]

unit_bytes : (c : ℕ) (text : List ℕ) → IsUnit c text → IsBytes text
unit_bytes c text u =
    bytes_same text (92 ∷ 117 ∷ u.a ∷ u.b ∷ u.c ∷ u.d ∷ []) u.spelled
    (bytes_cons 92 (117 ∷ u.a ∷ u.b ∷ u.c ∷ u.d ∷ []) (omega arith) (bytes_cons 117 (u.a ∷ u.b ∷ u.c ∷ u.d ∷ []) (omega arith)
    (bytes_cons u.a (u.b ∷ u.c ∷ u.d ∷ []) (hex_low u.a u.w u.first) (bytes_cons u.b (u.c ∷ u.d ∷ []) (hex_low u.b u.x u.second)
    (bytes_cons u.c (u.d ∷ []) (hex_low u.c u.y u.third) (bytes_cons u.d [] (hex_low u.d u.z u.fourth) bytes_nil))))))

char_bytes : (c : ℕ) (text : List ℕ) → SpellsChar c text → IsBytes text
char_bytes c text (plain ok l q s is) = bytes_same text (encode c) is (encoded_bytes c ok)
char_bytes c text (short letter h is) =
    bytes_same text (92 ∷ letter ∷ []) is (bytes_cons 92 (letter ∷ []) (omega arith) (bytes_cons letter [] (letter_low letter c h) bytes_nil))
char_bytes c text (unit ok u) = unit_bytes c text u
char_bytes c text (pair high low front back lh hh ll hl value f b is) =
    bytes_same text (front ++ back) is (bytes_joined front back (unit_bytes high front f) (unit_bytes low back b))

chars_bytes : (bytes text : List ℕ) → SpellsChars bytes text → IsBytes text
chars_bytes _ _ none = bytes_nil
chars_bytes _ _ (more c bytes front back all text s rest is spelled) =
    bytes_same text (front ++ back) spelled (bytes_joined front back (char_bytes c front s) (chars_bytes bytes back rest))

quoted_bytes : (bytes text : List ℕ) → SpellsText bytes text → IsBytes text
quoted_bytes bytes text s = bytes_between 34 34 s.0 text (omega arith) (omega arith) s.1 (chars_bytes bytes s.0 s.2)

-- ---- values

word_bytes : (b : Bool) → IsBytes (word_of b)
word_bytes true = ascii_bytes (codes "true") (tested_ascii (codes "true") refl)
word_bytes false = ascii_bytes (codes "false") (tested_ascii (codes "false") refl)

mutual
  value_bytes : (limits : Limits) (n : ℕ) (v : Json) (text : List ℕ) → Spells limits n v text → IsBytes text
  value_bytes limits _ _ _ (null n v text is e) = bytes_same text (codes "null") e (ascii_bytes (codes "null") (tested_ascii (codes "null") refl))
  value_bytes limits _ _ _ (boolean n v text b is e) = bytes_same text (word_of b) e (word_bytes b)
  value_bytes limits _ _ _ (number n v text is k) = number_bytes text k
  value_bytes limits _ _ _ (string n v text bytes is s) = quoted_bytes bytes text s
  value_bytes limits _ _ _ (array n v text values is s) = array_bytes limits n values text s
  value_bytes limits _ _ _ (object n v text names values is s) = object_bytes limits n names values text s

  array_bytes : (limits : Limits) (n : ℕ) (values : List Json) (text : List ℕ) → SpellsArray limits n values text → IsBytes text
  array_bytes limits _ _ _ (no_items n values space text is s e) = bytes_between 91 93 space text (omega arith) (omega arith) e (space_bytes space s)
  array_bytes limits _ _ _ (items n values inner text s e) = bytes_between 91 93 inner text (omega arith) (omega arith) e (items_bytes limits n values inner s)

  items_bytes : (limits : Limits) (n : ℕ) (values : List Json) (text : List ℕ) → SpellsItems limits n values text → IsBytes text
  items_bytes limits _ _ _ (last_item n v text s) = padded_bytes limits n v text s
  items_bytes limits _ _ _ (more_items n v values front back text s rest is) = bytes_comma front back text is (padded_bytes limits n v front s) (items_bytes limits n values back rest)

  padded_bytes : (limits : Limits) (n : ℕ) (v : Json) (text : List ℕ) → SpellsPadded limits n v text → IsBytes text
  padded_bytes limits _ _ _ (padded n v before inner after text b s a is) =
      bytes_same text (before ++ (inner ++ after)) is
      (bytes_joined before (inner ++ after) (space_bytes before b) (bytes_joined inner after (value_bytes limits n v inner s) (space_bytes after a)))

  object_bytes : (limits : Limits) (n : ℕ) (names : List (List ℕ)) (values : List Json) (text : List ℕ) → SpellsObject limits n names values text → IsBytes text
  object_bytes limits _ _ _ _ (no_members n names values space text is has s e) = bytes_between 123 125 space text (omega arith) (omega arith) e (space_bytes space s)
  object_bytes limits _ _ _ _ (members n names values inner text s apart few e) =
      bytes_between 123 125 inner text (omega arith) (omega arith) e (members_bytes limits n names values inner s)

  members_bytes : (limits : Limits) (n : ℕ) (names : List (List ℕ)) (values : List Json) (text : List ℕ) → SpellsMembers limits n names values text → IsBytes text
  members_bytes limits _ _ _ _ (last_member n name v text s) = member_bytes limits n name v text s
  members_bytes limits _ _ _ _ (more_members n name v names values front back text s rest is) =
      bytes_comma front back text is (member_bytes limits n name v front s) (members_bytes limits n names values back rest)

  member_bytes : (limits : Limits) (n : ℕ) (name : List ℕ) (v : Json) (text : List ℕ) → SpellsMember limits n name v text → IsBytes text
  member_bytes limits _ _ _ _ (member n name v before spelled after back text b s a p is) =
      bytes_same text (before ++ (spelled ++ (after ++ 58 ∷ back))) is
      (bytes_joined before (spelled ++ (after ++ 58 ∷ back)) (space_bytes before b)
      (bytes_joined spelled (after ++ 58 ∷ back) (quoted_bytes name spelled s)
      (bytes_joined after (58 ∷ back) (space_bytes after a) (bytes_cons 58 back (omega arith) (padded_bytes limits n v back p)))))

-- the text of an object
pub reading_bytes : (limits : Limits) (text : List ℕ) (m : Members) → IsReadingWithin limits text m → IsBytes text
reading_bytes limits text m r =
    bytes_same text (r.before ++ (r.inner ++ r.after)) r.whole
    (bytes_joined r.before (r.inner ++ r.after) (space_bytes r.before r.begins)
    (bytes_joined r.inner r.after (object_bytes limits limits.levels r.names r.values r.inner r.spells) (space_bytes r.after r.ends)))
