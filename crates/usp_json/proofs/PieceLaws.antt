-- The machine for texts reads the spellings of characters, and nothing else.
use Rattle.std.proofs.Common.{◌≡◌, ◌≢◌, ◌⊎◌, ℕ, ◌+◌, ◌-◌, ◌*◌, ◌<◌, ◌≤◌, ◌==◌, Bool, true, false, cond, List, [], ◌∷◌, ◌++◌, Option, Some, None, inl, inr, refl, sym, ap, ◌∙◌, subst, arith, append_assoc, append-nil}
use Rattle.std.proofs.lemmas.Bool.Decides.{eqb_tells}
use Rattle.std.proofs.lemmas.Bool.{cases_lt}
use Rattle.std.specs.Char.{IsScalar}
use lib.Utf8.{encode, low_scalar, scalar_cases}
use Rattle.std.specs.Str.{IsUtf8}
use Rattle.std.proofs.lemmas.Str.{encode_ascii, IsUtf8-nil, IsUtf8-append, IsUtf8-encode}
use Rattle.usp_json.specs.Grammar.{hex_value, escaped, IsUnit, SpellsChar, plain, short, unit, pair, SpellsChars, none, more}
use Rattle.usp_json.specs.Pieces.{Read, between, start_step, letter_step, first_fits, second_fits, unit_step, piece_step, pieces_run}
use Rattle.usp_json.specs.declared.states.Piece.{Piece}
use Rattle.usp_json.specs.declared.states.Piece.TheVariants.{Start, Last, LastButOne, LastButTwo, Letter, First, Second, Third, Fourth, Backslash, U}
use Rattle.usp_json.proofs.Numbers.{then_case}
use Rattle.usp_json.proofs.CharLemmas.{between_true, between_low, between_high, between_tells, differs, high_scalar, IsWide, two_wide, three_wide, four_wide, lead_one, lead_two, lead_three, lead_four, one, two_bytes, three_of, four_of, shape}

-- a character more
pub added : (got text : List ℕ) → SpellsChars got text → (c : ℕ) (front : List ℕ) → SpellsChar c front → SpellsChars (got ++ encode c) (text ++ front)
added _ _ none c front s = more c [] front [] (encode c) front s none (sym (append-nil (encode c))) (sym (append-nil front))
added _ _ (more d bytes first back all text is those e f) c front s =
    more d (bytes ++ encode c) first (back ++ front) (all ++ encode c) (text ++ front) is (added bytes back those c front s) (rw e (append_assoc (encode d) bytes (encode c))) (rw f (append_assoc first back front))

wide_added : (got text bytes : List ℕ) → SpellsChars got text → IsWide bytes → SpellsChars (got ++ bytes) (text ++ bytes)
wide_added got text bytes s w =
    let r = added got text s w.c bytes (plain w.is_scalar (omega (arith, w.wide)) (λ e. omega (arith, w.wide)) (λ e. omega (arith, w.wide)) w.spelled) in
    subst (λ (l : List ℕ). SpellsChars (got ++ l) (text ++ bytes)) (sym w.spelled) r

abbrev LastHolds : List ℕ → List ℕ → Type 0
LastHolds got text = (b : ℕ) → 128 ≤ b → b ≤ 191 → SpellsChars (got ++ b ∷ []) (text ++ b ∷ [])

abbrev OneHolds : ℕ → ℕ → List ℕ → List ℕ → Type 0
OneHolds least most got text = (least ≤ most) × ((b : ℕ) → least ≤ b → b ≤ most → LastHolds (got ++ b ∷ []) (text ++ b ∷ []))

abbrev TwoHolds : ℕ → ℕ → List ℕ → List ℕ → Type 0
TwoHolds least most got text = (least ≤ most) × ((b : ℕ) → least ≤ b → b ≤ most → OneHolds 128 191 (got ++ b ∷ []) (text ++ b ∷ []))

-- the high surrogate in front, or nothing
abbrev pub High : ℕ → List ℕ → Type 0
High high text = ((high ≡ 0) × (text ≡ [])) ⊎ ((55296 ≤ high) × (high < 56320) × IsUnit high text)

-- what stands before a `\u`
pub record UnitFront (high : ℕ) (got text : List ℕ) : Type 0 where
  pub before : List ℕ
  pub first : List ℕ
  pub spells : SpellsChars got before
  pub is_high : High high first
  pub whole : text ≡ before ++ first

-- what was read up to there
abbrev pub PieceHolds : Piece → List ℕ → List ℕ → Type 0
PieceHolds Start got text = SpellsChars got text
PieceHolds Last got text = LastHolds got text
PieceHolds (LastButOne least most) got text = OneHolds least most got text
PieceHolds (LastButTwo least most) got text = TwoHolds least most got text
PieceHolds Letter got text = (t : List ℕ) × SpellsChars got t × (text ≡ t ++ 92 ∷ [])
PieceHolds (First high) got text = (t : List ℕ) × UnitFront high got t × (text ≡ t ++ 92 ∷ 117 ∷ [])
PieceHolds (Second high value) got text = (t : List ℕ) × (a : ℕ) × UnitFront high got t × (hex_value a ≡ Some value) × (first_fits high value ≡ true) × (text ≡ t ++ 92 ∷ 117 ∷ a ∷ [])
PieceHolds (Third high value) got text = (t : List ℕ) × (a b w x : ℕ) × UnitFront high got t × (hex_value a ≡ Some w) × (hex_value b ≡ Some x) × (value ≡ w * 16 + x)
    × (second_fits high (w * 16 + x) ≡ true) × (text ≡ t ++ 92 ∷ 117 ∷ a ∷ b ∷ [])
PieceHolds (Fourth high value) got text = (t : List ℕ) × (a b c w x y : ℕ) × UnitFront high got t × (hex_value a ≡ Some w) × (hex_value b ≡ Some x) × (hex_value c ≡ Some y)
    × (value ≡ (w * 16 + x) * 16 + y) × (second_fits high (w * 16 + x) ≡ true) × (text ≡ t ++ 92 ∷ 117 ∷ a ∷ b ∷ c ∷ [])
PieceHolds (Backslash high) got text = (t : List ℕ) × (first : List ℕ) × SpellsChars got t × (55296 ≤ high) × (high < 56320) × IsUnit high first × (text ≡ t ++ first)
PieceHolds (U high) got text = (t : List ℕ) × (first : List ℕ) × SpellsChars got t × (55296 ≤ high) × (high < 56320) × IsUnit high first × (text ≡ (t ++ first) ++ 92 ∷ [])

moved : (p : Piece) (got text : List ℕ) (r : Read) → Some (p, got) ≡ Some r → PieceHolds p got text → PieceHolds r.0 r.1 text
moved p got text r h f = let e : (p, got) ≡ r = cc in subst (λ (q : Read). PieceHolds q.0 q.1 text) e f

twice : (xs : List ℕ) (a b : ℕ) → (xs ++ a ∷ []) ++ b ∷ [] ≡ xs ++ a ∷ b ∷ []
twice xs a b = append_assoc xs (a ∷ []) (b ∷ [])

thrice : (xs : List ℕ) (a b c : ℕ) → ((xs ++ a ∷ []) ++ b ∷ []) ++ c ∷ [] ≡ xs ++ a ∷ b ∷ c ∷ []
thrice xs a b c = rw (twice xs a b) (append_assoc xs (a ∷ b ∷ []) (c ∷ []))

four_times : (xs : List ℕ) (a b c d : ℕ) → (((xs ++ a ∷ []) ++ b ∷ []) ++ c ∷ []) ++ d ∷ [] ≡ xs ++ a ∷ b ∷ c ∷ d ∷ []
four_times xs a b c d = rw (thrice xs a b c) (append_assoc xs (a ∷ b ∷ c ∷ []) (d ∷ []))

last_of_two : (got text : List ℕ) (a : ℕ) → SpellsChars got text → 194 ≤ a → a ≤ 223 → LastHolds (got ++ a ∷ []) (text ++ a ∷ [])
last_of_two got text a s l h b lb hb = rw (twice got a b, twice text a b) (wide_added got text (a ∷ b ∷ []) s (two_wide a b l h lb hb))

one_of_three : (got text : List ℕ) (a least most : ℕ) → SpellsChars got text → 224 ≤ a → a ≤ 239 → least ≤ most → 128 ≤ least → most ≤ 191 → (225 ≤ a) ⊎ (160 ≤ least) → (a < 237) ⊎ ((237 < a) ⊎ (most ≤ 159))
    → OneHolds least most (got ++ a ∷ []) (text ++ a ∷ [])
one_of_three got text a least most s l h some low high p q =
    (some, λ b lb hb c lc hc. rw (thrice got a b c, thrice text a b c) (wide_added got text (a ∷ b ∷ c ∷ []) s (three_wide a b c l h (omega arith) (omega arith) (elim p [ inl e ↦ inl e | inr e ↦ inr (omega arith) ]) (elim q [ inl e ↦ inl e | inr r ↦ elim r [ inl e ↦ inr (inl e) | inr e ↦ inr (inr (omega arith)) ] ]) lc hc)))

two_of_four : (got text : List ℕ) (a least most : ℕ) → SpellsChars got text → 240 ≤ a → a ≤ 244 → least ≤ most → 128 ≤ least → most ≤ 191 → (241 ≤ a) ⊎ (144 ≤ least) → (a < 244) ⊎ (most ≤ 143)
    → TwoHolds least most (got ++ a ∷ []) (text ++ a ∷ [])
two_of_four got text a least most s l h some low high p q = (
  some,
  λ b lb hb. (
    omega arith,
    λ c lc hc d ld hd. rw (four_times got a b c d, four_times text a b c d)
        (wide_added got text (a ∷ b ∷ c ∷ d ∷ []) s (four_wide a b c d l h (omega arith) (omega arith) (elim p [ inl e ↦ inl e | inr e ↦ inr (omega arith) ]) (elim q [ inl e ↦ inl e | inr e ↦ inr (omega arith) ]) lc hc ld hd)),
  ),
)

start_holds : (got text : List ℕ) (b : ℕ) (r : Read) → SpellsChars got text → start_step got b ≡ Some r → PieceHolds r.0 r.1 (text ++ b ∷ [])
start_holds got text b r s h = elim (eqb_tells b 34) [
  | inl quote ↦ let n = rw quote.0 at h in cc n
  | inr e0 ↦ elim (eqb_tells b 92) [
    | inl slash ↦ let k = rw (e0.0, slash.0) at h in moved Letter got (text ++ b ∷ []) r k (text, s, rw slash.1 refl)
    | inr e1 ↦ elim (between_tells 32 127 b) [
      | inl i ↦
          let k = rw (e0.0, e1.0, i.0) at h in
          let is : encode b ≡ b ∷ [] = encode_ascii b (omega (arith, i.2)) in
          moved Start (got ++ b ∷ []) (text ++ b ∷ []) r k
          (subst (λ (l : List ℕ). SpellsChars (got ++ l) (text ++ b ∷ [])) is (added got text s b (b ∷ []) (plain (low_scalar b (omega (arith, i.2))) i.1 e0.1 e1.1 (sym is))))
      | inr e2 ↦ elim (between_tells 194 223 b) [
        | inl i ↦ let k = rw (e0.0, e1.0, e2.0, i.0) at h in moved Last (got ++ b ∷ []) (text ++ b ∷ []) r k (last_of_two got text b s i.1 i.2)
        | inr e3 ↦ elim (eqb_tells b 224) [
          | inl i ↦
              let k = rw (e0.0, e1.0, e2.0, e3.0, i.0) at h in
              moved (LastButOne 160 191) (got ++ b ∷ []) (text ++ b ∷ []) r k (one_of_three got text b 160 191 s (omega (arith, i.1)) (omega (arith, i.1)) (omega arith) (omega arith) (omega arith) (inr (omega arith)) (inl (omega (arith, i.1))))
          | inr e4 ↦ elim (eqb_tells b 237) [
            | inl i ↦
                let k = rw (e0.0, e1.0, e2.0, e3.0, e4.0, i.0) at h in
                moved (LastButOne 128 159) (got ++ b ∷ []) (text ++ b ∷ []) r k (one_of_three got text b 128 159 s (omega (arith, i.1)) (omega (arith, i.1)) (omega arith) (omega arith) (omega arith) (inl (omega (arith, i.1))) (inr (inr (omega arith))))
            | inr e5 ↦ elim (between_tells 225 239 b) [
              | inl i ↦
                  let k = rw (e0.0, e1.0, e2.0, e3.0, e4.0, e5.0, i.0) at h in
                  moved (LastButOne 128 191) (got ++ b ∷ []) (text ++ b ∷ []) r k (one_of_three got text b 128 191 s (omega (arith, i.1)) i.2 (omega arith) (omega arith) (omega arith) (inl i.1) (elim (cases_lt b 237) [ inl e ↦ inl e | inr e ↦ inr (inl (omega (arith, e5.1))) ]))
              | inr e6 ↦ elim (eqb_tells b 240) [
                | inl i ↦
                    let k = rw (e0.0, e1.0, e2.0, e3.0, e4.0, e5.0, e6.0, i.0) at h in
                    moved (LastButTwo 144 191) (got ++ b ∷ []) (text ++ b ∷ []) r k (two_of_four got text b 144 191 s (omega (arith, i.1)) (omega (arith, i.1)) (omega arith) (omega arith) (omega arith) (inr (omega arith)) (inl (omega (arith, i.1))))
                | inr e7 ↦ elim (between_tells 241 243 b) [
                  | inl i ↦
                      let k = rw (e0.0, e1.0, e2.0, e3.0, e4.0, e5.0, e6.0, e7.0, i.0) at h in
                      moved (LastButTwo 128 191) (got ++ b ∷ []) (text ++ b ∷ []) r k (two_of_four got text b 128 191 s (omega (arith, i.1)) (omega (arith, i.2)) (omega arith) (omega arith) (omega arith) (inl i.1) (inl (omega (arith, i.2))))
                  | inr e8 ↦ elim (eqb_tells b 244) [
                    | inl i ↦
                        let k = rw (e0.0, e1.0, e2.0, e3.0, e4.0, e5.0, e6.0, e7.0, e8.0, i.0) at h in
                        moved (LastButTwo 128 143) (got ++ b ∷ []) (text ++ b ∷ []) r k (two_of_four got text b 128 143 s (omega (arith, i.1)) (omega (arith, i.1)) (omega arith) (omega arith) (omega arith) (inl (omega (arith, i.1))) (inr (omega arith)))
                    | inr e9 ↦ let n = rw (e0.0, e1.0, e2.0, e3.0, e4.0, e5.0, e6.0, e7.0, e8.0, e9.0) at h in cc n
                  ]
                ]
              ]
            ]
          ]
        ]
      ]
    ]
  ]
]

-- ---- escapes

pub hex_below : (b w : ℕ) → hex_value b ≡ Some w → w < 16
hex_below b w h = elim (between_tells 48 57 b) [
  | inl i ↦ let e : b - 48 ≡ w = let r = rw i.0 at h in cc r in omega (arith, i.1, i.2)
  | inr n ↦ elim (between_tells 97 102 b) [
    | inl i ↦ let e : b - 87 ≡ w = let r = rw (n.0, i.0) at h in cc r in omega (arith, i.1, i.2)
    | inr m ↦ elim (between_tells 65 70 b) [
      | inl i ↦ let e : b - 55 ≡ w = let r = rw (n.0, m.0, i.0) at h in cc r in omega (arith, i.1, i.2)
      | inr k ↦ let r = rw (n.0, m.0, k.0) at h in cc r
    ]
  ]
]

abbrev some_read : Read → Option Read
some_read r = Some r

letter_holds : (got text : List ℕ) (b : ℕ) (r : Read) → PieceHolds Letter got text → letter_step got b ≡ Some r → PieceHolds r.0 r.1 (text ++ b ∷ [])
letter_holds got text b r f h = elim (eqb_tells b 117) [
  | inl u ↦
      let k = rw u.0 at h in
      moved (First 0) got (text ++ b ∷ []) r k
      (f.0, record { before = f.0; first = []; spells = f.1; is_high = inl (refl, refl); whole = sym (append-nil f.0) }, rw (f.2, u.1) (append_assoc f.0 (92 ∷ []) (117 ∷ [])))
  | inr n ↦
      let k = rw n.0 at h in
      let c = then_case (λ (c : ℕ). some_read (Start, got ++ encode c)) (escaped b) r k in
      moved Start (got ++ encode c.0) (text ++ b ∷ []) r c.2
      (subst (λ (l : List ℕ). SpellsChars (got ++ encode c.0) l) (sym (rw f.2 (append_assoc f.0 (92 ∷ []) (b ∷ [])))) (added got f.0 f.1 c.0 (92 ∷ b ∷ []) (short b c.1 refl)))
]

fits_then : (t : Bool) (x r : Read) → cond t (Some x) None ≡ Some r → (t ≡ true) × (Some x ≡ Some r)
fits_then true x r h = (refl, h)
fits_then false x r h = cc

no_low : (value : ℕ) → second_fits 0 value ≡ true → between 220 223 value ≡ false
no_low value h = elim (between_tells 220 223 value) [ inl i ↦ let r = rw i.0 at h in cc r | inr n ↦ n.0 ]

only_low : (high value : ℕ) → high ≢ 0 → second_fits high value ≡ true → between 220 223 value ≡ true
only_low high value n h = rw (differs high 0 n) at h

within : (l m b : ℕ) → between l m b ≡ true → (l ≤ b) × (b ≤ m)
within l m b h = elim (between_tells l m b) [ inl i ↦ (i.1, i.2) | inr n ↦ let e : true ≡ false = sym h ∙ n.0 in cc e ]

outside : (l m b : ℕ) → between l m b ≡ false → (b < l) ⊎ (m < b)
outside l m b h = elim (between_tells l m b) [ inl i ↦ let e : true ≡ false = sym i.0 ∙ h in cc e | inr n ↦ n.1 ]

-- a unit that is no surrogate
single : (v : ℕ) → v < 65536 → (v < 55296) ⊎ (56319 < v) → (v < 56320) ⊎ (57343 < v) → IsScalar v
single v h p q = elim (cases_lt v 55296) [ inl s ↦ low_scalar v s | inr s ↦ high_scalar v (omega arith) (omega arith) ]

-- all four digits
unit_holds : (high v : ℕ) (got t first last : List ℕ) (w x y z : ℕ) (r : Read) → SpellsChars got t → High high first → IsUnit v last → w < 16 → x < 16 → y < 16 → z < 16
    → v ≡ ((w * 16 + x) * 16 + y) * 16 + z → second_fits high (w * 16 + x) ≡ true → Some (unit_step high got v) ≡ Some r → PieceHolds r.0 r.1 ((t ++ first) ++ last)
unit_holds high v got t first last w x y z r s hi u bw bx by bz e fits h = elim hi [
  | inl zero ↦
      let n = no_low (w * 16 + x) (subst (λ (k : ℕ). second_fits k (w * 16 + x) ≡ true) zero.0 fits) in
      let o = outside 220 223 (w * 16 + x) n in
      let text : (t ++ first) ++ last ≡ t ++ last = rw zero.1 (ap (λ l. l ++ last) (append-nil t)) in
      elim (between_tells 55296 56319 v) [
        | inl i ↦ let k = rw (zero.0, i.0) at h in moved (Backslash v) got ((t ++ first) ++ last) r k (t, last, s, i.1, omega (arith, i.2), u, text)
        | inr j ↦
            let k = rw (zero.0, j.0) at h in
            let ok : IsScalar v = single v (omega arith) j.1 (elim o [ inl a ↦ inl (omega arith) | inr a ↦ inr (omega arith) ]) in
            moved Start (got ++ encode v) ((t ++ first) ++ last) r k (subst (λ (l : List ℕ). SpellsChars (got ++ encode v) l) (sym text) (added got t s v last (unit ok u)))
      ]
  | inr some ↦
      let n : high ≢ 0 = λ e. omega (arith, some.0) in
      let i = within 220 223 (w * 16 + x) (only_low high (w * 16 + x) n fits) in
      let k = rw (differs high 0 n) at h in
      let c = 65536 + (high - 55296) * 1024 + (v - 56320) in
      moved Start (got ++ encode c) ((t ++ first) ++ last) r k
      (subst (λ (l : List ℕ). SpellsChars (got ++ encode c) l) (sym (append_assoc t first last))
      (added got t s c (first ++ last) (pair high v first last some.0 some.1 (omega (arith, i.0, i.1)) (omega (arith, i.0, i.1)) refl some.2 u refl)))
]

more_hex : (t : List ℕ) (a b : List ℕ) (d : ℕ) → (t ++ a) ++ d ∷ [] ≡ t ++ (a ++ d ∷ [])
more_hex t a b d = append_assoc t a (d ∷ [])

-- one more byte
pub piece_holds : (p : Piece) (got text : List ℕ) (b : ℕ) (r : Read) → PieceHolds p got text → piece_step p got b ≡ Some r → PieceHolds r.0 r.1 (text ++ b ∷ [])
piece_holds Start got text b r f h = start_holds got text b r f h
piece_holds Last got text b r f h = elim (between_tells 128 191 b) [
  | inl i ↦ let k = rw i.0 at h in moved Start (got ++ b ∷ []) (text ++ b ∷ []) r k (f b i.1 i.2)
  | inr n ↦ let k = rw n.0 at h in cc k
]
piece_holds (LastButOne least most) got text b r f h = elim (between_tells least most b) [
  | inl i ↦ let k = rw i.0 at h in moved Last (got ++ b ∷ []) (text ++ b ∷ []) r k (f.1 b i.1 i.2)
  | inr n ↦ let k = rw n.0 at h in cc k
]
piece_holds (LastButTwo least most) got text b r f h = elim (between_tells least most b) [
  | inl i ↦ let k = rw i.0 at h in moved (LastButOne 128 191) (got ++ b ∷ []) (text ++ b ∷ []) r k (f.1 b i.1 i.2)
  | inr n ↦ let k = rw n.0 at h in cc k
]
piece_holds Letter got text b r f h = letter_holds got text b r f h
piece_holds (First high) got text b r f h =
    let c = then_case (λ (d : ℕ). cond (first_fits high d) (some_read (Second high d, got)) None) (hex_value b) r h in
    let k = fits_then (first_fits high c.0) (Second high c.0, got) r c.2 in
    moved (Second high c.0) got (text ++ b ∷ []) r k.1 (f.0, b, f.1, c.1, k.0, rw f.2 (append_assoc f.0 (92 ∷ 117 ∷ []) (b ∷ [])))
piece_holds (Second high value) got text b r f h =
    let c = then_case (λ (d : ℕ). cond (second_fits high (value * 16 + d)) (some_read (Third high (value * 16 + d), got)) None) (hex_value b) r h in
    let k = fits_then (second_fits high (value * 16 + c.0)) (Third high (value * 16 + c.0), got) r c.2 in
    moved (Third high (value * 16 + c.0)) got (text ++ b ∷ []) r k.1 (f.0, f.1, b, value, c.0, f.2, f.3, c.1, refl, k.0, rw f.5 (append_assoc f.0 (92 ∷ 117 ∷ f.1 ∷ []) (b ∷ [])))
piece_holds (Third high value) got text b r f h =
    let c = then_case (λ (d : ℕ). some_read (Fourth high (value * 16 + d), got)) (hex_value b) r h in
    moved (Fourth high (value * 16 + c.0)) got (text ++ b ∷ []) r c.2
    (f.0, f.1, f.2, b, f.3, f.4, c.0, f.5, f.6, f.7, c.1, ap (λ v. v * 16 + c.0) f.8, f.9, rw f.10 (append_assoc f.0 (92 ∷ 117 ∷ f.1 ∷ f.2 ∷ []) (b ∷ [])))
piece_holds (Fourth high value) got text b r f h =
    let c = then_case (λ (d : ℕ). Some (unit_step high got (value * 16 + d))) (hex_value b) r h in
    let front = f.7 in
    let last = 92 ∷ 117 ∷ f.1 ∷ f.2 ∷ f.3 ∷ b ∷ [] in
    let whole : text ++ b ∷ [] ≡ (front.before ++ front.first) ++ last = rw (f.13, append_assoc f.0 (92 ∷ 117 ∷ f.1 ∷ f.2 ∷ f.3 ∷ []) (b ∷ []), front.whole) refl in
    let v = value * 16 + c.0 in
    let e : v ≡ ((f.4 * 16 + f.5) * 16 + f.6) * 16 + c.0 = ap (λ k. k * 16 + c.0) f.11 in
    let u : IsUnit v last = record { a = f.1; b = f.2; c = f.3; d = b; w = f.4; x = f.5; y = f.6; z = c.0; first = f.8; second = f.9; third = f.10; fourth = c.1; value = e; spelled = refl } in
    rw whole (unit_holds high v got front.before front.first last f.4 f.5 f.6 c.0 r front.spells front.is_high u (hex_below f.1 f.4 f.8) (hex_below f.2 f.5 f.9) (hex_below f.3 f.6 f.10) (hex_below b c.0 c.1) e f.12 c.2)
piece_holds (Backslash high) got text b r f h = elim (eqb_tells b 92) [
  | inl i ↦ let k = rw i.0 at h in moved (U high) got (text ++ b ∷ []) r k (f.0, f.1, f.2, f.3, f.4, f.5, rw (f.6, i.1) refl)
  | inr n ↦ let k = rw n.0 at h in cc k
]
piece_holds (U high) got text b r f h = elim (eqb_tells b 117) [
  | inl i ↦
      let k = rw i.0 at h in
      moved (First high) got (text ++ b ∷ []) r k
      (f.0 ++ f.1, record { before = f.0; first = f.1; spells = f.2; is_high = inr (f.3, f.4, f.5); whole = refl }, rw (f.6, i.1) (append_assoc (f.0 ++ f.1) (92 ∷ []) (117 ∷ [])))
  | inr n ↦ let k = rw n.0 at h in cc k
]

-- ---- spellings are read

pieces_one : (p : Piece) (got : List ℕ) (b : ℕ) (bs : List ℕ) (r : Read) → piece_step p got b ≡ Some r → pieces_run p got (b ∷ bs) ≡ pieces_run r.0 r.1 bs
pieces_one p got b bs r h = rw h refl

last_run : (got : List ℕ) (b : ℕ) (bs : List ℕ) → 128 ≤ b → b ≤ 191 → pieces_run Last got (b ∷ bs) ≡ pieces_run Start (got ++ b ∷ []) bs
last_run got b bs l h = pieces_one Last got b bs (Start, got ++ b ∷ []) (rw (between_true 128 191 b l h) refl)

one_run : (got : List ℕ) (least most b : ℕ) (bs : List ℕ) → least ≤ b → b ≤ most → pieces_run (LastButOne least most) got (b ∷ bs) ≡ pieces_run Last (got ++ b ∷ []) bs
one_run got least most b bs l h = pieces_one (LastButOne least most) got b bs (Last, got ++ b ∷ []) (rw (between_true least most b l h) refl)

two_run : (got : List ℕ) (least most b : ℕ) (bs : List ℕ) → least ≤ b → b ≤ most → pieces_run (LastButTwo least most) got (b ∷ bs) ≡ pieces_run (LastButOne 128 191) (got ++ b ∷ []) bs
two_run got least most b bs l h = pieces_one (LastButTwo least most) got b bs (LastButOne 128 191, got ++ b ∷ []) (rw (between_true least most b l h) refl)

wide_two : (got : List ℕ) (a b : ℕ) (rest : List ℕ) → 194 ≤ a → a ≤ 223 → 128 ≤ b → b ≤ 191 → pieces_run Start got (a ∷ b ∷ rest) ≡ pieces_run Start (got ++ a ∷ b ∷ []) rest
wide_two got a b rest la ha lb hb =
    pieces_one Start got a (b ∷ rest) (Last, got ++ a ∷ []) (lead_two got a la ha) ∙ last_run (got ++ a ∷ []) b rest lb hb ∙ ap (λ l. pieces_run Start l rest) (twice got a b)

three_tail : (got : List ℕ) (a b d least most : ℕ) (rest : List ℕ) → start_step got a ≡ Some (LastButOne least most, got ++ a ∷ []) → least ≤ b → b ≤ most → 128 ≤ d → d ≤ 191
    → pieces_run Start got (a ∷ b ∷ d ∷ rest) ≡ pieces_run Start (got ++ a ∷ b ∷ d ∷ []) rest
three_tail got a b d least most rest h lb hb ld hd =
    pieces_one Start got a (b ∷ d ∷ rest) (LastButOne least most, got ++ a ∷ []) h ∙ (one_run (got ++ a ∷ []) least most b (d ∷ rest) lb hb
    ∙ (last_run ((got ++ a ∷ []) ++ b ∷ []) d rest ld hd ∙ ap (λ l. pieces_run Start l rest) (thrice got a b d)))

four_tail : (got : List ℕ) (a b d e least most : ℕ) (rest : List ℕ) → start_step got a ≡ Some (LastButTwo least most, got ++ a ∷ []) → least ≤ b → b ≤ most → 128 ≤ d → d ≤ 191 → 128 ≤ e → e ≤ 191
    → pieces_run Start got (a ∷ b ∷ d ∷ e ∷ rest) ≡ pieces_run Start (got ++ a ∷ b ∷ d ∷ e ∷ []) rest
four_tail got a b d e least most rest h lb hb ld hd le he =
    pieces_one Start got a (b ∷ d ∷ e ∷ rest) (LastButTwo least most, got ++ a ∷ []) h ∙ (two_run (got ++ a ∷ []) least most b (d ∷ e ∷ rest) lb hb
    ∙ (one_run ((got ++ a ∷ []) ++ b ∷ []) 128 191 d (e ∷ rest) ld hd ∙ (last_run (((got ++ a ∷ []) ++ b ∷ []) ++ d ∷ []) e rest le he ∙ ap (λ l. pieces_run Start l rest) (four_times got a b d e))))

wide_three : (got : List ℕ) (a b d : ℕ) (rest : List ℕ) → 224 ≤ a → a ≤ 239 → 128 ≤ b → b ≤ 191 → (225 ≤ a) ⊎ (160 ≤ b) → (a < 237) ⊎ ((237 < a) ⊎ (b ≤ 159)) → 128 ≤ d → d ≤ 191
    → pieces_run Start got (a ∷ b ∷ d ∷ rest) ≡ pieces_run Start (got ++ a ∷ b ∷ d ∷ []) rest
wide_three got a b d rest la ha lb hb p q ld hd = elim (eqb_tells a 224) [
  | inl i ↦ three_tail got a b d 160 191 rest (rw i.1 refl) (omega (arith, i.1)) hb ld hd
  | inr n ↦ elim (eqb_tells a 237) [
    | inl i ↦ three_tail got a b d 128 159 rest (rw i.1 refl) lb (omega (arith, i.1)) ld hd
    | inr m ↦ three_tail got a b d 128 191 rest (lead_three got a (omega (arith, n.1)) ha m.1) lb hb ld hd
  ]
]

wide_four : (got : List ℕ) (a b d e : ℕ) (rest : List ℕ) → 240 ≤ a → a ≤ 244 → 128 ≤ b → b ≤ 191 → (241 ≤ a) ⊎ (144 ≤ b) → (a < 244) ⊎ (b ≤ 143) → 128 ≤ d → d ≤ 191 → 128 ≤ e → e ≤ 191
    → pieces_run Start got (a ∷ b ∷ d ∷ e ∷ rest) ≡ pieces_run Start (got ++ a ∷ b ∷ d ∷ e ∷ []) rest
wide_four got a b d e rest la ha lb hb p q ld hd le he = elim (eqb_tells a 240) [
  | inl i ↦ four_tail got a b d e 144 191 rest (rw i.1 refl) (omega (arith, i.1)) hb ld hd le he
  | inr n ↦ elim (eqb_tells a 244) [
    | inl i ↦ four_tail got a b d e 128 143 rest (rw i.1 refl) lb (omega (arith, i.1)) ld hd le he
    | inr m ↦ four_tail got a b d e 128 191 rest (lead_four got a (omega (arith, n.1)) (omega (arith, m.1))) lb hb ld hd le he
  ]
]

plain_run : (c : ℕ) (got rest : List ℕ) → IsScalar c → 32 ≤ c → c ≢ 34 → c ≢ 92 → pieces_run Start got (encode c ++ rest) ≡ pieces_run Start (got ++ encode c) rest
plain_run c got rest ok low q s = elim (shape c ok) [
  | one h e ↦ rw e (pieces_one Start got c rest (Start, got ++ c ∷ []) (lead_one got c low h q s))
  | two_bytes a b la ha lb hb e ↦ rw e (wide_two got a b rest la ha lb hb)
  | three_of a b d la ha lb hb x y ld hd e ↦ rw e (wide_three got a b d rest la ha lb hb x y ld hd)
  | four_of a b d f la ha lb hb x y ld hd lf hf e ↦ rw e (wide_four got a b d f rest la ha lb hb x y ld hd lf hf)
]

slash_run : (got rest : List ℕ) → pieces_run Start got (92 ∷ rest) ≡ pieces_run Letter got rest
slash_run got rest = refl

no_u : (letter c : ℕ) → escaped letter ≡ Some c → (letter == 117) ≡ false
no_u letter c h = elim (eqb_tells letter 117) [ inl i ↦ let r = rw i.1 at h in cc r | inr n ↦ n.0 ]

short_run : (letter c : ℕ) (got rest : List ℕ) → escaped letter ≡ Some c → pieces_run Letter got (letter ∷ rest) ≡ pieces_run Start (got ++ encode c) rest
short_run letter c got rest h = pieces_one Letter got letter rest (Start, got ++ encode c) (rw (no_u letter c h, h) refl)

-- four digits that may stand there
digits_run : (high : ℕ) (got rest : List ℕ) (a b c d w x y z : ℕ) → hex_value a ≡ Some w → hex_value b ≡ Some x → hex_value c ≡ Some y → hex_value d ≡ Some z → first_fits high w ≡ true
    → second_fits high (w * 16 + x) ≡ true
    → pieces_run (First high) got (a ∷ b ∷ c ∷ d ∷ rest) ≡ pieces_run (unit_step high got (((w * 16 + x) * 16 + y) * 16 + z)).0 (unit_step high got (((w * 16 + x) * 16 + y) * 16 + z)).1 rest
digits_run high got rest a b c d w x y z ha hb hc hd f s =
    pieces_one (First high) got a (b ∷ c ∷ d ∷ rest) (Second high w, got) (rw (ha, f) refl)
    ∙ (pieces_one (Second high w) got b (c ∷ d ∷ rest) (Third high (w * 16 + x), got) (rw (hb, s) refl)
    ∙ (pieces_one (Third high (w * 16 + x)) got c (d ∷ rest) (Fourth high ((w * 16 + x) * 16 + y), got) (rw hc refl)
    ∙ pieces_one (Fourth high ((w * 16 + x) * 16 + y)) got d rest (unit_step high got (((w * 16 + x) * 16 + y) * 16 + z)) (rw hd refl)))

no_low_at : (x : ℕ) → (x < 220) ⊎ (223 < x) → second_fits 0 x ≡ true
no_low_at x h = let e : between 220 223 x ≡ false = elim h [ inl a ↦ between_low 220 223 x a | inr a ↦ between_high 220 223 x a ] in rw e refl

low_at : (high x : ℕ) → high ≢ 0 → 220 ≤ x → x ≤ 223 → second_fits high x ≡ true
low_at high x n l h = rw (differs high 0 n, between_true 220 223 x l h) refl

not_pair : (v : ℕ) → (v < 55296) ⊎ (56319 < v) → between 55296 56319 v ≡ false
not_pair v h = elim h [ inl a ↦ between_low 55296 56319 v a | inr a ↦ between_high 55296 56319 v a ]

unit_run : (c : ℕ) (text got rest : List ℕ) → IsScalar c → IsUnit c text → pieces_run Start got (text ++ rest) ≡ pieces_run Start (got ++ encode c) rest
unit_run c text got rest ok u =
    let range = scalar_cases c ok in
    let bx = hex_below u.b u.x u.second in
    let by = hex_below u.c u.y u.third in
    let bz = hex_below u.d u.z u.fourth in
    let v : c ≡ ((u.w * 16 + u.x) * 16 + u.y) * 16 + u.z = u.value in
    let fits = no_low_at (u.w * 16 + u.x) (elim range [ inl a ↦ inl (omega arith) | inr a ↦ inr (omega arith) ]) in
    let own : between 55296 56319 c ≡ false = not_pair c (elim range [ inl a ↦ inl a | inr a ↦ inr (omega arith) ]) in
    let step : unit_step 0 got (((u.w * 16 + u.x) * 16 + u.y) * 16 + u.z) ≡ (Start, got ++ encode c) = rw (← v, own) refl in
    rw u.spelled (digits_run 0 got rest u.a u.b u.c u.d u.w u.x u.y u.z u.first u.second u.third u.fourth refl fits ∙ ap (λ (r : Read). pieces_run r.0 r.1 rest) step)

pair_run : (high low c : ℕ) (front back got rest : List ℕ) → 55296 ≤ high → high < 56320 → 56320 ≤ low → low < 57344 → c ≡ 65536 + (high - 55296) * 1024 + (low - 56320) → IsUnit high front → IsUnit low back
    → pieces_run Start got ((front ++ back) ++ rest) ≡ pieces_run Start (got ++ encode c) rest
pair_run high low c front back got rest lh hh ll hl e u k =
    let ux = hex_below u.b u.x u.second in
    let uy = hex_below u.c u.y u.third in
    let uz = hex_below u.d u.z u.fourth in
    let kw = hex_below k.a k.w k.first in
    let kx = hex_below k.b k.x k.second in
    let ky = hex_below k.c k.y k.third in
    let kz = hex_below k.d k.z k.fourth in
    let v : high ≡ ((u.w * 16 + u.x) * 16 + u.y) * 16 + u.z = u.value in
    let t : low ≡ ((k.w * 16 + k.x) * 16 + k.y) * 16 + k.z = k.value in
    let some : high ≢ 0 = λ h. omega arith in
    let is_first : k.w ≡ 13 = omega arith in
    let fits = no_low_at (u.w * 16 + u.x) (inl (omega arith)) in
    let step : unit_step 0 got (((u.w * 16 + u.x) * 16 + u.y) * 16 + u.z) ≡ (Backslash high, got) = rw (← v, between_true 55296 56319 high lh (omega arith)) refl in
    let begins : first_fits high k.w ≡ true = rw (differs high 0 some, is_first) refl in
    let lows = low_at high (k.w * 16 + k.x) some (omega arith) (omega arith) in
    let last : unit_step high got (((k.w * 16 + k.x) * 16 + k.y) * 16 + k.z) ≡ (Start, got ++ encode c) = rw (← t, differs high 0 some, e) refl in
    rw (u.spelled, k.spelled)
    (digits_run 0 got (92 ∷ 117 ∷ k.a ∷ k.b ∷ k.c ∷ k.d ∷ rest) u.a u.b u.c u.d u.w u.x u.y u.z u.first u.second u.third u.fourth refl fits
    ∙ (ap (λ (r : Read). pieces_run r.0 r.1 (92 ∷ 117 ∷ k.a ∷ k.b ∷ k.c ∷ k.d ∷ rest)) step
    ∙ (digits_run high got rest k.a k.b k.c k.d k.w k.x k.y k.z k.first k.second k.third k.fourth begins lows ∙ ap (λ (r : Read). pieces_run r.0 r.1 rest) last)))

char_run : (c : ℕ) (text got rest : List ℕ) → SpellsChar c text → pieces_run Start got (text ++ rest) ≡ pieces_run Start (got ++ encode c) rest
char_run c text got rest s = elim s [
  | plain ok low q n e ↦ rw e (plain_run c got rest ok low q n)
  | short letter h e ↦ rw e (short_run letter c got rest h)
  | unit ok u ↦ unit_run c text got rest ok u
  | pair high low front back lh hh ll hl is u k e ↦ rw e (pair_run high low c front back got rest lh hh ll hl is u k)
]

pub chars_run : (bytes text : List ℕ) → SpellsChars bytes text → (got rest : List ℕ) → pieces_run Start got (text ++ rest) ≡ pieces_run Start (got ++ bytes) rest
chars_run _ _ none got rest = ap (λ l. pieces_run Start l rest) (sym (append-nil got))
chars_run _ _ (more c bytes front back all text is those e f) got rest =
    rw (f, append_assoc front back rest) (char_run c front got (back ++ rest) is ∙ (chars_run bytes back those (got ++ encode c) rest ∙ ap (λ l. pieces_run Start l rest) (append_assoc got (encode c) bytes ∙ ap (λ l. got ++ l) (sym e))))

-- ---- each state can be brought to the start of a character

abbrev Live : Piece → List ℕ → Type 0
Live p got = (rest : List ℕ) × (after : List ℕ) × (pieces_run p got rest ≡ Some (Start, after))

unit_live : (high v : ℕ) (got : List ℕ) → Live (unit_step high got v).0 (unit_step high got v).1
unit_live high v got = elim (eqb_tells high 0) [
  | inl zero ↦ elim (between_tells 55296 56319 v) [
    | inl i ↦
        let some : v ≢ 0 = λ e. omega (arith, i.1) in
        let n : (v == 0) ≡ false = differs v 0 some in
        let begins : first_fits v 13 ≡ true = rw n refl in
        let last : unit_step v got 56320 ≡ (Start, got ++ encode (65536 + (v - 55296) * 1024 + (56320 - 56320))) = rw n refl in
        let run = digits_run v got [] 100 99 48 48 13 12 0 0 refl refl refl refl begins (low_at v 220 some (omega arith) (omega arith)) in
        (92 ∷ 117 ∷ 100 ∷ 99 ∷ 48 ∷ 48 ∷ [], got ++ encode (65536 + (v - 55296) * 1024 + (56320 - 56320)), rw (zero.0, i.0) (run ∙ ap (λ (r : Read). pieces_run r.0 r.1 []) last))
    | inr j ↦ ([], got ++ encode v, rw (zero.0, j.0) refl)
  ]
  | inr n ↦ ([], got ++ encode (65536 + (high - 55296) * 1024 + (v - 56320)), rw n.0 refl)
]

then_live : (p : Piece) (got : List ℕ) (b : ℕ) (r : Read) → piece_step p got b ≡ Some r → Live r.0 r.1 → Live p got
then_live p got b r h l = (b ∷ l.0, l.1, pieces_one p got b l.0 r h ∙ l.2)

fourth_live : (high value : ℕ) (got : List ℕ) → Live (Fourth high value) got
fourth_live high value got = then_live (Fourth high value) got 48 (unit_step high got (value * 16 + 0)) refl (unit_live high (value * 16 + 0) got)

third_live : (high value : ℕ) (got : List ℕ) → Live (Third high value) got
third_live high value got = then_live (Third high value) got 48 (Fourth high (value * 16 + 0), got) refl (fourth_live high (value * 16 + 0) got)

-- the digit c or 0
second_live : (high value : ℕ) (got : List ℕ) → first_fits high value ≡ true → Live (Second high value) got
second_live high value got f = elim (eqb_tells high 0) [
  | inl zero ↦ then_live (Second high value) got 48 (Third high (value * 16 + 0), got) (rw (zero.1, no_low_at (value * 16 + 0) (elim (cases_lt value 14) [ inl a ↦ inl (omega arith) | inr a ↦ inr (omega arith) ])) refl)
      (third_live high (value * 16 + 0) got)
  | inr n ↦ elim (eqb_tells value 13) [
    | inl i ↦ then_live (Second high value) got 99 (Third high (value * 16 + 12), got) (rw (low_at high (value * 16 + 12) n.1 (omega (arith, i.1)) (omega (arith, i.1))) refl) (third_live high (value * 16 + 12) got)
    | inr m ↦ let r = rw (n.0, m.0) at f in cc r
  ]
]

first_live : (high : ℕ) (got : List ℕ) → Live (First high) got
first_live high got = elim (eqb_tells high 0) [
  | inl zero ↦ let f : first_fits high 0 ≡ true = rw zero.0 refl in then_live (First high) got 48 (Second high 0, got) (rw f refl) (second_live high 0 got f)
  | inr n ↦ let f : first_fits high 13 ≡ true = rw n.0 refl in then_live (First high) got 100 (Second high 13, got) (rw f refl) (second_live high 13 got f)
]

pub piece_live : (p : Piece) (got text : List ℕ) → PieceHolds p got text → Live p got
piece_live Start got text f = ([], got, refl)
piece_live Last got text f = (128 ∷ [], got ++ 128 ∷ [], refl)
piece_live (LastButOne least most) got text f = then_live (LastButOne least most) got least (Last, got ++ least ∷ []) (rw (between_true least most least (omega arith) f.0) refl) (128 ∷ [], (got ++ least ∷ []) ++ 128 ∷ [], refl)
piece_live (LastButTwo least most) got text f =
    then_live (LastButTwo least most) got least (LastButOne 128 191, got ++ least ∷ []) (rw (between_true least most least (omega arith) f.0) refl) (128 ∷ 128 ∷ [], ((got ++ least ∷ []) ++ 128 ∷ []) ++ 128 ∷ [], refl)
piece_live Letter got text f = (98 ∷ [], got ++ encode 8, refl)
piece_live (First high) got text f = first_live high got
piece_live (Second high value) got text f = second_live high value got f.4
piece_live (Third high value) got text f = third_live high value got
piece_live (Fourth high value) got text f = fourth_live high value got
piece_live (Backslash high) got text f = then_live (Backslash high) got 92 (U high, got) refl (then_live (U high) got 117 (First high, got) refl (first_live high got))
piece_live (U high) got text f = then_live (U high) got 117 (First high, got) refl (first_live high got)

-- ---- what was read is UTF-8

same_scalar : (k c : ℕ) → Some k ≡ Some c → IsScalar k → IsScalar c
same_scalar k c h ok = let e : k ≡ c = cc in subst IsScalar e ok

escaped_scalar : (letter c : ℕ) → escaped letter ≡ Some c → IsScalar c
escaped_scalar letter c h = elim (eqb_tells letter 34) [
  | inl i ↦ let r = rw i.0 at h in same_scalar 34 c r refl
  | inr a ↦ elim (eqb_tells letter 92) [
    | inl i ↦ let r = rw (a.0, i.0) at h in same_scalar 92 c r refl
    | inr b ↦ elim (eqb_tells letter 47) [
      | inl i ↦ let r = rw (a.0, b.0, i.0) at h in same_scalar 47 c r refl
      | inr d ↦ elim (eqb_tells letter 98) [
        | inl i ↦ let r = rw (a.0, b.0, d.0, i.0) at h in same_scalar 8 c r refl
        | inr e ↦ elim (eqb_tells letter 102) [
          | inl i ↦ let r = rw (a.0, b.0, d.0, e.0, i.0) at h in same_scalar 12 c r refl
          | inr f ↦ elim (eqb_tells letter 110) [
            | inl i ↦ let r = rw (a.0, b.0, d.0, e.0, f.0, i.0) at h in same_scalar 10 c r refl
            | inr g ↦ elim (eqb_tells letter 114) [
              | inl i ↦ let r = rw (a.0, b.0, d.0, e.0, f.0, g.0, i.0) at h in same_scalar 13 c r refl
              | inr k ↦ elim (eqb_tells letter 116) [
                | inl i ↦ let r = rw (a.0, b.0, d.0, e.0, f.0, g.0, k.0, i.0) at h in same_scalar 9 c r refl
                | inr l ↦ let r = rw (a.0, b.0, d.0, e.0, f.0, g.0, k.0, l.0) at h in cc r
              ]
            ]
          ]
        ]
      ]
    ]
  ]
]

char_scalar : (c : ℕ) (text : List ℕ) → SpellsChar c text → IsScalar c
char_scalar c text s = elim s [
  | plain ok low q n e ↦ ok
  | short letter h e ↦ escaped_scalar letter c h
  | unit ok u ↦ ok
  | pair high low front back lh hh ll hl is u k e ↦ high_scalar c (omega arith) (omega arith)
]

pub chars_utf8 : (bytes text : List ℕ) → SpellsChars bytes text → IsUtf8 bytes
chars_utf8 _ _ none = IsUtf8-nil
chars_utf8 _ _ (more c bytes front back all text is those e f) = subst IsUtf8 (sym e) (IsUtf8-append (encode c) bytes (IsUtf8-encode c (char_scalar c front is)) (chars_utf8 bytes back those))
