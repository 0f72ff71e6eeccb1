-- The bytes of a character, by the ranges of its bytes (RFC 3629, section 4).
use Rattle.std.proofs.Common.{◌≡◌, ◌≢◌, ◌⊎◌, ℕ, ◌+◌, ◌-◌, ◌*◌, ◌/◌, ◌<◌, ◌≤◌, ◌==◌, true, false, List, [], ◌∷◌, ◌++◌, Some, inl, inr, refl, sym, ◌∙◌, arith, le-leb, le-ltb, lt-ltb}
use Rattle.std.proofs.lemmas.Bool.Decides.{eqb_tells, leb_tells}
use Rattle.std.proofs.lemmas.Bool.{cases_lt, lt-leb}
use Rattle.std.proofs.lemmas.Str.{encode_ascii}
use Rattle.std.specs.Char.{IsScalar}
use lib.Utf8.{scalar, encode, next, low_scalar, scalar_cases}
use Rattle.usp_json.specs.Pieces.{between, start_step}
use Rattle.usp_json.specs.declared.states.Piece.TheVariants.{Start, Last, LastButOne, LastButTwo}

pub between_true : (l m b : ℕ) → l ≤ b → b ≤ m → between l m b ≡ true
between_true l m b h k = rw (le-leb l b h, le-leb b m k) refl

pub between_low : (l m b : ℕ) → b < l → between l m b ≡ false
between_low l m b h = rw (lt-leb l b h) refl

pub between_high : (l m b : ℕ) → m < b → between l m b ≡ false
between_high l m b h = elim (leb_tells l b) [
  | inl e ↦ rw (e.0, lt-leb b m h) refl
  | inr e ↦ rw e.0 refl
]

pub between_tells : (l m b : ℕ) → ((between l m b ≡ true) × (l ≤ b) × (b ≤ m)) ⊎ ((between l m b ≡ false) × ((b < l) ⊎ (m < b)))
between_tells l m b = elim (cases_lt b l) [
  | inl low ↦ inr (between_low l m b low, inl low)
  | inr h ↦ elim (cases_lt m b) [
    | inl high ↦ inr (between_high l m b high, inr high)
    | inr k ↦ inl (between_true l m b h k, h, k)
  ]
]

pub differs : (a b : ℕ) → a ≢ b → (a == b) ≡ false
differs a b h = elim (eqb_tells a b) [ inl e ↦ absurd (h e.1) | inr e ↦ e.0 ]

pub two : (c : ℕ) → 128 ≤ c → c < 2048 → encode c ≡ (192 + c / 64) ∷ next c ∷ []
unfolding encode
two c l h = rw (le-ltb c 128 l, lt-ltb c 2048 h)

pub three : (c : ℕ) → 2048 ≤ c → c < 65536 → encode c ≡ (224 + c / 4096) ∷ next (c / 64) ∷ next c ∷ []
unfolding encode
three c l h = rw (le-ltb c 128 (omega arith), le-ltb c 2048 l, lt-ltb c 65536 h)

pub four : (c : ℕ) → 65536 ≤ c → encode c ≡ (240 + c / 262144) ∷ next (c / 4096) ∷ next (c / 64) ∷ next c ∷ []
unfolding encode
four c l = rw (le-ltb c 128 (omega arith), le-ltb c 2048 (omega arith), le-ltb c 65536 l)

pub ruleset utf8_rules = (encode_ascii, two, three, four)

pub high_scalar : (c : ℕ) → 57344 ≤ c → c < 1114112 → scalar c ≡ true
high_scalar c l h = rw (le-ltb c 55296 (omega arith), le-leb 57344 c l, lt-ltb c 1114112 h)

-- those bytes are a character above ASCII
pub record IsWide (bytes : List ℕ) : Type 0 where
  pub c : ℕ
  pub is_scalar : IsScalar c
  pub wide : 128 ≤ c
  pub spelled : bytes ≡ encode c

pub two_wide : (a b : ℕ) → 194 ≤ a → a ≤ 223 → 128 ≤ b → b ≤ 191 → IsWide (a ∷ b ∷ [])
two_wide a b la ha lb hb =
    let c = (a - 192) * 64 + (b - 128) in
    let p : 192 + c / 64 ≡ a = omega arith in
    let q : next c ≡ b = omega arith in
    record { c = c; is_scalar = low_scalar c (omega arith); wide = omega arith; spelled = sym (two c (omega arith) (omega arith) ∙ (λ k. p k ∷ q k ∷ [])) }

three_bytes : (x y z : ℕ) → 224 ≤ x → (128 ≤ y) × (y ≤ 191) → (128 ≤ z) × (z ≤ 191)
    → let c = (x - 224) * 4096 + (y - 128) * 64 + (z - 128) in (224 + c / 4096 ≡ x) × (next (c / 64) ≡ y) × (next c ≡ z)
three_bytes x y z h f g = (omega arith, omega arith, omega arith)

pub three_wide : (a b c : ℕ) → 224 ≤ a → a ≤ 239 → 128 ≤ b → b ≤ 191 → (225 ≤ a) ⊎ (160 ≤ b) → (a < 237) ⊎ ((237 < a) ⊎ (b ≤ 159)) → 128 ≤ c → c ≤ 191 → IsWide (a ∷ b ∷ c ∷ [])
three_wide a b c la ha lb hb low high lc hc =
    let v = (a - 224) * 4096 + (b - 128) * 64 + (c - 128) in
    let bytes = three_bytes a b c la (lb, hb) (lc, hc) in
    let p = bytes.0 in
    let q = bytes.1 in
    let r = bytes.2 in
    let ok : scalar v ≡ true = elim (cases_lt v 55296) [ inl s ↦ low_scalar v s | inr s ↦ high_scalar v (omega arith) (omega arith) ] in
    record { c = v; is_scalar = ok; wide = omega arith; spelled = sym (three v (omega arith) (omega arith) ∙ (λ k. p k ∷ q k ∷ r k ∷ [])) }

four_bytes : (x y z w : ℕ) → 240 ≤ x → (128 ≤ y) × (y ≤ 191) → (128 ≤ z) × (z ≤ 191) → (128 ≤ w) × (w ≤ 191)
    → let c = (x - 240) * 262144 + (y - 128) * 4096 + (z - 128) * 64 + (w - 128) in (240 + c / 262144 ≡ x) × (next (c / 4096) ≡ y) × (next (c / 64) ≡ z) × (next c ≡ w)
four_bytes x y z w h f g j =
    let e : ((x - 240) * 262144 + (y - 128) * 4096 + (z - 128) * 64 + (w - 128)) / 64 ≡ (x - 240) * 4096 + (y - 128) * 64 + (z - 128) = omega arith in
    (omega arith, omega arith, rw e (omega arith), omega arith)

pub four_wide : (a b c d : ℕ) → 240 ≤ a → a ≤ 244 → 128 ≤ b → b ≤ 191 → (241 ≤ a) ⊎ (144 ≤ b) → (a < 244) ⊎ (b ≤ 143) → 128 ≤ c → c ≤ 191 → 128 ≤ d → d ≤ 191 → IsWide (a ∷ b ∷ c ∷ d ∷ [])
four_wide a b c d la ha lb hb low high lc hc ld hd =
    let v = (a - 240) * 262144 + (b - 128) * 4096 + (c - 128) * 64 + (d - 128) in
    let bytes = four_bytes a b c d la (lb, hb) (lc, hc) (ld, hd) in
    let p = bytes.0 in
    let q = bytes.1 in
    let r = bytes.2 in
    let t = bytes.3 in
    record { c = v; is_scalar = high_scalar v (omega arith) (omega arith); wide = omega arith; spelled = sym (four v (omega arith) ∙ (λ k. p k ∷ q k ∷ r k ∷ t k ∷ [])) }

-- the first bytes
pub lead_one : (got : List ℕ) (b : ℕ) → 32 ≤ b → b < 128 → b ≢ 34 → b ≢ 92 → start_step got b ≡ Some (Start, got ++ b ∷ [])
lead_one got b l h q s = rw (differs b 34 q, differs b 92 s, between_true 32 127 b l (omega arith)) refl

pub lead_two : (got : List ℕ) (b : ℕ) → 194 ≤ b → b ≤ 223 → start_step got b ≡ Some (Last, got ++ b ∷ [])
lead_two got b l h = rw (differs b 34 (λ e. omega arith), differs b 92 (λ e. omega arith), between_high 32 127 b (omega arith), between_true 194 223 b l h) refl

pub lead_three : (got : List ℕ) (b : ℕ) → 225 ≤ b → b ≤ 239 → b ≢ 237 → start_step got b ≡ Some (LastButOne 128 191, got ++ b ∷ [])
lead_three got b l h n =
    rw (differs b 34 (λ e. omega arith), differs b 92 (λ e. omega arith), between_high 32 127 b (omega arith), between_high 194 223 b (omega arith), differs b 224 (λ e. omega arith), differs b 237 n, between_true 225 239 b l h)
    refl

pub lead_four : (got : List ℕ) (b : ℕ) → 241 ≤ b → b ≤ 243 → start_step got b ≡ Some (LastButTwo 128 191, got ++ b ∷ [])
lead_four got b l h =
    rw (
      differs b 34 (λ e. omega arith),
      differs b 92 (λ e. omega arith),
      between_high 32 127 b (omega arith),
      between_high 194 223 b (omega arith),
      differs b 224 (λ e. omega arith),
      differs b 237 (λ e. omega arith),
      between_high 225 239 b (omega arith),
      differs b 240 (λ e. omega arith),
      between_true 241 243 b l h,
    )
    refl

-- the four shapes of a character's bytes
pub data Shape (c : ℕ) : Type 0 where
  one : c < 128 → encode c ≡ c ∷ [] → Shape c
  two_bytes : (a b : ℕ) → 194 ≤ a → a ≤ 223 → 128 ≤ b → b ≤ 191 → encode c ≡ a ∷ b ∷ [] → Shape c
  three_of : (a b d : ℕ) → 224 ≤ a → a ≤ 239 → 128 ≤ b → b ≤ 191 → (225 ≤ a) ⊎ (160 ≤ b) → (a < 237) ⊎ ((237 < a) ⊎ (b ≤ 159)) → 128 ≤ d → d ≤ 191 → encode c ≡ a ∷ b ∷ d ∷ [] → Shape c
  four_of : (a b d e : ℕ) → 240 ≤ a → a ≤ 244 → 128 ≤ b → b ≤ 191 → (241 ≤ a) ⊎ (144 ≤ b) → (a < 244) ⊎ (b ≤ 143) → 128 ≤ d → d ≤ 191 → 128 ≤ e → e ≤ 191 → encode c ≡ a ∷ b ∷ d ∷ e ∷ [] → Shape c

pub shape : (c : ℕ) → IsScalar c → Shape c
shape c ok =
    let range = scalar_cases c ok in
    elim (cases_lt c 128) [
      | inl a ↦ one a (encode_ascii c a)
      | inr a ↦ elim (cases_lt c 2048) [
        | inl b ↦ two_bytes (192 + c / 64) (next c) (omega arith) (omega arith) (omega arith) (omega arith) (two c a b)
        | inr b ↦ elim (cases_lt c 65536) [
          | inl d ↦
              let low : (225 ≤ 224 + c / 4096) ⊎ (160 ≤ next (c / 64)) = elim (cases_lt c 4096) [ inl s ↦ inr (omega arith) | inr s ↦ inl (omega arith) ] in
              let high : (224 + c / 4096 < 237) ⊎ ((237 < 224 + c / 4096) ⊎ (next (c / 64) ≤ 159)) =
              elim (cases_lt c 53248) [ inl s ↦ inl (omega arith) | inr s ↦ elim (cases_lt c 57344) [ inl t ↦ inr (inr (omega arith)) | inr t ↦ inr (inl (omega arith)) ] ]
              in
              three_of (224 + c / 4096) (next (c / 64)) (next c) (omega arith) (omega arith) (omega arith) (omega arith) low high (omega arith) (omega arith) (three c b d)
          | inr d ↦
              let low : (241 ≤ 240 + c / 262144) ⊎ (144 ≤ next (c / 4096)) = elim (cases_lt c 262144) [ inl s ↦ inr (omega arith) | inr s ↦ inl (omega arith) ] in
              let high : (240 + c / 262144 < 244) ⊎ (next (c / 4096) ≤ 143) = elim (cases_lt c 1048576) [ inl s ↦ inl (omega arith) | inr s ↦ inr (omega arith) ] in
              four_of (240 + c / 262144) (next (c / 4096)) (next (c / 64)) (next c) (omega arith) (omega arith) (omega arith) (omega arith) low high (omega arith) (omega arith)
              (omega arith) (omega arith) (four c d)
        ]
      ]
    ]
