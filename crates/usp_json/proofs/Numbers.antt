-- The test for numbers passes the spellings of numbers, and nothing else.
use Rattle.std.proofs.Common.{◌≡◌, ◌≢◌, ◌⊎◌, ℕ, ◌+◌, ◌<◌, ◌≤◌, Bool, true, false, cond, List, [], ◌∷◌, ◌++◌, Option, Some, None, inl, inr, refl, sym, ap, ◌∙◌, subst, arith, append_assoc, append-nil, ap₂, ◌/◌, ◌%◌, ◌^◌, ◌==◌, le-leb}
use Rattle.std.specs.Fmt.{decimal}
use Rattle.std.proofs.lemmas.Fmt.{decimal_by_steps}
use Rattle.std.specs.Option.{option_and_then}
use Rattle.std.proofs.lemmas.Bool.Decides.{eqb_tells}
use Rattle.usp_base.specs.Numbers.{is_digit}
use Rattle.usp_json.specs.Grammar.{Each, is_mark, is_sign, AreDigits, IsMinus, IsSigned, IsInteger, IsDecimal, IsNumber}
use Rattle.usp_json.specs.Number.{number_step, number_first, number_run, is_whole_number, ends_number, is_number}
use Rattle.usp_json.specs.declared.states.NumberPart.{NumberPart}
use Rattle.usp_json.specs.declared.states.NumberPart.TheVariants.{Minus, Zero, Whole, Point, Fraction, Mark, Sign, Exponent}

pub tells : (t : Bool) → (t ≡ true) ⊎ (t ≡ false)
tells true = inl refl
tells false = inr refl

pub each_snoc : (test : ℕ → Bool) (xs : List ℕ) (b : ℕ) → Each test xs → test b ≡ true → Each test (xs ++ b ∷ [])
each_snoc test [] b h t = (t, tt)
each_snoc test (x ∷ xs) b h t = (h.0, each_snoc test xs b h.1 t)

digits_snoc : (xs : List ℕ) (b : ℕ) → AreDigits xs → is_digit b ≡ true → AreDigits (xs ++ b ∷ [])
digits_snoc [] b h t = absurd (omega arith)
digits_snoc (x ∷ xs) b h t = (omega arith, each_snoc is_digit (x ∷ xs) b h.1 t)

-- what was read of a number, up to a byte of that part
abbrev pub NumberFront : NumberPart → List ℕ → Type 0
NumberFront Minus text = text ≡ 45 ∷ []
NumberFront Zero text = (minus : List ℕ) × IsMinus minus × (text ≡ minus ++ 48 ∷ [])
NumberFront Whole text = (minus : List ℕ) × (first : ℕ) × (rest : List ℕ) × IsMinus minus × (is_digit first ≡ true) × (first ≢ 48) × Each is_digit rest × (text ≡ minus ++ first ∷ rest)
NumberFront Point text = (integer : List ℕ) × IsInteger integer × (text ≡ integer ++ 46 ∷ [])
NumberFront Fraction text = (integer digits : List ℕ) × IsInteger integer × AreDigits digits × (text ≡ integer ++ 46 ∷ digits)
NumberFront Mark text = (decimal : List ℕ) × (mark : ℕ) × IsDecimal decimal × (is_mark mark ≡ true) × (text ≡ decimal ++ mark ∷ [])
NumberFront Sign text = (decimal : List ℕ) × (mark sign : ℕ) × IsDecimal decimal × (is_mark mark ≡ true) × (is_sign sign ≡ true) × (text ≡ decimal ++ mark ∷ sign ∷ [])
NumberFront Exponent text = (decimal : List ℕ) × (mark : ℕ) × (sign digits : List ℕ) × IsDecimal decimal × (is_mark mark ≡ true) × IsSigned sign × AreDigits digits
    × (text ≡ decimal ++ mark ∷ (sign ++ digits))

zero_integer : (text : List ℕ) → NumberFront Zero text → IsInteger text
zero_integer text f = record { minus = f.0; whole = 48 ∷ []; is_minus = f.1; is_whole = inl refl; spelled = f.2 }

whole_integer : (text : List ℕ) → NumberFront Whole text → IsInteger text
whole_integer text f = record { minus = f.0; whole = f.1 ∷ f.2; is_minus = f.3; is_whole = inr (f.1, f.2, refl, f.4, f.5, f.6); spelled = f.7 }

integer_decimal : (text : List ℕ) → IsInteger text → IsDecimal text
integer_decimal text i = record { integer = text; fraction = []; is_integer = i; is_fraction = inl refl; spelled = sym (append-nil text) }

fraction_decimal : (text : List ℕ) → NumberFront Fraction text → IsDecimal text
fraction_decimal text f = record { integer = f.0; fraction = 46 ∷ f.1; is_integer = f.2; is_fraction = inr (f.1, refl, f.3); spelled = f.4 }

decimal_number : (text : List ℕ) → IsDecimal text → IsNumber text
decimal_number text d = record { decimal = text; exponent = []; is_decimal = d; is_exponent = inl refl; spelled = sym (append-nil text) }

exponent_number : (text : List ℕ) → NumberFront Exponent text → IsNumber text
exponent_number text f = record { decimal = f.0; exponent = f.1 ∷ (f.2 ++ f.3); is_decimal = f.4; is_exponent = inr (f.1, f.2, f.3, f.5, f.6, refl, f.7); spelled = f.8 }

-- where a number may end, it is one
pub front_ends : (p : NumberPart) (text : List ℕ) → is_whole_number p ≡ true → NumberFront p text → IsNumber text
front_ends Minus text e f = cc
front_ends Zero text e f = decimal_number text (integer_decimal text (zero_integer text f))
front_ends Whole text e f = decimal_number text (integer_decimal text (whole_integer text f))
front_ends Point text e f = cc
front_ends Fraction text e f = decimal_number text (fraction_decimal text f)
front_ends Mark text e f = cc
front_ends Sign text e f = cc
front_ends Exponent text e f = exponent_number text f

same_some : (p q : NumberPart) → Some p ≡ Some q → p ≡ q
same_some p q h = cc

moved : (p q : NumberPart) (text : List ℕ) → Some p ≡ Some q → NumberFront p text → NumberFront q text
moved p q text h f = subst (λ (r : NumberPart). NumberFront r text) (same_some p q h) f

after_decimal : (text : List ℕ) (b : ℕ) (q : NumberPart) (t : Bool) → is_mark b ≡ t → IsDecimal text → cond t (Some Mark) None ≡ Some q → NumberFront q (text ++ b ∷ [])
after_decimal text b q true m d h = moved Mark q (text ++ b ∷ []) h (text, b, d, m, refl)
after_decimal text b q false m d h = cc

-- one more byte
pub front_step : (p q : NumberPart) (b : ℕ) (text : List ℕ) → NumberFront p text → number_step p b ≡ Some q → NumberFront q (text ++ b ∷ [])
front_step Minus q b text f h = elim (eqb_tells b 48) [
  | inl zero ↦ let r = rw zero.0 at h in moved Zero q (text ++ b ∷ []) r (text, inr f, rw zero.1 refl)
  | inr other ↦ elim (tells (is_digit b)) [
    | inl digit ↦ let r = rw (other.0, digit) at h in moved Whole q (text ++ b ∷ []) r (text, b, [], inr f, digit, other.1, tt, refl)
    | inr never ↦ let r = rw (other.0, never) at h in cc r
  ]
]
front_step Zero q b text f h = elim (eqb_tells b 46) [
  | inl point ↦ let r = rw point.0 at h in moved Point q (text ++ b ∷ []) r (text, zero_integer text f, rw point.1 refl)
  | inr other ↦ after_decimal text b q (is_mark b) refl (integer_decimal text (zero_integer text f)) (let r = rw other.0 at h in r)
]
front_step Whole q b text f h = elim (tells (is_digit b)) [
  | inl digit ↦
      let r = rw digit at h in
      moved Whole q (text ++ b ∷ []) r (f.0, f.1, f.2 ++ b ∷ [], f.3, f.4, f.5, each_snoc is_digit f.2 b f.6 digit, rw f.7 (append_assoc f.0 (f.1 ∷ f.2) (b ∷ [])))
  | inr never ↦ elim (eqb_tells b 46) [
    | inl point ↦ let r = rw (never, point.0) at h in moved Point q (text ++ b ∷ []) r (text, whole_integer text f, rw point.1 refl)
    | inr other ↦ after_decimal text b q (is_mark b) refl (integer_decimal text (whole_integer text f)) (let r = rw (never, other.0) at h in r)
  ]
]
front_step Point q b text f h = elim (tells (is_digit b)) [
  | inl digit ↦
      let r = rw digit at h in
      moved Fraction q (text ++ b ∷ []) r (f.0, b ∷ [], f.1, (omega arith, (digit, tt)), rw f.2 (append_assoc f.0 (46 ∷ []) (b ∷ [])))
  | inr never ↦ let r = rw never at h in cc r
]
front_step Fraction q b text f h = elim (tells (is_digit b)) [
  | inl digit ↦
      let r = rw digit at h in
      moved Fraction q (text ++ b ∷ []) r (f.0, f.1 ++ b ∷ [], f.2, digits_snoc f.1 b f.3 digit, rw f.4 (append_assoc f.0 (46 ∷ f.1) (b ∷ [])))
  | inr never ↦ after_decimal text b q (is_mark b) refl (fraction_decimal text f) (let r = rw never at h in r)
]
front_step Mark q b text f h = elim (tells (is_digit b)) [
  | inl digit ↦
      let r = rw digit at h in
      moved Exponent q (text ++ b ∷ []) r (f.0, f.1, [], b ∷ [], f.2, f.3, inl refl, (omega arith, (digit, tt)), rw f.4 (append_assoc f.0 (f.1 ∷ []) (b ∷ [])))
  | inr never ↦ elim (tells (is_sign b)) [
    | inl sign ↦ let r = rw (never, sign) at h in moved Sign q (text ++ b ∷ []) r (f.0, f.1, b, f.2, f.3, sign, rw f.4 (append_assoc f.0 (f.1 ∷ []) (b ∷ [])))
    | inr none ↦ let r = rw (never, none) at h in cc r
  ]
]
front_step Sign q b text f h = elim (tells (is_digit b)) [
  | inl digit ↦
      let r = rw digit at h in
      moved Exponent q (text ++ b ∷ []) r (f.0, f.1, f.2 ∷ [], b ∷ [], f.3, f.4, inr (f.2, refl, f.5), (omega arith, (digit, tt)), rw f.6 (append_assoc f.0 (f.1 ∷ f.2 ∷ []) (b ∷ [])))
  | inr never ↦ let r = rw never at h in cc r
]
front_step Exponent q b text f h = elim (tells (is_digit b)) [
  | inl digit ↦
      let r = rw digit at h in
      moved Exponent q (text ++ b ∷ []) r
      (f.0, f.1, f.2, f.3 ++ b ∷ [], f.4, f.5, f.6, digits_snoc f.3 b f.7 digit, rw f.8 (append_assoc f.0 (f.1 ∷ (f.2 ++ f.3)) (b ∷ []) ∙ ap (λ l. f.0 ++ f.1 ∷ l) (append_assoc f.2 f.3 (b ∷ []))))
  | inr never ↦ let r = rw never at h in cc r
]

pub front_first : (b : ℕ) (p : NumberPart) → number_first b ≡ Some p → NumberFront p (b ∷ [])
front_first b p h = elim (eqb_tells b 45) [
  | inl minus ↦ let r = rw minus.0 at h in moved Minus p (b ∷ []) r (rw minus.1 refl)
  | inr other ↦ elim (eqb_tells b 48) [
    | inl zero ↦ let r = rw (other.0, zero.0) at h in moved Zero p (b ∷ []) r ([], inl refl, rw zero.1 refl)
    | inr more ↦ elim (tells (is_digit b)) [
      | inl digit ↦ let r = rw (other.0, more.0, digit) at h in moved Whole p (b ∷ []) r ([], b, [], inl refl, digit, more.1, tt, refl)
      | inr never ↦ let r = rw (other.0, more.0, never) at h in cc r
    ]
  ]
]

pub then_case : {A B : Type 0} (f : A → Option B) (o : Option A) (t : B) → option_and_then f o ≡ Some t → (u : A) × (o ≡ Some u) × (f u ≡ Some t)
then_case f None t h = cc
then_case f (Some u) t h = (u, refl, h)

run_front : (p q : NumberPart) (bs text : List ℕ) → NumberFront p text → number_run p bs ≡ Some q → NumberFront q (text ++ bs)
run_front p q [] text f h = rw (append-nil text) (moved p q text h f)
run_front p q (b ∷ bs) text f h =
    let c = then_case (λ r. number_run r bs) (number_step p b) q h in
    rw append_assoc at (run_front c.0 q bs (text ++ b ∷ []) (front_step p c.0 b text f c.1) c.2)

ends_front : (o : Option NumberPart) (text : List ℕ) → ends_number o ≡ true → ((q : NumberPart) → o ≡ Some q → NumberFront q text) → IsNumber text
ends_front None text e f = cc
ends_front (Some q) text e f = front_ends q text e (f q refl)

-- what passes the test is a number
pub is_number_sound : (text : List ℕ) → is_number text ≡ true → IsNumber text
is_number_sound [] h = cc
is_number_sound (b ∷ bs) h =
    ends_front (option_and_then (λ p. number_run p bs) (number_first b)) (b ∷ bs) h
    (λ q e. let c = then_case (λ p. number_run p bs) (number_first b) q e in run_front c.0 q bs (b ∷ []) (front_first b c.0 c.1) c.2)

-- ---- a number passes

-- a mark may follow a byte of that part, and a number may end there
abbrev TakesMark : NumberPart → Type 0
TakesMark p = (is_whole_number p ≡ true) × ((b : ℕ) → is_mark b ≡ true → number_step p b ≡ Some Mark)

-- the bytes are read as a number's front that ends in such a part
pub record Reads (P : NumberPart → Type 0) (text : List ℕ) : Type 0 where
  pub b : ℕ
  pub bs : List ℕ
  pub p : NumberPart
  pub q : NumberPart
  pub spelled : text ≡ b ∷ bs
  pub first : number_first b ≡ Some p
  pub run : number_run p bs ≡ Some q
  pub holds : P q

pub number_then : (p q : NumberPart) (xs ys : List ℕ) → number_run p xs ≡ Some q → number_run p (xs ++ ys) ≡ number_run q ys
number_then p q [] ys h = ap (λ r. number_run r ys) (same_some p q h)
number_then p q (x ∷ xs) ys h = let c = then_case (λ r. number_run r xs) (number_step p x) q h in rw c.1 (number_then c.0 q xs ys c.2)

number_one : (p q : NumberPart) (b : ℕ) (bs : List ℕ) → number_step p b ≡ Some q → number_run p (b ∷ bs) ≡ number_run q bs
number_one p q b bs h = rw h refl

stays : (p : NumberPart) (same : (b : ℕ) → is_digit b ≡ true → number_step p b ≡ Some p) (ds : List ℕ) → Each is_digit ds → number_run p ds ≡ Some p
stays p same [] e = refl
stays p same (d ∷ ds) e = rw (same d e.0) (stays p same ds e.1)

whole_stays : (ds : List ℕ) → Each is_digit ds → number_run Whole ds ≡ Some Whole
whole_stays ds e = stays Whole (λ b h. rw h refl) ds e

fraction_stays : (ds : List ℕ) → Each is_digit ds → number_run Fraction ds ≡ Some Fraction
fraction_stays ds e = stays Fraction (λ b h. rw h refl) ds e

exponent_stays : (ds : List ℕ) → Each is_digit ds → number_run Exponent ds ≡ Some Exponent
exponent_stays ds e = stays Exponent (λ b h. rw h refl) ds e

then_digits : (p q : NumberPart) (into : (b : ℕ) → is_digit b ≡ true → number_step p b ≡ Some q) (same : (b : ℕ) → is_digit b ≡ true → number_step q b ≡ Some q) (ds : List ℕ)
    → AreDigits ds → number_run p ds ≡ Some q
then_digits p q into same [] d = absurd (omega arith)
then_digits p q into same (x ∷ xs) d = rw (into x d.1.0) (stays q same xs d.1.1)

-- a mark is no digit and no point
mark_cases : (b : ℕ) → is_mark b ≡ true → (b ≡ 101) ⊎ (b ≡ 69)
mark_cases b h = elim (eqb_tells b 101) [
  | inl low ↦ inl low.1
  | inr other ↦ elim (eqb_tells b 69) [ inl high ↦ inr high.1 | inr never ↦ let r = rw (other.0, never.0) at h in cc r ]
]

marks : (p : NumberPart) → number_step p 101 ≡ Some Mark → number_step p 69 ≡ Some Mark → (b : ℕ) → is_mark b ≡ true → number_step p b ≡ Some Mark
marks p low high b h = elim (mark_cases b h) [ inl e ↦ rw e low | inr e ↦ rw e high ]

sign_cases : (b : ℕ) → is_sign b ≡ true → (b ≡ 43) ⊎ (b ≡ 45)
sign_cases b h = elim (eqb_tells b 43) [
  | inl low ↦ inl low.1
  | inr other ↦ elim (eqb_tells b 45) [ inl high ↦ inr high.1 | inr never ↦ let r = rw (other.0, never.0) at h in cc r ]
]

signs : (b : ℕ) → is_sign b ≡ true → number_step Mark b ≡ Some Sign
signs b h = elim (sign_cases b h) [ inl e ↦ rw e refl | inr e ↦ rw e refl ]

-- a point may follow too
abbrev TakesPoint : NumberPart → Type 0
TakesPoint p = TakesMark p × (number_step p 46 ≡ Some Point)

zero_takes : TakesPoint Zero
zero_takes = ((refl, marks Zero refl refl), refl)

whole_takes : TakesPoint Whole
whole_takes = ((refl, marks Whole refl refl), refl)

not_zero : (first : ℕ) → first ≢ 48 → (first == 48) ≡ false
not_zero first h = elim (eqb_tells first 48) [ inl e ↦ absurd (h e.1) | inr e ↦ e.0 ]

not_minus : (first : ℕ) → is_digit first ≡ true → (first == 45) ≡ false
not_minus first h = elim (eqb_tells first 45) [ inl e ↦ let r = rw e.1 at h in cc r | inr e ↦ e.0 ]

first_digit : (first : ℕ) → is_digit first ≡ true → number_first first ≡ number_step Minus first
first_digit first h = rw (not_minus first h) refl

first_whole : (first : ℕ) → is_digit first ≡ true → first ≢ 48 → number_step Minus first ≡ Some Whole
first_whole first h n = rw (not_zero first n, h) refl

integer_reads : (text : List ℕ) → IsInteger text → Reads TakesPoint text
integer_reads text i = elim i.is_minus [
  | inl plus ↦ elim i.is_whole [
    | inl zero ↦ record { b = 48; bs = []; p = Zero; q = Zero; spelled = i.spelled ∙ ap₂ (λ (x y : List ℕ). x ++ y) plus zero; first = refl; run = refl; holds = zero_takes }
    | inr w ↦ record { b = w.0; bs = w.1; p = Whole; q = Whole; spelled = i.spelled ∙ ap₂ (λ (x y : List ℕ). x ++ y) plus w.2; first = first_digit w.0 w.3 ∙ first_whole w.0 w.3 w.4; run = whole_stays w.1 w.5; holds = whole_takes }
  ]
  | inr minus ↦ elim i.is_whole [
    | inl zero ↦ record { b = 45; bs = 48 ∷ []; p = Minus; q = Zero; spelled = i.spelled ∙ ap₂ (λ (x y : List ℕ). x ++ y) minus zero; first = refl; run = refl; holds = zero_takes }
    | inr w ↦ record {
      b = 45;
      bs = w.0 ∷ w.1;
      p = Minus;
      q = Whole;
      spelled = i.spelled ∙ ap₂ (λ (x y : List ℕ). x ++ y) minus w.2;
      first = refl;
      run = number_one Minus Whole w.0 w.1 (first_whole w.0 w.3 w.4) ∙ whole_stays w.1 w.5;
      holds = whole_takes;
    }
  ]
]

-- what is read, and more behind it
reads_more : (P Q : NumberPart → Type 0) (front back : List ℕ) → (r : Reads P front) → (q : NumberPart) → number_run r.q back ≡ Some q → Q q → Reads Q (front ++ back)
reads_more P Q front back r q run holds = record {
  b = r.b;
  bs = r.bs ++ back;
  p = r.p;
  q = q;
  spelled = ap (λ l. l ++ back) r.spelled;
  first = r.first;
  run = number_then r.p r.q r.bs back r.run ∙ run;
  holds = holds;
}

reads_same : (P : NumberPart → Type 0) (text other : List ℕ) → other ≡ text → Reads P text → Reads P other
reads_same P text other e r = record { b = r.b; bs = r.bs; p = r.p; q = r.q; spelled = e ∙ r.spelled; first = r.first; run = r.run; holds = r.holds }

decimal_reads : (text : List ℕ) → IsDecimal text → Reads TakesMark text
decimal_reads text d =
    let r = integer_reads d.integer d.is_integer in
    elim d.is_fraction [
      | inl none ↦ reads_same TakesMark (d.integer ++ []) text (d.spelled ∙ ap (λ l. d.integer ++ l) none) (reads_more TakesPoint TakesMark d.integer [] r r.q refl r.holds.0)
      | inr f ↦
          reads_same TakesMark (d.integer ++ 46 ∷ f.0) text (d.spelled ∙ ap (λ l. d.integer ++ l) f.1)
          (reads_more TakesPoint TakesMark d.integer (46 ∷ f.0) r Fraction
          (number_one r.q Point 46 f.0 r.holds.1 ∙ then_digits Point Fraction (λ b h. rw h refl) (λ b h. rw h refl) f.0 f.2) (refl, marks Fraction refl refl))
    ]

-- a number may end in that part
abbrev Ends : NumberPart → Type 0
Ends p = is_whole_number p ≡ true

after_mark : (sign digits : List ℕ) → IsSigned sign → AreDigits digits → number_run Mark (sign ++ digits) ≡ Some Exponent
after_mark sign digits s d = elim s [
  | inl none ↦ rw none (then_digits Mark Exponent (λ b h. rw h refl) (λ b h. rw h refl) digits d)
  | inr one ↦ rw one.1 (number_one Mark Sign one.0 digits (signs one.0 one.2) ∙ then_digits Sign Exponent (λ b h. rw h refl) (λ b h. rw h refl) digits d)
]

pub number_reads : (text : List ℕ) → IsNumber text → Reads Ends text
number_reads text n =
    let r = decimal_reads n.decimal n.is_decimal in
    elim n.is_exponent [
      | inl none ↦ reads_same Ends (n.decimal ++ []) text (n.spelled ∙ ap (λ l. n.decimal ++ l) none) (reads_more TakesMark Ends n.decimal [] r r.q refl r.holds.0)
      | inr e ↦
          reads_same Ends (n.decimal ++ e.0 ∷ (e.1 ++ e.2)) text (n.spelled ∙ ap (λ l. n.decimal ++ l) e.5)
          (reads_more TakesMark Ends n.decimal (e.0 ∷ (e.1 ++ e.2)) r Exponent (number_one r.q Mark e.0 (e.1 ++ e.2) (r.holds.1 e.0 e.3) ∙ after_mark e.1 e.2 e.4 e.6) refl)
    ]

pub is_number_complete : (text : List ℕ) → IsNumber text → is_number text ≡ true
is_number_complete text n =
    let r = number_reads text n in
    rw (r.spelled, r.first, r.run) r.holds

-- ---- a number in decimal

abbrev Plain : ℕ → List ℕ → Type 0
Plain n text = ((n ≡ 0) × (text ≡ 48 ∷ [])) ⊎ ((0 < n) × (first : ℕ) × (rest : List ℕ) × (text ≡ first ∷ rest) × (is_digit first ≡ true) × (first ≢ 48) × Each is_digit rest)

is_digit_within : (b : ℕ) → 48 ≤ b → b ≤ 57 → is_digit b ≡ true
is_digit_within b l h = rw (le-leb 48 b l, le-leb b 57 h) refl

plain_one : (n : ℕ) → n < 10 → Plain n ((48 + n) ∷ [])
plain_one n h = elim (eqb_tells n 0) [
  | inl zero ↦ inl (zero.1, rw zero.1 refl)
  | inr some ↦ inr (omega (arith, some.1), 48 + n, [], refl, is_digit_within (48 + n) (omega arith) (omega arith), (λ e. some.1 (omega arith)), tt)
]

plain_more : (n : ℕ) (ds : List ℕ) → 10 ≤ n → Plain (n / 10) ds → Plain n (ds ++ ((48 + n % 10) ∷ []))
plain_more n ds h p = elim p [
  | inl zero ↦ absurd (omega arith)
  | inr some ↦
      inr (
        omega arith,
        some.1,
        some.2 ++ ((48 + n % 10) ∷ []),
        ap (λ l. l ++ ((48 + n % 10) ∷ [])) some.3,
        some.4,
        some.5,
        each_snoc is_digit some.2 (48 + n % 10) some.6 (is_digit_within (48 + n % 10) (omega arith) (omega arith)),
      )
]

plain_number : (n : ℕ) (text : List ℕ) → Plain n text → IsNumber text
plain_number n text p = decimal_number text (integer_decimal text (elim p [
  | inl zero ↦ record { minus = []; whole = text; is_minus = inl refl; is_whole = inl zero.1; spelled = refl }
  | inr some ↦ record { minus = []; whole = text; is_minus = inl refl; is_whole = inr (some.1, some.2, some.3, some.4, some.5, some.6); spelled = refl }
]))

pub decimal_is_number : (n : ℕ) → n < 2 ^ 64 → is_number (decimal n) ≡ true
decimal_is_number n h = is_number_complete (decimal n) (plain_number n (decimal n) (decimal_by_steps Plain plain_one plain_more n h))
