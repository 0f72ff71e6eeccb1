-- The cookies that go with a request, longer paths first and each length in the order of the jar.
use Rattle.std.proofs.Common.{◌≡◌, ◌≤◌, ◌<◌, ◌+◌, zero, suc, refl, sym, ap, ◌∙◌, ℕ, Bool, true, false, ◌&&◌, eqb, subst, List, [], ◌∷◌, ◌++◌, length, cond, filter, slice_index_or, arith, append-nil, inl, inr}
use Rattle.std.proofs.lemmas.Bool.{cases_eq, cases_lt, eqb-true, ne_eqb}
use Rattle.std.proofs.lemmas.List.Elements.{filter-append}
use Rattle.usp_cookie.specs.Jars.{covers, is_sent, is_sent_of, sent, sent_below}
use Rattle.usp_cookie.specs.declared.cookie.Cookie.{Cookie}
use Rattle.usp_cookie.proofs.Headers.{no_longer}

-- ---- longer paths first

-- no path has more bytes than this, and none more than one before it
abbrev Falls : ℕ → List Cookie → Type 0
Falls most [] = Unit {0}
Falls most (cookie ∷ cookies) = (length cookie.path ≤ most) × Falls (length cookie.path) cookies

falls_more : (less more : ℕ) (cookies : List Cookie) → less ≤ more → Falls less cookies → Falls more cookies
falls_more less more [] le h = tt
falls_more less more (cookie ∷ cookies) le h = let first = h.0 in (omega (arith, le, first), h.1)

front_by : (size : ℕ) (cookie : Cookie) (l ys : List Cookie) (b s : Bool) → eqb (length cookie.path) size ≡ b → Falls size (l ++ ys)
    → Falls size (cond (b && s) (cookie ∷ l) l ++ ys)
front_by size cookie l ys true true is h =
    let same = eqb-true (length cookie.path) size is in
    (omega (arith, same), subst (λ n. Falls n (l ++ ys)) (sym same) h)
front_by size cookie l ys true false is h = h
front_by size cookie l ys false s is h = h

falls_front : (authority asked : List ℕ) (size : ℕ) (jar ys : List Cookie) → Falls size ys → Falls size (filter (is_sent_of authority asked size) jar ++ ys)
falls_front authority asked size [] ys h = h
falls_front authority asked size (cookie ∷ jar) ys h =
    front_by size cookie (filter (is_sent_of authority asked size) jar) ys (eqb (length cookie.path) size) (is_sent authority asked cookie) refl (falls_front authority asked size jar ys h)

falls_below : (authority asked : List ℕ) (size : ℕ) (jar : List Cookie) → Falls size (sent_below authority asked size jar)
falls_below authority asked zero jar = tt
falls_below authority asked (suc size) jar =
    falls_more size (suc size) (sent_below authority asked (suc size) jar) (omega arith)
    (falls_front authority asked size jar (sent_below authority asked size jar) (falls_below authority asked size jar))

at_most : (most : ℕ) (cookies : List Cookie) (j : ℕ) (other : Cookie) → Falls most cookies → j < length cookies → length (slice_index_or cookies j other).path ≤ most
at_most most [] j other h lt = absurd (omega (arith, lt))
at_most most (cookie ∷ cookies) zero other h lt = h.0
at_most most (cookie ∷ cookies) (suc j) other h lt =
    let first = h.0 in
    let rest = at_most (length cookie.path) cookies j other h.1 (omega (arith, lt)) in omega (arith, first, rest)

falls_at : (most : ℕ) (cookies : List Cookie) (i j : ℕ) (other : Cookie) → Falls most cookies → i < j → j < length cookies
    → length (slice_index_or cookies j other).path ≤ length (slice_index_or cookies i other).path
falls_at most [] i j other h lt within = absurd (omega (arith, within))
falls_at most (cookie ∷ cookies) i zero other h lt within = absurd (omega (arith, lt))
falls_at most (cookie ∷ cookies) zero (suc j) other h lt within = at_most (length cookie.path) cookies j other h.1 (omega (arith, within))
falls_at most (cookie ∷ cookies) (suc i) (suc j) other h lt within = falls_at (length cookie.path) cookies i j other h.1 (omega (arith, lt)) (omega (arith, within))

pub longer_first : (authority asked : List ℕ) (jar : List Cookie) (i j : ℕ) (other : Cookie) → i < j → j < length (sent authority asked jar)
    → length (slice_index_or (sent authority asked jar) j other).path ≤ length (slice_index_or (sent authority asked jar) i other).path
longer_first authority asked jar i j other lt within =
    falls_at (length asked + 1) (sent authority asked jar) i j other (falls_below authority asked (length asked + 1) jar) lt within

-- ---- the cookies of a length

abbrev has : ℕ → Cookie → Bool
has size cookie = eqb (length cookie.path) size

fused_by : (size : ℕ) (cookie : Cookie) (l : List Cookie) (b s : Bool) → has size cookie ≡ b → filter (has size) (cond s (cookie ∷ l) l) ≡ cond (b && s) (cookie ∷ filter (has size) l) (filter (has size) l)
fused_by size cookie l true true is = ap (λ b. cond b (cookie ∷ filter (has size) l) (filter (has size) l)) is
fused_by size cookie l true false is = refl
fused_by size cookie l false true is = ap (λ b. cond b (cookie ∷ filter (has size) l) (filter (has size) l)) is
fused_by size cookie l false false is = refl

-- those of the jar that go with the request
fused : (authority asked : List ℕ) (size : ℕ) (jar : List Cookie) → filter (has size) (filter (is_sent authority asked) jar) ≡ filter (is_sent_of authority asked size) jar
fused authority asked size [] = refl
fused authority asked size (cookie ∷ jar) =
    fused_by size cookie (filter (is_sent authority asked) jar) (has size cookie) (is_sent authority asked cookie) refl
    ∙ ap (λ (l : List Cookie). cond (is_sent_of authority asked size cookie) (cookie ∷ l) l) (fused authority asked size jar)

kept_by : (size : ℕ) (cookie : Cookie) (l : List Cookie) (b s : Bool) → has size cookie ≡ b → filter (has size) l ≡ l → filter (has size) (cond (b && s) (cookie ∷ l) l) ≡ cond (b && s) (cookie ∷ l) l
kept_by size cookie l true true is rest = ap (λ b. cond b (cookie ∷ filter (has size) l) (filter (has size) l)) is ∙ ap (λ (k : List Cookie). cookie ∷ k) rest
kept_by size cookie l true false is rest = rest
kept_by size cookie l false s is rest = rest

-- each of them has that length
kept : (authority asked : List ℕ) (size : ℕ) (jar : List Cookie) → filter (has size) (filter (is_sent_of authority asked size) jar) ≡ filter (is_sent_of authority asked size) jar
kept authority asked size [] = refl
kept authority asked size (cookie ∷ jar) =
    kept_by size cookie (filter (is_sent_of authority asked size) jar) (has size cookie) (is_sent authority asked cookie) refl (kept authority asked size jar)

apart_by : (size other : ℕ) (cookie : Cookie) (l : List Cookie) (b s : Bool) → (size ≡ other → ⊥) → has other cookie ≡ b → filter (has size) l ≡ []
    → filter (has size) (cond (b && s) (cookie ∷ l) l) ≡ []
apart_by size other cookie l true true differ is rest =
    let never : eqb (length cookie.path) size ≡ false = ne_eqb (length cookie.path) size (λ e. differ (sym e ∙ eqb-true (length cookie.path) other is)) in
    ap (λ b. cond b (cookie ∷ filter (has size) l) (filter (has size) l)) never ∙ rest
apart_by size other cookie l true false differ is rest = rest
apart_by size other cookie l false s differ is rest = rest

-- none of them has another
apart : (authority asked : List ℕ) (size other : ℕ) (jar : List Cookie) → (size ≡ other → ⊥) → filter (has size) (filter (is_sent_of authority asked other) jar) ≡ []
apart authority asked size other [] differ = refl
apart authority asked size other (cookie ∷ jar) differ =
    apart_by size other cookie (filter (is_sent_of authority asked other) jar) (has other cookie) (is_sent authority asked cookie) differ refl (apart authority asked size other jar differ)

joined_filters : (size : ℕ) (front back us vs : List Cookie) → filter (has size) front ≡ us → filter (has size) back ≡ vs → filter (has size) (front ++ back) ≡ us ++ vs
joined_filters size front back us vs e f = filter-append (has size) front back ∙ (ap (λ (l : List Cookie). l ++ filter (has size) back) e ∙ ap (λ (l : List Cookie). us ++ l) f)

beyond : (authority asked : List ℕ) (size below : ℕ) (jar : List Cookie) → below ≤ size → filter (has size) (sent_below authority asked below jar) ≡ []
beyond authority asked size zero jar le = refl
beyond authority asked size (suc below) jar le =
    joined_filters size (filter (is_sent_of authority asked below) jar) (sent_below authority asked below jar) [] []
    (apart authority asked size below jar (λ e. absurd (omega (arith, e, le)))) (beyond authority asked size below jar (omega (arith, le)))

within : (authority asked : List ℕ) (size below : ℕ) (jar : List Cookie) → size < below → filter (has size) (sent_below authority asked below jar) ≡ filter (is_sent_of authority asked size) jar
within authority asked size zero jar lt = absurd (omega (arith, lt))
within authority asked size (suc below) jar lt =
    elim (cases_eq size below) [
      | inl same ↦
          joined_filters size (filter (is_sent_of authority asked below) jar) (sent_below authority asked below jar) (filter (is_sent_of authority asked size) jar) []
          (ap (λ n. filter (has size) (filter (is_sent_of authority asked n) jar)) (sym same) ∙ kept authority asked size jar) (beyond authority asked size below jar (omega (arith, same)))
          ∙ append-nil (filter (is_sent_of authority asked size) jar)
      | inr differ ↦
          joined_filters size (filter (is_sent_of authority asked below) jar) (sent_below authority asked below jar) [] (filter (is_sent_of authority asked size) jar)
          (apart authority asked size below jar differ) (within authority asked size below jar (omega (arith, lt, differ)))
    ]

-- a path that is longer than the one asked for does not cover it
long_by : (authority asked : List ℕ) (size : ℕ) (cookie : Cookie) (l : List Cookie) (b a c : Bool) → length asked < size → has size cookie ≡ b → covers cookie.path asked ≡ c
    → cond (b && (a && c)) (cookie ∷ l) l ≡ l
long_by authority asked size cookie l true true true lt is covered =
    absurd (omega (arith, lt, eqb-true (length cookie.path) size is, no_longer cookie.path asked covered))
long_by authority asked size cookie l true true false lt is covered = refl
long_by authority asked size cookie l true false c lt is covered = refl
long_by authority asked size cookie l false a c lt is covered = refl

none_long : (authority asked : List ℕ) (size : ℕ) (jar : List Cookie) → length asked < size → filter (is_sent_of authority asked size) jar ≡ []
none_long authority asked size [] lt = refl
none_long authority asked size (cookie ∷ jar) lt =
    long_by authority asked size cookie (filter (is_sent_of authority asked size) jar) (has size cookie) _ (covers cookie.path asked) lt refl refl
    ∙ none_long authority asked size jar lt

pub same_order : (authority asked : List ℕ) (jar : List Cookie) (size : ℕ) → filter (has size) (sent authority asked jar) ≡ filter (has size) (filter (is_sent authority asked) jar)
same_order authority asked jar size =
    elim (cases_lt size (length asked + 1)) [
      | inl lt ↦ within authority asked size (length asked + 1) jar lt ∙ sym (fused authority asked size jar)
      | inr le ↦
          beyond authority asked size (length asked + 1) jar le ∙ sym (none_long authority asked size jar (omega (arith, le)))
          ∙ sym (fused authority asked size jar)
    ]
