-- Texts whose escapes are in normal form: what the step makes, and what it leaves as it is.
use Rattle.std.proofs.Common.{◌≡◌, ℕ, ◌+◌, ◌*◌, Bool, true, false, cond, not, eqb, ◌&&◌, ◌||◌, List, [], ◌∷◌, ◌++◌, refl, sym, ap, subst, ◌∙◌, arith}
use Rattle.std.specs.Prelude.{codes}
use Rattle.std.specs.List.{list_all}
use Rattle.std.specs.Char.{is_ascii_hexdigit, to_ascii_uppercase, digit_value}
use Rattle.std.proofs.lemmas.Bool.Decides.{nat_tests}
use Rattle.usp_uri.specs.Letters.{is_slash, is_unreserved, is_sub_delim, is_one_of, escaped_byte}
use Rattle.usp_uri.specs.Delimited.{until, from_first}
use Rattle.usp_uri.specs.Faults.{begins_with_digits}
use Rattle.usp_uri.specs.Grammar.{are_pchars_or}
use Rattle.usp_uri.specs.Normal.{normal_escape, normal_escapes, pieces, onto_first, segments_of, path_from}
use Rattle.usp_uri.proofs.ComponentLaws.{both}
use Rattle.usp_uri.proofs.AcceptedLaws.{swap_test}
use Rattle.usp_uri.proofs.DotLemmas.{pieces-cut}

-- a pchar that is no escape, or one of the others
abbrev pub is_pchar_or : List ℕ → ℕ → Bool
is_pchar_or others c = is_unreserved c || is_sub_delim c || is_one_of (codes ":@") c || is_one_of others c

abbrev pub is_upper_digit : ℕ → Bool
is_upper_digit c = is_ascii_hexdigit c && eqb (to_ascii_uppercase c) c

-- two digits in upper case stand here, and the byte that they stand for is not unreserved
abbrev pub begins_settled : List ℕ → Bool
begins_settled [] = false
begins_settled (high ∷ []) = false
begins_settled (high ∷ low ∷ rest) = is_upper_digit high && (is_upper_digit low && not (is_unreserved (escaped_byte high low)))

-- pchars, and bytes of these others, with each escape in normal form
abbrev pub are_settled_or : List ℕ → List ℕ → Bool
are_settled_or others [] = true
are_settled_or others (c ∷ rest) = (is_pchar_or others c || (eqb c 37 && begins_settled rest)) && are_settled_or others rest

-- ---- one byte

digit_upper : (c : ℕ) → is_ascii_hexdigit c ≡ true → digit_value (to_ascii_uppercase c) ≡ digit_value c
digit_upper c e = grind (arith, nat_tests)

upper_digit : (c : ℕ) → is_ascii_hexdigit c ≡ true → is_upper_digit (to_ascii_uppercase c) ≡ true
upper_digit c e = grind (arith, nat_tests)

upper_unreserved : (c : ℕ) → is_ascii_hexdigit c ≡ true → is_unreserved (to_ascii_uppercase c) ≡ true
upper_unreserved c e = grind (arith, nat_tests)

percent_is : (c : ℕ) → eqb c 37 ≡ true → c ≡ 37
percent_is c e = grind (arith, nat_tests)

same_is : (a b : ℕ) → eqb a b ≡ true → a ≡ b
same_is a b e = grind (arith, nat_tests)

first_passes : (a b c d : Bool) → a ≡ true → (a || b || c || d) ≡ true
first_passes true b c d e = refl
first_passes false b c d e = absurd cc

unreserved_pchar : (others : List ℕ) (c : ℕ) → is_unreserved c ≡ true → is_pchar_or others c ≡ true
unreserved_pchar others c e = first_passes (is_unreserved c) (is_sub_delim c) (is_one_of (codes ":@") c) (is_one_of others c) e

-- a '%' is no pchar by itself
percent_no_pchar : (others : List ℕ) (c : ℕ) → is_one_of others 37 ≡ false → eqb c 37 ≡ true → is_pchar_or others c ≡ false
percent_no_pchar others c free is = subst (λ n. is_pchar_or others n ≡ false) (sym (percent_is c is)) free

-- ---- tests

pub all_pass : (a b : Bool) → a ≡ true → b ≡ true → (a && b) ≡ true
all_pass true b e f = f
all_pass false b e f = absurd cc

left_passes : (a b : Bool) → a ≡ true → (a || b) ≡ true
left_passes true b e = refl
left_passes false b e = absurd cc

right_passes : (a b : Bool) → b ≡ true → (a || b) ≡ true
right_passes true b e = refl
right_passes false b e = e

-- of a byte that is a '%', or is none
escape_test : (x p d : Bool) → (x || (p && d)) ≡ true → x ≡ false → d ≡ true
escape_test true p d e f = absurd cc
escape_test false true d e f = e
escape_test false false d e f = absurd cc

byte_test : (x p d : Bool) → (x || (p && d)) ≡ true → p ≡ false → x ≡ true
byte_test true p d e f = refl
byte_test false true d e f = absurd cc
byte_test false false d e f = absurd cc

not_true : (b : Bool) → not b ≡ true → b ≡ false
not_true false e = refl
not_true true e = absurd cc

-- ---- the step, at an escape and at any other byte

pub escapes_at : (c high low : ℕ) (rest : List ℕ) → eqb c 37 ≡ true → normal_escapes (c ∷ high ∷ low ∷ rest) ≡ normal_escape high low ++ normal_escapes rest
escapes_at c high low rest is = rw (is, normal_escapes) refl

pub escapes_past : (c : ℕ) (rest : List ℕ) → eqb c 37 ≡ false → normal_escapes (c ∷ rest) ≡ c ∷ normal_escapes rest
escapes_past c [] is = refl
escapes_past c (d ∷ []) is = refl
escapes_past c (high ∷ low ∷ rest) is = rw (is, normal_escapes) refl

-- ---- what the step makes

digits_settled : (high low : ℕ) (more : List ℕ) → is_ascii_hexdigit high ≡ true → is_ascii_hexdigit low ≡ true → is_unreserved (escaped_byte high low) ≡ false
    → begins_settled (to_ascii_uppercase high ∷ to_ascii_uppercase low ∷ more) ≡ true
digits_settled high low more h l reserved =
    let same : escaped_byte (to_ascii_uppercase high) (to_ascii_uppercase low) ≡ escaped_byte high low = ap (λ n. 16 * n + digit_value (to_ascii_uppercase low)) (digit_upper high h) ∙ ap (λ n. 16 * digit_value high + n) (digit_upper low l) in
    let kept : not (is_unreserved (escaped_byte (to_ascii_uppercase high) (to_ascii_uppercase low))) ≡ true = ap (λ n. not (is_unreserved n)) same ∙ ap not reserved in
    all_pass (is_upper_digit (to_ascii_uppercase high)) (is_upper_digit (to_ascii_uppercase low) && not (is_unreserved (escaped_byte (to_ascii_uppercase high) (to_ascii_uppercase low)))) (upper_digit high h)
    (all_pass (is_upper_digit (to_ascii_uppercase low)) (not (is_unreserved (escaped_byte (to_ascii_uppercase high) (to_ascii_uppercase low)))) (upper_digit low l) kept)

-- a byte that is a pchar by itself, before a text
pub pchar_first : (others : List ℕ) (c : ℕ) (rest : List ℕ) → is_pchar_or others c ≡ true → are_settled_or others rest ≡ true → are_settled_or others (c ∷ rest) ≡ true
pchar_first others c rest e f = all_pass (is_pchar_or others c || (eqb c 37 && begins_settled rest)) (are_settled_or others rest) (left_passes (is_pchar_or others c) (eqb c 37 && begins_settled rest) e) f

escape_first : (others : List ℕ) (rest : List ℕ) → begins_settled rest ≡ true → are_settled_or others rest ≡ true → are_settled_or others (37 ∷ rest) ≡ true
escape_first others rest e f = all_pass (is_pchar_or others 37 || begins_settled rest) (are_settled_or others rest) (right_passes (is_pchar_or others 37) (begins_settled rest) e) f

escape_settled : (others : List ℕ) (high low : ℕ) (more : List ℕ) (u : Bool) → is_unreserved (escaped_byte high low) ≡ u → is_ascii_hexdigit high ≡ true → is_ascii_hexdigit low ≡ true
    → are_settled_or others more ≡ true
    → are_settled_or others (cond u (escaped_byte high low ∷ []) (37 ∷ to_ascii_uppercase high ∷ to_ascii_uppercase low ∷ []) ++ more) ≡ true
escape_settled others high low more true is h l e = pchar_first others (escaped_byte high low) more (unreserved_pchar others (escaped_byte high low) is) e
escape_settled others high low more false is h l e =
    escape_first others (to_ascii_uppercase high ∷ to_ascii_uppercase low ∷ more) (digits_settled high low more h l is)
    (pchar_first others (to_ascii_uppercase high) (to_ascii_uppercase low ∷ more) (unreserved_pchar others (to_ascii_uppercase high) (upper_unreserved high h))
    (pchar_first others (to_ascii_uppercase low) more (unreserved_pchar others (to_ascii_uppercase low) (upper_unreserved low l)) e))

settled_step : (others : List ℕ) → is_one_of others 37 ≡ false → (c high low : ℕ) (rest : List ℕ) (b : Bool) → eqb c 37 ≡ b
    → (is_pchar_or others c || (eqb c 37 && begins_with_digits (high ∷ low ∷ rest))) ≡ true
    → are_settled_or others (normal_escapes rest) ≡ true → are_settled_or others (normal_escapes (high ∷ low ∷ rest)) ≡ true
    → are_settled_or others (normal_escapes (c ∷ high ∷ low ∷ rest)) ≡ true
settled_step others free c high low rest true is test e f =
    let digits = both (is_ascii_hexdigit high) (is_ascii_hexdigit low) (escape_test (is_pchar_or others c) (eqb c 37) (begins_with_digits (high ∷ low ∷ rest)) test (percent_no_pchar others c free is)) in
    ap (are_settled_or others) (escapes_at c high low rest is) ∙ escape_settled others high low (normal_escapes rest) (is_unreserved (escaped_byte high low)) refl digits.0 digits.1 e
settled_step others free c high low rest false is test e f =
    let pchar = byte_test (is_pchar_or others c) (eqb c 37) (begins_with_digits (high ∷ low ∷ rest)) test is in
    ap (are_settled_or others) (escapes_past c (high ∷ low ∷ rest) is) ∙ pchar_first others c (normal_escapes (high ∷ low ∷ rest)) pchar f

-- The step puts each escape into its normal form.
pub escapes_settled : (others : List ℕ) → is_one_of others 37 ≡ false → (text : List ℕ) → are_pchars_or others text ≡ true → are_settled_or others (normal_escapes text) ≡ true
escapes_settled others free [] e = refl
escapes_settled others free (c ∷ []) e = e
escapes_settled others free (c ∷ d ∷ []) e = e
escapes_settled others free (c ∷ high ∷ low ∷ rest) e =
    let first = both (is_pchar_or others c || (eqb c 37 && begins_with_digits (high ∷ low ∷ rest))) (are_pchars_or others (high ∷ low ∷ rest)) e in
    let second = both (is_pchar_or others high || (eqb high 37 && begins_with_digits (low ∷ rest))) (are_pchars_or others (low ∷ rest)) first.1 in
    let third = both (is_pchar_or others low || (eqb low 37 && begins_with_digits rest)) (are_pchars_or others rest) second.1 in
    settled_step others free c high low rest (eqb c 37) refl first.0 (escapes_settled others free rest third.1) (escapes_settled others free (high ∷ low ∷ rest) first.1)

-- ---- what the step leaves

digits_are : (text : List ℕ) → begins_settled text ≡ true → begins_with_digits text ≡ true
digits_are [] e = absurd cc
digits_are (high ∷ []) e = absurd cc
digits_are (high ∷ low ∷ rest) e =
    let first = both (is_upper_digit high) (is_upper_digit low && not (is_unreserved (escaped_byte high low))) e in
    let second = both (is_upper_digit low) (not (is_unreserved (escaped_byte high low))) first.1 in
    all_pass (is_ascii_hexdigit high) (is_ascii_hexdigit low) (both (is_ascii_hexdigit high) (eqb (to_ascii_uppercase high) high) first.0).0
    (both (is_ascii_hexdigit low) (eqb (to_ascii_uppercase low) low) second.0).0

pub settled_pchars : (others text : List ℕ) → are_settled_or others text ≡ true → are_pchars_or others text ≡ true
settled_pchars others [] e = refl
settled_pchars others (c ∷ rest) e =
    let first = both (is_pchar_or others c || (eqb c 37 && begins_settled rest)) (are_settled_or others rest) e in
    all_pass (is_pchar_or others c || (eqb c 37 && begins_with_digits rest)) (are_pchars_or others rest)
    (swap_test (is_pchar_or others c) (eqb c 37) (begins_settled rest) (is_pchar_or others c) (begins_with_digits rest) (λ l. l) (digits_are rest) first.0)
    (settled_pchars others rest first.1)

escape_stays : (high low : ℕ) (rest : List ℕ) → begins_settled (high ∷ low ∷ rest) ≡ true → normal_escape high low ≡ 37 ∷ high ∷ low ∷ []
escape_stays high low rest e =
    let first = both (is_upper_digit high) (is_upper_digit low && not (is_unreserved (escaped_byte high low))) e in
    let second = both (is_upper_digit low) (not (is_unreserved (escaped_byte high low))) first.1 in
    let h = same_is (to_ascii_uppercase high) high (both (is_ascii_hexdigit high) (eqb (to_ascii_uppercase high) high) first.0).1 in
    let l = same_is (to_ascii_uppercase low) low (both (is_ascii_hexdigit low) (eqb (to_ascii_uppercase low) low) second.0).1 in
    reserved (is_unreserved (escaped_byte high low)) (not_true (is_unreserved (escaped_byte high low)) second.1)
    ∙ ap (λ n. 37 ∷ n ∷ to_ascii_uppercase low ∷ []) h ∙ ap (λ n. 37 ∷ high ∷ n ∷ []) l
  where
    reserved : (u : Bool) → u ≡ false → cond u (escaped_byte high low ∷ []) (37 ∷ to_ascii_uppercase high ∷ to_ascii_uppercase low ∷ []) ≡ 37 ∷ to_ascii_uppercase high ∷ to_ascii_uppercase low ∷ []
    reserved false f = refl
    reserved true f = absurd cc

stays_step : (others : List ℕ) → is_one_of others 37 ≡ false → (c high low : ℕ) (rest : List ℕ) (b : Bool) → eqb c 37 ≡ b
    → (is_pchar_or others c || (eqb c 37 && begins_settled (high ∷ low ∷ rest))) ≡ true
    → normal_escapes rest ≡ rest → normal_escapes (high ∷ low ∷ rest) ≡ high ∷ low ∷ rest
    → normal_escapes (c ∷ high ∷ low ∷ rest) ≡ c ∷ high ∷ low ∷ rest
stays_step others free c high low rest true is test e f =
    let digits = escape_test (is_pchar_or others c) (eqb c 37) (begins_settled (high ∷ low ∷ rest)) test (percent_no_pchar others c free is) in
    escapes_at c high low rest is
    ∙ (ap (λ (t : List ℕ). t ++ normal_escapes rest) (escape_stays high low rest digits) ∙ ap (λ (t : List ℕ). 37 ∷ high ∷ low ∷ t) e ∙ ap (λ n. n ∷ high ∷ low ∷ rest) (sym (percent_is c is)))
stays_step others free c high low rest false is test e f = escapes_past c (high ∷ low ∷ rest) is ∙ ap (λ (t : List ℕ). c ∷ t) f

-- A text whose escapes are in normal form stays as it is.
pub escapes_stay : (others : List ℕ) → is_one_of others 37 ≡ false → (text : List ℕ) → are_settled_or others text ≡ true → normal_escapes text ≡ text
escapes_stay others free [] e = refl
escapes_stay others free (c ∷ []) e = refl
escapes_stay others free (c ∷ d ∷ []) e = refl
escapes_stay others free (c ∷ high ∷ low ∷ rest) e =
    let first = both (is_pchar_or others c || (eqb c 37 && begins_settled (high ∷ low ∷ rest))) (are_settled_or others (high ∷ low ∷ rest)) e in
    let second = both (is_pchar_or others high || (eqb high 37 && begins_settled (low ∷ rest))) (are_settled_or others (low ∷ rest)) first.1 in
    let third = both (is_pchar_or others low || (eqb low 37 && begins_settled rest)) (are_settled_or others rest) second.1 in
    stays_step others free c high low rest (eqb c 37) refl first.0 (escapes_stay others free rest third.1) (escapes_stay others free (high ∷ low ∷ rest) first.1)

-- ---- cut at '/', and joined again

pchar_no_slash : (c : ℕ) → is_pchar_or (codes "/") c ≡ true → is_slash c ≡ false → is_pchar_or [] c ≡ true
pchar_no_slash c e f = grind (arith, nat_tests)

pchar_or_slash : (c : ℕ) → is_pchar_or [] c ≡ true → is_pchar_or (codes "/") c ≡ true
pchar_or_slash c e = grind (arith, nat_tests)

digit_no_slash : (c : ℕ) → is_upper_digit c ≡ true → is_slash c ≡ false
digit_no_slash c e = grind (arith, nat_tests)

settled_cut : (text : List ℕ) → begins_settled text ≡ true → begins_settled (until is_slash text) ≡ true
settled_cut [] e = absurd cc
settled_cut (high ∷ []) e = absurd cc
settled_cut (high ∷ low ∷ rest) e =
    let first = both (is_upper_digit high) (is_upper_digit low && not (is_unreserved (escaped_byte high low))) e in
    let second = both (is_upper_digit low) (not (is_unreserved (escaped_byte high low))) first.1 in
    rw (digit_no_slash high first.0, digit_no_slash low second.0) e

until_case : (b : Bool) (c : ℕ) (rest : List ℕ) → is_slash c ≡ b → (is_pchar_or (codes "/") c || (eqb c 37 && begins_settled rest)) ≡ true
    → are_settled_or [] (until is_slash rest) ≡ true → are_settled_or [] (cond b [] (c ∷ until is_slash rest)) ≡ true
until_case true c rest is test e = refl
until_case false c rest is test e =
    all_pass (is_pchar_or [] c || (eqb c 37 && begins_settled (until is_slash rest))) (are_settled_or [] (until is_slash rest))
    (swap_test (is_pchar_or (codes "/") c) (eqb c 37) (begins_settled rest) (is_pchar_or [] c) (begins_settled (until is_slash rest)) (λ l. pchar_no_slash c l is) (settled_cut rest) test) e

until_settled : (text : List ℕ) → are_settled_or (codes "/") text ≡ true → are_settled_or [] (until is_slash text) ≡ true
until_settled [] e = refl
until_settled (c ∷ rest) e =
    let first = both (is_pchar_or (codes "/") c || (eqb c 37 && begins_settled rest)) (are_settled_or (codes "/") rest) e in
    until_case (is_slash c) c rest refl first.0 (until_settled rest first.1)

piece_case : (b : Bool) (c : ℕ) (rest : List ℕ) → are_settled_or [] (cond b [] (c ∷ until is_slash rest)) ≡ true → list_all (are_settled_or []) (pieces rest) ≡ true
    → list_all (are_settled_or []) (cond b ([] ∷ pieces rest) (onto_first c (pieces rest))) ≡ true
piece_case true c rest e f = f
piece_case false c rest e f =
    let cut = subst (λ (t : List (List ℕ)). list_all (are_settled_or []) t ≡ true) (pieces-cut rest) f in
    let others = both (are_settled_or [] (until is_slash rest)) (list_all (are_settled_or []) (segments_of (from_first is_slash rest))) cut in
    subst (λ (t : List (List ℕ)). list_all (are_settled_or []) (onto_first c t) ≡ true) (sym (pieces-cut rest))
    (all_pass (are_settled_or [] (c ∷ until is_slash rest)) (list_all (are_settled_or []) (segments_of (from_first is_slash rest))) e others.1)

pub pieces_settled : (text : List ℕ) → are_settled_or (codes "/") text ≡ true → list_all (are_settled_or []) (pieces text) ≡ true
pieces_settled [] e = refl
pieces_settled (c ∷ rest) e =
    let first = both (is_pchar_or (codes "/") c || (eqb c 37 && begins_settled rest)) (are_settled_or (codes "/") rest) e in
    piece_case (is_slash c) c rest (until_settled (c ∷ rest) e) (pieces_settled rest first.1)

pub settled_more : (text more : List ℕ) → begins_settled text ≡ true → begins_settled (text ++ more) ≡ true
settled_more [] more e = absurd cc
settled_more (high ∷ []) more e = absurd cc
settled_more (high ∷ low ∷ rest) more e = e

segment_settled : (segment more : List ℕ) → are_settled_or [] segment ≡ true → are_settled_or (codes "/") more ≡ true → are_settled_or (codes "/") (segment ++ more) ≡ true
segment_settled [] more e f = f
segment_settled (c ∷ rest) more e f =
    let first = both (is_pchar_or [] c || (eqb c 37 && begins_settled rest)) (are_settled_or [] rest) e in
    all_pass (is_pchar_or (codes "/") c || (eqb c 37 && begins_settled (rest ++ more))) (are_settled_or (codes "/") (rest ++ more))
    (swap_test (is_pchar_or [] c) (eqb c 37) (begins_settled rest) (is_pchar_or (codes "/") c) (begins_settled (rest ++ more)) (pchar_or_slash c) (settled_more rest more) first.0)
    (segment_settled rest more first.1 f)

pub path_settled : (segments : List (List ℕ)) → list_all (are_settled_or []) segments ≡ true → are_settled_or (codes "/") (path_from segments) ≡ true
path_settled [] e = refl
path_settled (s ∷ ss) e =
    let first = both (are_settled_or [] s) (list_all (are_settled_or []) ss) e in
    segment_settled s (path_from ss) first.0 (path_settled ss first.1)
