-- The pair of a cookie is read back.
use Rattle.std.proofs.Common.{◌≡◌, ◌⊎◌, ℕ, suc, ◌+◌, ◌<◌, ◌≤◌, Bool, true, false, not, cond, ◌&&◌, ◌==◌, nat_lt, List, [], ◌∷◌, ◌++◌, length, reverse, take, drop, codes, Option, Some, None, inl, inr, refl, sym, ap, ◌∙◌, subst, arith, length-append}
use Rattle.std.specs.List.{list_all, position, position_or_len}
use Rattle.std.specs.Option.{option_and_then, option_map}
use Rattle.std.specs.Str.{bytes_eq}
use Rattle.std.proofs.Math.Seq.{drop-append-add, take-append_seam}
use Rattle.std.proofs.lemmas.Bool.{le-ltb, lt-ltb}
use Rattle.std.proofs.lemmas.Bool.Decides.{nat_tests}
use Rattle.std.proofs.lemmas.List.{reverse-append, reverse-reverse}
use Rattle.std.proofs.lemmas.List.Folds.{list_all-append}
use Rattle.std.proofs.lemmas.Slice.Eq.{bytes_eq-Decides}
use Rattle.usp_base.specs.Blanks.{is_blank, trim_blanks, trim_start}
use Rattle.usp_base.specs.Cuts.{cut_at}
use Rattle.usp_cookie.proofs.Pairs.{token_last}
use Rattle.usp_cookie.specs.Cookies.{first_value, token_of, value_under}
use Rattle.usp_edge.specs.Asks.{cookie_in}
use Rattle.usp_jws.specs.Letters.{is_token_letter}
use Rattle.usp_package.specs.Name.{is_attr_name, is_name_byte}
use Rattle.usp_uri.proofs.ComponentLaws.{both}
use Rattle.usp_lab.specs.LabHead.{IsBorne, cookie_pair}

-- ---- bytes

-- no blank, no control and no semicolon
abbrev is_clear : ℕ → Bool
is_clear c = nat_lt 32 c && not (c == 59)

name_clear : (c : ℕ) → is_name_byte c ≡ true → is_clear c ≡ true
name_clear c e = grind (arith, nat_tests)

letter_clear : (c : ℕ) → is_token_letter c ≡ true → is_clear c ≡ true
letter_clear c e = grind (arith, nat_tests)

clear_blank : (c : ℕ) → is_clear c ≡ true → is_blank c ≡ false
clear_blank c e = grind (arith, nat_tests)

clear_semicolon : (c : ℕ) → is_clear c ≡ true → (c == 59) ≡ false
clear_semicolon c e = grind (arith, nat_tests)

name_equals : (c : ℕ) → is_name_byte c ≡ true → (c == 61) ≡ false
name_equals c e = grind (arith, nat_tests)

weaker : (p q : ℕ → Bool) → ((c : ℕ) → p c ≡ true → q c ≡ true) → (text : List ℕ) → list_all p text ≡ true → list_all q text ≡ true
weaker p q out [] e = refl
weaker p q out (c ∷ text) e =
    let parts = both (p c) (list_all p text) e in
    rw (out c parts.0, weaker p q out text parts.1) refl

pair_clear : (name token : List ℕ) → list_all is_name_byte name ≡ true → list_all is_token_letter token ≡ true → list_all is_clear (cookie_pair name token) ≡ true
pair_clear name token named borne =
    list_all-append is_clear name (61 ∷ token)
    ∙ rw (weaker is_name_byte is_clear name_clear name named, weaker is_token_letter is_clear letter_clear token borne) refl

-- ---- cuts

abbrev at : ℕ → ℕ → Bool
at byte b = b == byte

abbrev cut_where : List ℕ → Option ℕ → Option (List ℕ × List ℕ)
cut_where text place = option_map (λ i. (take i text, drop (i + 1) text)) place

never_there : (text : List ℕ) → list_all is_clear text ≡ true → position_or_len (at 59) text ≡ length text
never_there [] e = refl
never_there (c ∷ text) e =
    let parts = both (is_clear c) (list_all is_clear text) e in
    let rest = never_there text parts.1 in
    rw (clear_semicolon c parts.0) (omega (arith, rest))

uncut : (text : List ℕ) → list_all is_clear text ≡ true → cut_at 59 text ≡ None
uncut text e =
    let n = position_or_len (at 59) text in
    let none = never_there text e in
    ap (λ b. cut_where text (cond b (Some n) None)) (le-ltb n (length text) (omega (arith, none)))

first_there : (name token : List ℕ) → list_all is_name_byte name ≡ true → position_or_len (at 61) (cookie_pair name token) ≡ length name
first_there [] token e = refl
first_there (c ∷ name) token e =
    let parts = both (is_name_byte c) (list_all is_name_byte name) e in
    let rest = first_there name token parts.1 in
    rw (name_equals c parts.0) (omega (arith, rest))

cut_pair : (name token : List ℕ) → list_all is_name_byte name ≡ true → cut_at 61 (cookie_pair name token) ≡ Some (name, token)
cut_pair name token e =
    let text = cookie_pair name token in
    let n = position_or_len (at 61) text in
    let here = first_there name token e in
    let within : n < length text = omega (arith, here, length-append name (61 ∷ token)) in
    ap (λ b. cut_where text (cond b (Some n) None)) (lt-ltb n (length text) within)
    ∙ (ap (λ i. cut_where text (Some i)) here
    ∙ ap (λ (p : List ℕ × List ℕ). Some p) (λ i. (take-append_seam name (61 ∷ token) i, drop-append-add name (61 ∷ token) 1 i)))

-- ---- blanks

untrimmed : (text : List ℕ) → list_all is_clear text ≡ true → trim_start text ≡ text
untrimmed [] e = refl
untrimmed (c ∷ text) e = rw (clear_blank c (both (is_clear c) (list_all is_clear text) e).0) refl

clear_reverse : (text : List ℕ) → list_all is_clear text ≡ true → list_all is_clear (reverse text) ≡ true
clear_reverse [] e = refl
clear_reverse (c ∷ text) e =
    let parts = both (is_clear c) (list_all is_clear text) e in
    ap (list_all is_clear) (reverse-append (c ∷ []) text)
    ∙ (list_all-append is_clear (reverse text) (c ∷ []) ∙ rw (clear_reverse text parts.1, parts.0) refl)

trimmed : (text : List ℕ) → list_all is_clear text ≡ true → trim_blanks text ≡ text
trimmed text e =
    ap (λ (t : List ℕ). reverse (trim_start (reverse t))) (untrimmed text e)
    ∙ (ap reverse (untrimmed (reverse text) (clear_reverse text e)) ∙ reverse-reverse text)

-- ---- the cookie

pair_read : (name token : List ℕ) → list_all is_name_byte name ≡ true → list_all is_token_letter token ≡ true → token_of name (cookie_pair name token) ≡ Some token
pair_read name token named borne =
    let clear = pair_clear name token named borne in
    token_last name (cookie_pair name token) (uncut (cookie_pair name token) clear)
    ∙ (ap (value_under name) (trimmed (cookie_pair name token) clear)
    ∙ (ap (λ (o : Option (List ℕ × List ℕ)). option_and_then (λ pair. cond (bytes_eq pair.0 name) (Some pair.1) None) o) (cut_pair name token named)
    ∙ rw ((bytes_eq-Decides name name).1 refl) refl))

-- the token in the pair of a cookie of that name
pub cookie_read : (name token : List ℕ) → is_attr_name name ≡ true → IsBorne token → cookie_in name (cookie_pair name token ∷ []) ≡ Some token
cookie_read name token attribute borne =
    let one = both _ _ attribute in
    let two = both _ _ one.1 in
    ap (λ (o : Option (List ℕ)). first_value (o ∷ [])) (pair_read name token two.1 borne.letters)
