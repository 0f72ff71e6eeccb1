-- Labels, and the numbers in them.
use Rattle.std.proofs.Common.{◌≡◌, ℕ, ◌^◌, ◌<◌, ◌≤◌, Bool, true, false, cond, not, ◌&&◌, ◌==◌, nat_le, List, [], ◌∷◌, length, get_or, Option, Some, None, refl, sym, ap, ◌∙◌, subst, arith, rules}
use Rattle.std.specs.Fmt.{decimal}
use Rattle.std.specs.List.{list_all}
use Rattle.std.proofs.lemmas.Bool.{and_parts}
use Rattle.std.proofs.lemmas.Bool.Decides.{nat_tests}
use Rattle.std.proofs.lemmas.Fmt.{decimal-digits_value}
use Rattle.std.proofs.lemmas.Str.Parse.{IsNumeralModel, numerals_by_fold}
use Rattle.usp_base.specs.Numbers.{is_digit, is_whole, number_of, value_from, value_of}
use Rattle.usp_claims.proofs.Decimals.{spells_itself}
use Rattle.usp_script.specs.Drafts.{Draft}
use Rattle.usp_script.specs.Reading.{IsLabel, known_of, number_in}
use Rattle.usp_script.specs.declared.ask.Label.{Label}
use Rattle.usp_script.specs.declared.ask.Label.TheVariants.{Granted, Issued, Outside}

-- ---- numbers

own : IsNumeralModel (λ (ds : List ℕ). list_all is_digit ds ≡ true) value_of
own = numerals_by_fold _ (search rules) value_from (search rules)

-- digits, the first of which is no zero before others
record IsWhole (text : List ℕ) : Type 0 where
  digits : list_all is_digit text ≡ true
  some : 0 < length text
  leads : get_or text 0 0 ≡ 48 → length text ≡ 1

and_true : (b : Bool) → b ≡ true → (b && true) ≡ true
and_true true e = refl
and_true false e = e

whole_parts : (text : List ℕ) → is_whole text ≡ true → IsWhole text
whole_parts [] e = absurd cc
whole_parts (d ∷ []) e = record { digits = and_true (is_digit d) e; some = omega arith; leads = λ _. omega arith }
whole_parts (first ∷ d ∷ ds) e =
    let p = and_parts (not (first == 48)) (list_all is_digit (first ∷ d ∷ ds)) e in
    record {
      digits = p.1;
      some = omega arith;
      leads = λ first_is. let clash : not (48 == 48) ≡ true = subst (λ (f : ℕ). not (f == 48) ≡ true) first_is p.0 in absurd cc;
    }

number_if : (w l : Bool) (v n : ℕ) → cond (w && l) (Some v) None ≡ Some n → (w ≡ true) × (l ≡ true) × (v ≡ n)
number_if true true v n e = (refl, refl, cc)
number_if true false v n e = absurd cc
number_if false l v n e = absurd cc

-- a number is spelled by its decimal text, and by no other
pub spelled : (most : ℕ) (text : List ℕ) (n : ℕ) → most < 2 ^ 64 → number_of most text ≡ Some n → (text ≡ decimal n) × (n ≤ most)
spelled most text n small e =
    let p = number_if (is_whole text) (nat_le (value_of text) most) (value_of text) n e in
    let w = whole_parts text p.0 in
    let le : value_of text ≤ most = grind (arith, nat_tests) in
    let same = decimal-digits_value own text w.digits w.some w.leads (omega arith) in
    (sym same ∙ ap decimal p.2, subst (λ v. v ≤ most) p.2 le)

pub unspelled : (most : ℕ) (text : List ℕ) → most < 2 ^ 64 → number_of most text ≡ None → (n : ℕ) → text ≡ decimal n → n ≤ most → ⊥
unspelled most text small none n is le =
    let there : number_of most text ≡ Some n = ap (number_of most) is ∙ spells_itself most n le (omega arith) in
    let clash : ◌≡◌ {A = Option ℕ} None (Some n) = sym none ∙ there in cc

pub spelled_back : (most : ℕ) (text : List ℕ) (n : ℕ) → most < 2 ^ 64 → text ≡ decimal n → n ≤ most → number_of most text ≡ Some n
spelled_back most text n small is le = ap (number_of most) is ∙ spells_itself most n le (omega arith)

-- ---- labels

-- the letter of a label's kind
abbrev letter_of : Label → ℕ
letter_of (Granted number) = 103
letter_of (Outside number) = 120
letter_of (Issued number) = 105

label_parts : (draft : Draft) (kind : ℕ) (digits : List ℕ) (label : Label) → IsLabel draft (kind ∷ digits) label → (kind ≡ letter_of label) × (digits ≡ decimal (number_in label))
label_parts draft kind digits (Granted n) l = let e = l.is in (cc, cc)
label_parts draft kind digits (Outside n) l = let e = l.is in (cc, cc)
label_parts draft kind digits (Issued n) l = let e = l.is in (cc, cc)

pub no_label : (draft : Draft) (label : Label) → IsLabel draft [] label → ⊥
no_label draft (Granted n) l = let e = l.is in cc
no_label draft (Outside n) l = let e = l.is in cc
no_label draft (Issued n) l = let e = l.is in cc

pub other_letter : (draft : Draft) (kind : ℕ) (digits : List ℕ) → (kind ≡ 103 → ⊥) → (kind ≡ 120 → ⊥) → (kind ≡ 105 → ⊥) → (label : Label) → IsLabel draft (kind ∷ digits) label → ⊥
other_letter draft kind digits g x i (Granted n) l = g (label_parts draft kind digits (Granted n) l).0
other_letter draft kind digits g x i (Outside n) l = x (label_parts draft kind digits (Outside n) l).0
other_letter draft kind digits g x i (Issued n) l = i (label_parts draft kind digits (Issued n) l).0

-- no number behind a letter is that of a token that may be named
abbrev NoNumber : List ℕ → ℕ → Type 0
NoNumber digits most = (number : ℕ) → digits ≡ decimal number → 1 ≤ number → number ≤ most → ⊥

pub no_granted : (draft : Draft) (digits : List ℕ) → NoNumber digits (known_of draft (Granted 0)) → (label : Label) → IsLabel draft (103 ∷ digits) label → ⊥
no_granted draft digits none (Granted n) l = none n (label_parts draft 103 digits (Granted n) l).1 l.from l.to
no_granted draft digits none (Outside n) l = let p = (label_parts draft 103 digits (Outside n) l).0 in omega arith
no_granted draft digits none (Issued n) l = let p = (label_parts draft 103 digits (Issued n) l).0 in omega arith

pub no_outside : (draft : Draft) (digits : List ℕ) → NoNumber digits (known_of draft (Outside 0)) → (label : Label) → IsLabel draft (120 ∷ digits) label → ⊥
no_outside draft digits none (Outside n) l = none n (label_parts draft 120 digits (Outside n) l).1 l.from l.to
no_outside draft digits none (Granted n) l = let p = (label_parts draft 120 digits (Granted n) l).0 in omega arith
no_outside draft digits none (Issued n) l = let p = (label_parts draft 120 digits (Issued n) l).0 in omega arith

pub no_issued : (draft : Draft) (digits : List ℕ) → NoNumber digits (known_of draft (Issued 0)) → (label : Label) → IsLabel draft (105 ∷ digits) label → ⊥
no_issued draft digits none (Issued n) l = none n (label_parts draft 105 digits (Issued n) l).1 l.from l.to
no_issued draft digits none (Granted n) l = let p = (label_parts draft 105 digits (Granted n) l).0 in omega arith
no_issued draft digits none (Outside n) l = let p = (label_parts draft 105 digits (Outside n) l).0 in omega arith
