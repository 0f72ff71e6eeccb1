-- Texts and numbers as values of claims.
use Rattle.std.proofs.Common.{◌≡◌, ◌≢◌, ◌⊎◌, ℕ, ◌+◌, ◌-◌, ◌*◌, ◌/◌, ◌%◌, ◌^◌, ◌<◌, ◌≤◌, true, List, [], ◌∷◌, ◌++◌, Some, inl, inr, refl, sym, ap, ◌∙◌, arith, le-leb}
use Rattle.std.specs.Fmt.{decimal}
use Rattle.std.specs.List.{list_all, slice_get}
use Rattle.std.proofs.lemmas.Bool.{and_parts}
use Rattle.std.proofs.lemmas.Bool.Decides.{eqb_tells}
use Rattle.std.proofs.lemmas.Fmt.{decimal_by_steps}
use Rattle.usp_base.specs.Numbers.{is_digit, value_from, value_of, is_whole, number_of}
use Rattle.usp_json.specs.declared.value.Json.TheOpen as level
use Rattle.usp_json.specs.declared.value.Json.TheVariants.{Num, Str, rolls-Num, rolls-Str}
use Rattle.usp_json.specs.declared.value.Json.TheViews.{out-roll-Json}
use Rattle.usp_json.specs.declared.value.Members.{Members}
use Rattle.usp_json.proofs.CharLemmas.{differs}
use Rattle.usp_json.specs.Scalars.{text_in, number_in, level_text, level_number}
use Rattle.usp_claims.specs.Table.{name_of, row, rows, whole_in, number_claim, IsClaimSet}
use Rattle.usp_claims.specs.Changes.{with_claim}
use Rattle.usp_claims.specs.declared.table.ClaimName.{ClaimName}
use Rattle.usp_claims.specs.declared.table.ClaimName.TheVariants.{Aud}
use Rattle.usp_claims.specs.declared.table.ClaimKind.TheVariants.{Text, TextOrTexts, Number}
use Rattle.usp_claims.proofs.ChangeLaws.{this_claim, still_set}
use Rattle.usp_claims.specs.declared.limits.TheConstants.{MAX_NUMBER}

digit_within : (b : ℕ) → 48 ≤ b → b ≤ 57 → is_digit b ≡ true
digit_within b l h = rw (le-leb 48 b l, le-leb b 57 h) refl

value_snoc : (n : ℕ) (ds : List ℕ) (c : ℕ) → value_from n (ds ++ c ∷ []) ≡ value_from n ds * 10 + (c - 48)
value_snoc n [] c = refl
value_snoc n (d ∷ ds) c = value_snoc (n * 10 + (d - 48)) ds c

all_snoc : (ds : List ℕ) (c : ℕ) → list_all is_digit ds ≡ true → is_digit c ≡ true → list_all is_digit (ds ++ c ∷ []) ≡ true
all_snoc [] c h k = rw k refl
all_snoc (d ∷ ds) c h k = let p = and_parts (is_digit d) (list_all is_digit ds) h in rw (p.0, all_snoc ds c p.1 k) refl

-- digits that spell the number, and no zero before others
record IsSpelled (n : ℕ) (text : List ℕ) : Type 0 where
  first : ℕ
  rest : List ℕ
  is : text ≡ first ∷ rest
  digits : list_all is_digit (first ∷ rest) ≡ true
  value : value_of (first ∷ rest) ≡ n
  leads : ((0 < n) × (first ≢ 48)) ⊎ ((n ≡ 0) × (rest ≡ []))

spelled_one : (n : ℕ) → n < 10 → IsSpelled n ((48 + n) ∷ [])
spelled_one n h = record {
  first = 48 + n;
  rest = [];
  is = refl;
  digits = rw (digit_within (48 + n) (omega arith) (omega arith)) refl;
  value = omega arith;
  leads = elim (eqb_tells n 0) [
    | inl zero ↦ inr (zero.1, refl)
    | inr some ↦ inl (omega (arith, some.1), (λ e. some.1 (omega arith)))
  ];
}

spelled_more : (n : ℕ) (ds : List ℕ) → 10 ≤ n → IsSpelled (n / 10) ds → IsSpelled n (ds ++ ((48 + n % 10) ∷ []))
spelled_more n ds h s =
    let c = 48 + n % 10 in
    let value = value_snoc 0 (s.first ∷ s.rest) c in
    let tens = s.value in
    record {
      first = s.first;
      rest = s.rest ++ c ∷ [];
      is = ap (λ l. l ++ c ∷ []) s.is;
      digits = all_snoc (s.first ∷ s.rest) c s.digits (digit_within c (omega arith) (omega arith));
      value = omega (arith, value, tens);
      leads = elim s.leads [
        | inl some ↦ inl (omega arith, some.1)
        | inr zero ↦ let none = zero.0 in absurd (omega arith)
      ];
    }

whole_of : (first : ℕ) (rest : List ℕ) → list_all is_digit (first ∷ rest) ≡ true → ((first ≢ 48) ⊎ (rest ≡ [])) → is_whole (first ∷ rest) ≡ true
whole_of first [] h l = (and_parts (is_digit first) true h).0
whole_of first (d ∷ ds) h (inl n) = rw (differs first 48 n) h
whole_of first (d ∷ ds) h (inr e) = cc e

-- a number in decimal spells itself
pub spells_itself : (most n : ℕ) → n ≤ most → n < 2 ^ 64 → number_of most (decimal n) ≡ Some n
spells_itself most n le small =
    let s = decimal_by_steps IsSpelled spelled_one spelled_more n small in
    let leads : (s.first ≢ 48) ⊎ (s.rest ≡ []) = elim s.leads [ inl some ↦ inl some.1 | inr zero ↦ inr zero.1 ] in
    rw (s.is, whole_of s.first s.rest s.digits leads, s.value, le-leb n most le) refl

pub text_of : (bytes : List ℕ) → text_in (Str bytes) ≡ Some bytes
text_of bytes = ap text_in (sym (rolls-Str bytes)) ∙ ap level_text (out-roll-Json (level.Str bytes))

pub number_of_spelled : (spelled : List ℕ) → number_in (Num spelled) ≡ Some spelled
number_of_spelled spelled = ap number_in (sym (rolls-Num spelled)) ∙ ap level_number (out-roll-Json (level.Num spelled))

pub whole_number : (most n : ℕ) → n ≤ most → n < 2 ^ 64 → whole_in most (Num (decimal n)) ≡ Some n
whole_number most n le small = rw (number_of_spelled (decimal n)) (spells_itself most n le small)

-- a text, and a number within the range, leave a claim set
pub text_set : (place : ℕ) (name : ClaimName) (bytes : List ℕ) (m : Members) → slice_get rows place ≡ Some (row name Text) → IsClaimSet m → IsClaimSet (with_claim name (Str bytes) m)
text_set place name bytes m there set = still_set place (row name Text) (Str bytes) m there (rw (text_of bytes) refl) refl set

-- a text is an audience
pub either_set : (bytes : List ℕ) (m : Members) → IsClaimSet m → IsClaimSet (with_claim Aud (Str bytes) m)
either_set bytes m set = still_set 2 (row Aud TextOrTexts) (Str bytes) m refl (rw (text_of bytes) refl) refl set

pub number_set : (place : ℕ) (name : ClaimName) (n : ℕ) (m : Members) → slice_get rows place ≡ Some (row name Number) → n ≤ MAX_NUMBER → IsClaimSet m → IsClaimSet (with_claim name (Num (decimal n)) m)
number_set place name n m there le set =
    still_set place (row name Number) (Num (decimal n)) m there (rw (number_of_spelled (decimal n)) refl) (rw (whole_number MAX_NUMBER n le (omega arith)) refl) set

pub number_there : (name : ClaimName) (n : ℕ) (m : Members) → n ≤ MAX_NUMBER → number_claim (name_of name) (with_claim name (Num (decimal n)) m) ≡ Some n
number_there name n m le = rw (this_claim name (Num (decimal n)) m) (whole_number MAX_NUMBER n le (omega arith))
