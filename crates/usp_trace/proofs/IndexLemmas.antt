-- The index of a ledger, and the index with one token more.
use Rattle.std.proofs.Common.{◌≡◌, ◌⊎◌, ℕ, ◌≤◌, Bool, true, false, cond, List, [], ◌∷◌, ◌++◌, length, Option, Some, None, IfSome, inl, inr, refl, sym, ap, ◌∙◌, subst, arith}
use Rattle.std.specs.Global.{Vec}
use Rattle.std.specs.List.{position, position_or_len}
use Rattle.std.specs.Map.{lookup}
use Rattle.std.specs.Option.{option_map}
use Rattle.std.specs.Str.{bytes_eq}
use Rattle.std.proofs.lemmas.Bool.Decides.{nat_tests}
use Rattle.std.proofs.lemmas.List.{length-append}
use Rattle.std.proofs.lemmas.List.Folds.{position_or_len_push}
use Rattle.std.proofs.lemmas.Slice.Eq.{bytes_eq-Decides}
use Rattle.indexmap.specs.IndexMap.{insert_entry}
use Rattle.usp_claims.proofs.Rows.{tells}
use Rattle.usp_trace.specs.declared.issue.Issue.{Issue}
use Rattle.usp_trace.specs.Chains.{first_place}
use Rattle.usp_trace.specs.Index.{IsIndexOf, by_bytes, new_token, place_under, with_place}
use Rattle.usp_trace.specs.Issues.{token_of}
use Rattle.usp_trace.proofs.Ordered.{position_more}

-- ---- the entries of the map

pub place_by_bytes : (token : List ℕ) (entries : List (Vec ℕ × ℕ)) → place_under token (by_bytes entries) ≡ lookup (λ (key : Vec ℕ). bytes_eq token key.items) entries
place_by_bytes token [] = refl
place_by_bytes token (e ∷ entries) = ap (λ (o : Option ℕ). cond (bytes_eq token e.0.items) (Some e.1) o) (place_by_bytes token entries)

pub place_added : (token : Vec ℕ) (place : ℕ) (entries : List (Vec ℕ × ℕ)) → place_under token.items (by_bytes entries) ≡ None
    → by_bytes (insert_entry (λ (x y : Vec ℕ). bytes_eq x.items y.items) entries token place) ≡ by_bytes entries ++ (token.items, place) ∷ []
place_added token place [] none = refl
place_added token place (e ∷ entries) none = elim (tells (bytes_eq token.items e.0.items)) [
  | inl hit ↦ let some : Some e.1 ≡ None = rw hit at none in cc some
  | inr miss ↦ let rest = rw miss at none in rw miss (ap (λ (l : List (List ℕ × ℕ)). (e.0.items, e.1) ∷ l) (place_added token place entries rest))
]

-- ---- places behind one token more

place_stays : (token : List ℕ) (e : List ℕ × ℕ) (places : List (List ℕ × ℕ)) (place : ℕ) → place_under token places ≡ Some place → place_under token (places ++ e ∷ []) ≡ Some place
place_stays token e [] place some = cc some
place_stays token e (p ∷ places) place some = elim (tells (bytes_eq token p.0)) [
  | inl hit ↦ let here = rw hit at some in rw hit here
  | inr miss ↦ let rest = rw miss at some in rw miss (place_stays token e places place rest)
]

place_behind : (token : List ℕ) (e : List ℕ × ℕ) (places : List (List ℕ × ℕ)) → place_under token places ≡ None → place_under token (places ++ e ∷ []) ≡ cond (bytes_eq token e.0) (Some e.1) None
place_behind token e [] none = refl
place_behind token e (p ∷ places) none = elim (tells (bytes_eq token p.0)) [
  | inl hit ↦ let some : Some p.1 ≡ None = rw hit at none in cc some
  | inr miss ↦ let rest = rw miss at none in rw miss (place_behind token e places rest)
]

-- ---- first places in a ledger with one issue more

within : {X : Type 0} (p : X → Bool) (xs : List X) → position_or_len p xs ≤ length xs
within p [] = omega arith
within p (x ∷ xs) = elim (tells (p x)) [
  | inl hit ↦ rw hit (omega arith)
  | inr miss ↦ let rest = within p xs in rw miss (omega (arith, rest))
]

position_new : {X : Type 0} (p : X → Bool) (xs : List X) (y : X) → position p xs ≡ None → p y ≡ true → position p (xs ++ y ∷ []) ≡ Some (length xs)
position_new p xs y e h =
    let most = within p xs in
    let push = position_or_len_push p xs y in
    let n = length-append xs (y ∷ []) in
    grind (arith, nat_tests)

position_none : {X : Type 0} (p : X → Bool) (xs : List X) (y : X) → position p xs ≡ None → p y ≡ false → position p (xs ++ y ∷ []) ≡ None
position_none p xs y e h =
    let most = within p xs in
    let push = position_or_len_push p xs y in
    let n = length-append xs (y ∷ []) in
    grind (arith, nat_tests)

-- ---- the index of a ledger with one issue more

found_or_not : (o : Option ℕ) → ((place : ℕ) × (o ≡ Some place)) ⊎ (o ≡ None)
found_or_not None = inr refl
found_or_not (Some place) = inl (place, refl)

same_text : (a b : List ℕ) → bytes_eq a b ≡ true → a ≡ b
same_text a b hit = (bytes_eq-Decides a b).0 hit

turned : (a b : List ℕ) → bytes_eq a b ≡ false → bytes_eq b a ≡ false
turned a b miss = elim (tells (bytes_eq b a)) [
  | inl hit ↦
      let yes : bytes_eq a b ≡ true = (bytes_eq-Decides a b).1 (sym (same_text b a hit)) in
      let clash : true ≡ false = sym yes ∙ miss in cc clash
  | inr other ↦ other
]

-- a token that has a place already
index_stays : (ledger : List Issue) (issue : Issue) (places : List (List ℕ × ℕ)) (place : ℕ) → IsIndexOf ledger places → place_under (token_of issue) places ≡ Some place
    → IsIndexOf (ledger ++ issue ∷ []) places
index_stays ledger issue places place h some = record {
  each = λ token. elim (found_or_not (first_place token ledger)) [
    | inl found ↦ h.each token ∙ (found.1 ∙ sym (position_more _ ledger issue found.0 found.1))
    | inr none ↦ elim (tells (bytes_eq (token_of issue) token)) [
      | inl hit ↦
          let is : place_under token places ≡ Some place = subst (λ (t : List ℕ). place_under t places ≡ Some place) (same_text (token_of issue) token hit) some in
          let clash : Some place ≡ None = sym is ∙ (h.each token ∙ none) in cc clash
      | inr miss ↦ h.each token ∙ (none ∙ sym (position_none _ ledger issue none miss))
    ]
  ];
}

-- a token that has none
index_grows : (ledger : List Issue) (issue : Issue) (places : List (List ℕ × ℕ)) → IsIndexOf ledger places → place_under (token_of issue) places ≡ None
    → IsIndexOf (ledger ++ issue ∷ []) (places ++ (token_of issue, length ledger) ∷ [])
index_grows ledger issue places h fresh = record {
  each = λ token.
      let e : List ℕ × ℕ = (token_of issue, length ledger) in
      elim (found_or_not (first_place token ledger)) [
        | inl found ↦ place_stays token e places found.0 (h.each token ∙ found.1) ∙ sym (position_more _ ledger issue found.0 found.1)
        | inr none ↦ elim (tells (bytes_eq (token_of issue) token)) [
          | inl hit ↦
              let back : bytes_eq token (token_of issue) ≡ true = (bytes_eq-Decides token (token_of issue)).1 (sym (same_text (token_of issue) token hit)) in
              place_behind token e places (h.each token ∙ none) ∙ (ap (λ (b : Bool). cond b (Some (length ledger)) None) back ∙ sym (position_new _ ledger issue none hit))
          | inr miss ↦
              place_behind token e places (h.each token ∙ none)
              ∙ (ap (λ (b : Bool). cond b (Some (length ledger)) None) (turned (token_of issue) token miss) ∙ sym (position_none _ ledger issue none miss))
        ]
      ];
}

pub index_more : (ledger : List Issue) (issue : Issue) (places : List (List ℕ × ℕ)) → IsIndexOf ledger places
    → IsIndexOf (ledger ++ issue ∷ []) (with_place (new_token (token_of issue) places) (length ledger) places)
index_more ledger issue places h = elim (found_or_not (place_under (token_of issue) places)) [
  | inl found ↦ rw found.1 (index_stays ledger issue places found.0 h found.1)
  | inr none ↦ rw none (index_grows ledger issue places h none)
]

pub none_indexed : IsIndexOf [] []
none_indexed = record { each = λ token. refl }

-- a new token has no place
pub new_is_fresh : (token : List ℕ) (places : List (List ℕ × ℕ)) (copy : Option (Vec ℕ)) → option_map (λ (c : Vec ℕ). c.items) copy ≡ new_token token places → IfSome copy (λ (c : Vec ℕ). place_under c.items places ≡ None)
new_is_fresh token places None e = tt
new_is_fresh token places (Some copy) e = elim (found_or_not (place_under token places)) [
  | inl found ↦ let clash : Some copy.items ≡ None = rw found.1 at e in cc clash
  | inr none ↦
      let is : Some copy.items ≡ Some token = rw none at e in
      let same : copy.items ≡ token = cc in
      subst (λ (t : List ℕ). place_under t places ≡ None) (sym same) none
]
