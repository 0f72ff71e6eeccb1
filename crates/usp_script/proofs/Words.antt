-- The fields of a line, one cut after the other.
use Rattle.std.proofs.Common.{◌≡◌, ℕ, zero, suc, Bool, true, false, cond, List, [], ◌∷◌, Option, Some, None, IfSome, IfNone, refl, sym, ap, ◌∙◌}
use Rattle.std.specs.Option.{option_and_then, option_map}
use Rattle.std.specs.Str.{bytes_eq}
use Rattle.std.proofs.lemmas.Option.{some_pair_parts}
use Rattle.std.proofs.lemmas.Slice.Eq.{bytes_eq-Decides}
use Rattle.usp_base.specs.Cuts.{cut_at}
use Rattle.usp_script.specs.Fields.{behind}
use Rattle.usp_script.specs.Reading.{fields, space}

abbrev Cut : Type 0
Cut = List ℕ × List ℕ

pub none_weaker : {X P Q : Type 0} (r : Option X) → IfNone r P → (P → Q) → IfNone r Q
none_weaker None p f = f p
none_weaker (Some x) p f = tt

-- ---- one field more

abbrev more_fields : ℕ → Cut → Option (List (List ℕ))
more_fields n cut = option_map (λ rest. cut.0 ∷ rest) (fields n cut.1)

inner : (a : List ℕ) (o : Option (List (List ℕ))) (w : List ℕ) (ws : List (List ℕ)) → option_map (λ rest. a ∷ rest) o ≡ Some (w ∷ ws) → (a ≡ w) × (o ≡ Some ws)
inner a None w ws e = absurd cc
inner a (Some r) w ws e = (cc, cc)

step_by : (o : Option Cut) (n : ℕ) (w : List ℕ) (ws : List (List ℕ)) → option_and_then (more_fields n) o ≡ Some (w ∷ ws)
    → (rest : List ℕ) × (o ≡ Some (w, rest)) × (fields n rest ≡ Some ws)
step_by None n w ws e = absurd cc
step_by (Some cut) n w ws e =
    let p = inner cut.0 (fields n cut.1) w ws e in (cut.1, ap (λ (a : List ℕ). Some (a, cut.1)) p.0, p.1)

pub fields_step : (n : ℕ) (line w : List ℕ) (ws : List (List ℕ)) → fields (suc n) line ≡ Some (w ∷ ws)
    → (rest : List ℕ) × (cut_at space line ≡ Some (w, rest)) × (fields n rest ≡ Some ws)
fields_step n line w ws e = step_by (cut_at space line) n w ws e

pub fields_more : (n : ℕ) (line w rest : List ℕ) (ws : List (List ℕ)) → cut_at space line ≡ Some (w, rest) → fields n rest ≡ Some ws
    → fields (suc n) line ≡ Some (w ∷ ws)
fields_more n line w rest ws cut e = ap (option_and_then (more_fields n)) cut ∙ ap (option_map (λ (rest : List (List ℕ)). w ∷ rest)) e

pub same_cut : (a b x y : List ℕ) → ◌≡◌ {A = Option Cut} (Some (a, b)) (Some (x, y)) → (a ≡ x) × (b ≡ y)
same_cut a b x y e = some_pair_parts a x b y e

no_fields_by : (o : Option (List (List ℕ))) (a : List ℕ) → option_map (λ (rest : List (List ℕ)). a ∷ rest) o ≡ Some [] → ⊥
no_fields_by None a e = cc
no_fields_by (Some r) a e = cc

no_field_by : (n : ℕ) (o : Option Cut) → option_and_then (more_fields n) o ≡ Some [] → ⊥
no_field_by n None e = cc
no_field_by n (Some cut) e = no_fields_by (fields n cut.1) cut.0 e

-- a line has a field
pub some_field : (n : ℕ) (line : List ℕ) → fields n line ≡ Some [] → ⊥
some_field zero line e = cc
some_field (suc n) line e = no_field_by n (cut_at space line) e

-- ---- behind a word

abbrev rest_if : List ℕ → Cut → Option (List ℕ)
rest_if word cut = cond (bytes_eq cut.0 word) (Some cut.1) None

same_bytes : (xs : List ℕ) → bytes_eq xs xs ≡ true
same_bytes xs = (bytes_eq-Decides xs xs).1 refl

tested : (b : Bool) (a word x rest : List ℕ) → (b ≡ true → a ≡ word) → cond b (Some x) None ≡ Some rest → (a ≡ word) × (x ≡ rest)
tested true a word x rest same e = (same refl, cc)
tested false a word x rest same e = absurd cc

some_by : (o : Option Cut) (word rest : List ℕ) → option_and_then (rest_if word) o ≡ Some rest → o ≡ Some (word, rest)
some_by None word rest e = absurd cc
some_by (Some cut) word rest e =
    let p = tested (bytes_eq cut.0 word) cut.0 word cut.1 rest (bytes_eq-Decides cut.0 word).0 e in
    ap (λ (a : List ℕ). Some (a, cut.1)) p.0 ∙ ap (λ (b : List ℕ). Some (word, b)) p.1

pub behind_some : (word line rest : List ℕ) → behind word line ≡ Some rest → cut_at space line ≡ Some (word, rest)
behind_some word line rest e = some_by (cut_at space line) word rest e

pub behind_none : (word line rest : List ℕ) → behind word line ≡ None → cut_at space line ≡ Some (word, rest) → ⊥
behind_none word line rest none cut =
    let there : behind word line ≡ Some rest = ap (option_and_then (rest_if word)) cut ∙ ap (λ (b : Bool). cond b (Some rest) None) (same_bytes word) in
    let clash : ◌≡◌ {A = Option (List ℕ)} None (Some rest) = sym none ∙ there in cc

-- what `==` tells of two texts
pub same_text : (r : Bool) (xs ys zs : List ℕ) → r ≡ bytes_eq xs ys → ys ≡ zs → r ≡ true → xs ≡ zs
same_text r xs ys zs is same hit = (bytes_eq-Decides xs ys).0 (sym is ∙ hit) ∙ same

pub other_text : (r : Bool) (xs ys zs : List ℕ) → r ≡ bytes_eq xs ys → ys ≡ zs → r ≡ false → xs ≡ zs → ⊥
other_text r xs ys zs is same miss e =
    let there : r ≡ true = is ∙ (bytes_eq-Decides xs ys).1 (e ∙ sym same) in
    let clash : true ≡ false = sym there ∙ miss in cc

-- ---- so many fields behind a word

module _ {X : Type 0} (now : X → List ℕ) (word line : List ℕ) where
  pub one_some : (r : Option X) → option_map now r ≡ behind word line → IfSome r (λ f. fields 1 line ≡ Some (word ∷ now f ∷ []))
  one_some None e = tt
  one_some (Some f) e = fields_more 0 line word (now f) (now f ∷ []) (behind_some word line (now f) (sym e)) refl

  pub one_none : (r : Option X) → option_map now r ≡ behind word line → IfNone r ((a : List ℕ) → fields 1 line ≡ Some (word ∷ a ∷ []) → ⊥)
  one_none None e = λ a all.
      let s = fields_step 0 line word (a ∷ []) all in behind_none word line s.0 (sym e) s.1
  one_none (Some f) e = tt

module _ {X : Type 0} (shown : X → List (List ℕ)) (n : ℕ) (word line rest : List ℕ) where
  pub all_some : (r : Option X) → behind word line ≡ Some rest → option_map shown r ≡ fields n rest → IfSome r (λ f. fields (suc n) line ≡ Some (word ∷ shown f))
  all_some None is e = tt
  all_some (Some f) is e = fields_more n line word rest (shown f) (behind_some word line rest is) (sym e)

  pub all_none : (r : Option X) → behind word line ≡ Some rest → option_map shown r ≡ fields n rest
      → IfNone r ((ws : List (List ℕ)) → fields (suc n) line ≡ Some (word ∷ ws) → ⊥)
  all_none None is e = λ ws all.
      let s = fields_step n line word ws all in
      let same : rest ≡ s.0 = (same_cut word rest word s.0 (sym (behind_some word line rest is) ∙ s.1)).1 in
      let clash : ◌≡◌ {A = Option (List (List ℕ))} None (Some ws) = e ∙ (ap (fields n) same ∙ s.2) in cc
  all_none (Some f) is e = tt

pub not_behind : (n : ℕ) (word line : List ℕ) → behind word line ≡ None → (ws : List (List ℕ)) → fields (suc n) line ≡ Some (word ∷ ws) → ⊥
not_behind n word line none ws all =
    let s = fields_step n line word ws all in behind_none word line s.0 none s.1
