-- The reader of a set keeps that its elements so far and those of the rest are those of the set.
use Rattle.std.proofs.Common.{◌≡◌, ℕ, zero, suc, ◌+◌, ◌-◌, ◌≤◌, ◌<◌, min, List, [], ◌∷◌, ◌++◌, Bool, true, false, nat_eq, Ok, Err, refl, sym, ap, ◌∙◌, arith, length, drop, slice_index, append_assoc, eq-eqb}
use Rattle.std.proofs.lemmas.List.{append-nil, drop-drop, drop_min, length-drop}
use Rattle.std.proofs.lemmas.Bool.{ne_eqb}
use Rattle.usp_ere.specs.declared.class.Element.{Element}
use Rattle.usp_ere.specs.declared.fault.EreFault.{EreFault}
use Rattle.usp_ere.specs.declared.fault.EreFault.TheVariants.{Syntax}
use Rattle.usp_ere.specs.SetText.{InSet, ending, element, wrong, in_set, is_range, Elements, with_front, behind, elements_from, elements_at}

-- the elements so far, and those of the rest
abbrev pub with_fronts : List Element → Elements → Elements
with_fronts es (Ok (fs, end)) = Ok (es ++ fs, end)
with_fronts es (Err f) = Err f

fronts_next : (es : List Element) (e : Element) (r : Elements) → with_fronts (es ++ e ∷ []) r ≡ with_fronts es (with_front e r)
fronts_next es e (Ok (fs, end)) = ap (λ z. Ok (z, end)) (append_assoc es (e ∷ []) fs)
fronts_next es e (Err f) = refl

-- the bytes of the element before are passed over
skipped : (k : ℕ) (first ranged : Bool) (at : ℕ) (t : List ℕ) → elements_from k first ranged at t ≡ elements_from 0 first ranged (at + min k (length t)) (drop k t)
skipped zero first ranged at [] = let e : at ≡ at + min 0 0 = omega arith in ap (λ n. Err (Syntax n)) e
skipped (suc k) first ranged at [] = let e : at ≡ at + min (suc k) 0 = omega arith in ap (λ n. Err (Syntax n)) e
skipped zero first ranged at (c ∷ t) = let e : at ≡ at + min 0 (suc (length t)) = omega arith in ap (λ n. elements_from 0 first ranged n (c ∷ t)) e
skipped (suc k) first ranged at (c ∷ t) =
    let e : at + 1 + min k (length t) ≡ at + min (suc k) (suc (length t)) = omega arith in
    skipped k first ranged (at + 1) t ∙ ap (λ n. elements_from 0 first ranged n (drop k t)) e

-- what stands at the front of the rest, and what is behind it
at_front : (first ranged : Bool) (at : ℕ) (t : List ℕ) → 0 < length t → elements_from 0 first ranged at t ≡ behind (in_set first ranged at (slice_index t 0) (drop 1 t)) at (λ e bytes. elements_from (bytes - 1) false (is_range e) (at + 1) (drop 1 t))
at_front first ranged at [] some = absurd (omega arith)
at_front first ranged at (c ∷ t) some = refl

-- as far as a place
pub record IsRead (text : List ℕ) (from at : ℕ) (ranged : Bool) (es : List Element) : Type 0 where
  pub begun : from ≤ at
  pub within : at ≤ length text
  pub rest : with_fronts es (elements_from 0 (nat_eq at from) ranged at (drop at text)) ≡ elements_at from (drop from text)

eq_same : (n : ℕ) → true ≡ nat_eq n n
eq_same n = sym (eq-eqb n n refl)

with_none : (r : Elements) → with_fronts [] r ≡ r
with_none (Ok (fs, end)) = refl
with_none (Err f) = refl

pub begins_read : (text : List ℕ) (from : ℕ) → from ≤ length text → IsRead text from from false []
begins_read text from within = record {
  begun = omega arith;
  within = within;
  rest = with_none _ ∙ ap (λ b. elements_from 0 b false from (drop from text)) (sym (eq_same from));
}

-- what stands at the place, and what it leads to
placed : (text : List ℕ) (from at : ℕ) (ranged : Bool) (es : List Element) (t : List ℕ) (p : InSet) → IsRead text from at ranged es → drop at text ≡ t → at < length text → in_set (nat_eq at from) ranged at (slice_index t 0) (drop 1 t) ≡ p → with_fronts es (behind p at (λ e bytes. elements_from (bytes - 1) false (is_range e) (at + 1) (drop 1 t))) ≡ elements_at from (drop from text)
placed text from at ranged es t p h is lt part =
    let some : 0 < length t = omega (arith, length-drop at text, ap length is) in
    sym (
    sym h.rest
    ∙ ap (λ z. with_fronts es (elements_from 0 (nat_eq at from) ranged at z)) is
    ∙ ap (with_fronts es) (at_front (nat_eq at from) ranged at t some)
    ∙ ap (λ q. with_fronts es (behind q at (λ e bytes. elements_from (bytes - 1) false (is_range e) (at + 1) (drop 1 t)))) part
    )

pub read_end : (text : List ℕ) (from at : ℕ) (ranged : Bool) (es : List Element) (t : List ℕ) → IsRead text from at ranged es → drop at text ≡ t → at < length text → in_set (nat_eq at from) ranged at (slice_index t 0) (drop 1 t) ≡ ending → elements_at from (drop from text) ≡ Ok (es, at + 1)
read_end text from at ranged es t h is lt part =
    sym (placed text from at ranged es t ending h is lt part) ∙ ap (λ z. Ok (z, at + 1)) (append-nil es)

pub read_wrong : (text : List ℕ) (from at : ℕ) (ranged : Bool) (es : List Element) (t : List ℕ) (f : EreFault) → IsRead text from at ranged es → drop at text ≡ t → at < length text → in_set (nat_eq at from) ranged at (slice_index t 0) (drop 1 t) ≡ wrong f → elements_at from (drop from text) ≡ Err f
read_wrong text from at ranged es t f h is lt part = sym (placed text from at ranged es t (wrong f) h is lt part)

-- the rest of a text behind an element of so many bytes
rest_behind : (ranged : Bool) (at bytes next : ℕ) (text t : List ℕ) → drop at text ≡ t → at < length text → next ≡ min (at + 1 + (bytes - 1)) (length text) → elements_from (bytes - 1) false ranged (at + 1) (drop 1 t) ≡ elements_from 0 false ranged next (drop next text)
rest_behind ranged at bytes next text t is lt moves =
    let tail : drop 1 t ≡ drop (at + 1) text = ap (drop 1) (sym is) ∙ drop-drop 1 at text in
    let long : length (drop 1 t) ≡ length text - (at + 1) = ap length tail ∙ length-drop (at + 1) text in
    let place : at + 1 + min (bytes - 1) (length (drop 1 t)) ≡ next = omega arith in
    let left : drop (bytes - 1) (drop 1 t) ≡ drop next text =
    ap (drop (bytes - 1)) tail ∙ drop-drop (bytes - 1) (at + 1) text ∙ sym (drop_min (at + 1 + (bytes - 1)) text) ∙ ap (λ n. drop n text) (sym moves) in
    skipped (bytes - 1) false ranged (at + 1) (drop 1 t)
    ∙ ap (λ n. elements_from 0 false ranged n (drop (bytes - 1) (drop 1 t))) place
    ∙ ap (elements_from 0 false ranged next) left

pub read_more : (text : List ℕ) (from at : ℕ) (ranged ranged' : Bool) (es more : List Element) (t : List ℕ) (e : Element) (bytes next : ℕ) → IsRead text from at ranged es → drop at text ≡ t → at < length text → in_set (nat_eq at from) ranged at (slice_index t 0) (drop 1 t) ≡ element e bytes → more ≡ es ++ e ∷ [] → ranged' ≡ is_range e → next ≡ min (at + 1 + (bytes - 1)) (length text) → IsRead text from next ranged' more
read_more text from at ranged ranged' es more t e bytes next h is lt part grows ranges moves =
    let begun : from ≤ at = h.begun in
    let behind_from : next ≡ from → ⊥ = λ q. omega arith in record {
      begun = omega arith;
      within = omega arith;
      rest =
          ap (λ b. with_fronts more (elements_from 0 b ranged' next (drop next text))) (ne_eqb next from behind_from)
          ∙ ap (λ b. with_fronts more (elements_from 0 false b next (drop next text))) ranges
          ∙ ap (λ z. with_fronts z (elements_from 0 false (is_range e) next (drop next text))) grows
          ∙ fronts_next es e _
          ∙ ap (λ r. with_fronts es (with_front e r)) (sym (rest_behind (is_range e) at bytes next text t is lt moves))
          ∙ placed text from at ranged es t (element e bytes) h is lt part;
    }
