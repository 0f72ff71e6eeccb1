-- The line of an ask says one thing.
use Rattle.std.proofs.Common.{◌≡◌, ◌⊎◌, ℕ, ◌+◌, ◌^◌, ◌<◌, true, List, [], ◌∷◌, ◌++◌, codes, drop, get_or, Option, Some, None, IfSome, inl, inr, refl, sym, ap, ◌∙◌, subst, arith, append_assoc}
use Rattle.std.specs.Fmt.{decimal}
use Rattle.std.proofs.lemmas.List.{append_cancel_left, append_cancel_right}
use Rattle.usp_base.specs.Numbers.{is_digit}
use Rattle.usp_edge.specs.declared.note.Verdict.{Verdict}
use Rattle.usp_edge.specs.declared.note.Verdict.TheVariants.{Admitted, Denied}
use Rattle.usp_jws.specs.Letters.{is_identity_byte}
use Rattle.usp_nonce.specs.declared.answer.Turned.{Turned}
use Rattle.usp_rules.specs.Names.{name_of, number_of}
use Rattle.usp_lab.proofs.Cuts.{Each, behind_first, ends, parted}
use Rattle.usp_lab.proofs.Letters.{identity_bytes, one_number, one_rule, rule_small}
use Rattle.usp_lab.specs.Entries.{Entry, Run}
use Rattle.usp_lab.specs.LabText.{ShowsAsk, ShowsChain, ShowsOrigin, origin_of, traced, turn_text, untraced, verdict_text}
use Rattle.usp_lab.specs.Rounds.{Served}
use Rattle.usp_lab.specs.Shown.{IsPrintable, ask_line, status_shown, turn_shown}

-- ---- the end of a line

-- what stands where the chain of a token stands
abbrev IsOrigin : List ℕ → Type 0
IsOrigin text = (text ≡ []) ⊎ ((rest : List ℕ) × (text ≡ codes " chain " ++ rest))

chain_origin : (entries : List Entry) (o : Option ℕ) (text : List ℕ) → ShowsChain entries o text → IsOrigin text
chain_origin entries _ _ (untraced text is) = inr (codes "untraced", is)
chain_origin entries _ _ (traced place places links text chain shown is) = inr (links, is)

is_origin : (run : Run) (served : Served) (verdict : Verdict) (text : List ℕ) → ShowsOrigin run served verdict text → IsOrigin text
is_origin run served Admitted text shows = chain_origin run.entries (origin_of run served) text shows
is_origin run served (Denied rule) text is = inl is

abbrev ended : List ℕ → List ℕ
ended text = text ++ 10 ∷ []

origin_ends : (text : List ℕ) → IsOrigin text → ends is_digit (ended text) ≡ true
origin_ends text (inl none) = subst (λ (t : List ℕ). ends is_digit (ended t) ≡ true) (sym none) refl
origin_ends text (inr chain) = subst (λ (t : List ℕ). ends is_digit (ended t) ≡ true) (sym chain.1) refl

-- no chain begins as a nonce call does
no_turn : (text rest : List ℕ) → IsOrigin text → ended text ≡ codes " nonce " ++ rest → ⊥
no_turn text rest (inl none) e =
    let first : 10 ≡ 32 = ap (λ (l : List ℕ). get_or l 0 0) (ap ended (sym none) ∙ e) in absurd (omega (arith, first))
no_turn text rest (inr chain) e =
    let second : 99 ≡ 110 = ap (λ (l : List ℕ). get_or l 1 0) (ap ended (sym chain.1) ∙ e) in absurd (omega (arith, second))

-- ---- the nonce call

abbrev IsSmall : Option Turned → Type 0
IsSmall call = IfSome call (λ turned. (turned.place < 2 ^ 64) × (turned.moment < 2 ^ 64))

turn_ends : (call : Option Turned) (text : List ℕ) → IsOrigin text → ends is_digit (turn_text call ++ ended text) ≡ true
turn_ends None text is = origin_ends text is
turn_ends (Some turned) text is = refl

record SameTurn (c d : Option Turned) (x y : List ℕ) : Type 0 where
  turn : turn_shown c ≡ turn_shown d
  origin : x ≡ y

-- a nonce call's text behind its word, its number first
turn_apart : (turned : Turned) (rest : List ℕ)
    → (decimal turned.place ++ (codes " at " ++ decimal turned.moment)) ++ rest ≡ decimal turned.place ++ (codes " at " ++ (decimal turned.moment ++ rest))
turn_apart turned rest = append_assoc (decimal turned.place) (codes " at " ++ decimal turned.moment) rest

one_turn : (c d : Option Turned) (x y : List ℕ) → IsOrigin x → IsOrigin y → IsSmall c → IsSmall d
    → turn_text c ++ ended x ≡ turn_text d ++ ended y → SameTurn c d x y
one_turn None None x y ix iy sc sd e = record { turn = refl; origin = append_cancel_right x y (10 ∷ []) e }
one_turn None (Some u) x y ix iy sc sd e = absurd (no_turn x ((decimal u.place ++ (codes " at " ++ decimal u.moment)) ++ ended y) ix e)
one_turn (Some t) None x y ix iy sc sd e = absurd (no_turn y ((decimal t.place ++ (codes " at " ++ decimal t.moment)) ++ ended x) iy (sym e))
one_turn (Some t) (Some u) x y ix iy sc sd e =
    let places = one_number t.place u.place (codes " at " ++ (decimal t.moment ++ ended x)) (codes " at " ++ (decimal u.moment ++ ended y)) sc.0 sd.0 refl refl
    (sym (turn_apart t (ended x)) ∙ (ap (λ (l : List ℕ). drop 7 l) e ∙ turn_apart u (ended y))) in
    let moments = one_number t.moment u.moment (ended x) (ended y) sc.1 sd.1 (origin_ends x ix) (origin_ends y iy) (ap (λ (l : List ℕ). drop 4 l) places.1) in
    record { turn = λ i. Some (places.0 i, moments.0 i); origin = append_cancel_right x y (10 ∷ []) moments.1 }

-- ---- the verdict

record SameVerdict (a b : Verdict) (n m : ℕ) (r s : List ℕ) : Type 0 where
  verdict : a ≡ b
  status : status_shown n a ≡ status_shown m b
  rest : r ≡ s

verdict_ends : (status : ℕ) (verdict : Verdict) (rest : List ℕ) → ends is_identity_byte (verdict_text status verdict ++ rest) ≡ true
verdict_ends status Admitted rest = refl
verdict_ends status (Denied broken) rest = refl

one_verdict : (n m : ℕ) (a b : Verdict) (r s : List ℕ) → n < 2 ^ 64 → m < 2 ^ 64 → ends is_digit r ≡ true → ends is_digit s ≡ true
    → verdict_text n a ++ r ≡ verdict_text m b ++ s → SameVerdict a b n m r s
one_verdict n m Admitted Admitted r s small less er es e =
    let both = one_number n m r s small less er es (ap (λ (l : List ℕ). drop 10 l) e) in
    record { verdict = refl; status = ap (λ (k : ℕ). Some k) both.0; rest = both.1 }
one_verdict n m Admitted (Denied b) r s small less er es e =
    let letter : 97 ≡ 100 = ap (λ (l : List ℕ). get_or l 1 0) e in absurd (omega (arith, letter))
one_verdict n m (Denied a) Admitted r s small less er es e =
    let letter : 100 ≡ 97 = ap (λ (l : List ℕ). get_or l 1 0) e in absurd (omega (arith, letter))
one_verdict n m (Denied a) (Denied b) r s small less er es e =
    let numbers = one_number (number_of a) (number_of b) (32 ∷ (name_of a ++ r)) (32 ∷ (name_of b ++ s)) (rule_small a) (rule_small b) refl refl
    (sym (append_assoc (decimal (number_of a)) (32 ∷ name_of a) r) ∙ (ap (λ (l : List ℕ). drop 8 l) e ∙ append_assoc (decimal (number_of b)) (32 ∷ name_of b) s)) in
    let same = one_rule a b numbers.0 in
    let behind = behind_first 32 32 (name_of a ++ r) (name_of b ++ s) numbers.1 in
    record {
      verdict = ap (λ broken. Denied broken) same;
      status = refl;
      rest = append_cancel_left (name_of a) r s (behind ∙ ap (λ broken. name_of broken ++ s) (sym same));
    }

-- ---- the line

record SameFront (n m : ℕ) (x y r s : List ℕ) : Type 0 where
  number : n ≡ m
  edge : x ≡ y
  rest : r ≡ s

one_front : (n m : ℕ) (x y r s : List ℕ) → n < 2 ^ 64 → m < 2 ^ 64 → Each is_identity_byte x → Each is_identity_byte y
    → ends is_identity_byte r ≡ true → ends is_identity_byte s ≡ true → decimal n ++ (32 ∷ (x ++ r)) ≡ decimal m ++ (32 ∷ (y ++ s)) → SameFront n m x y r s
one_front n m x y r s small less ex ey er es e =
    let numbers = one_number n m (32 ∷ (x ++ r)) (32 ∷ (y ++ s)) small less refl refl e in
    let names = parted is_identity_byte x y r s ex ey er es (behind_first 32 32 (x ++ r) (y ++ s) numbers.1) in
    record { number = numbers.0; edge = names.0; rest = names.1 }

pub one_line : (run another : Run) (number other : ℕ) (one two : Served) (text : List ℕ) → IsPrintable number one → IsPrintable other two
    → (shows : ShowsAsk run number one text) (tells : ShowsAsk another other two text)
    → ask_line number one shows.origin ≡ ask_line other two tells.origin
one_line run another number other one two text print mark shows tells =
    let a = one.note in
    let b = two.note in
    let x = shows.origin in
    let y = tells.origin in
    let ix = is_origin run one a.verdict x shows.shows in
    let iy = is_origin another two b.verdict y tells.shows in
    let r = turn_text a.call ++ ended x in
    let s = turn_text b.call ++ ended y in
    let front = one_front number other one.edge.edge two.edge.edge (verdict_text a.status a.verdict ++ r) (verdict_text b.status b.verdict ++ s)
    print.counted mark.counted (identity_bytes one.edge.edge print.edge) (identity_bytes two.edge.edge mark.edge)
    (verdict_ends a.status a.verdict r) (verdict_ends b.status b.verdict s) (sym shows.is ∙ tells.is) in
    let verdict = one_verdict a.status b.status a.verdict b.verdict r s print.status mark.status (turn_ends a.call x ix) (turn_ends b.call y iy) front.rest in
    let turn = one_turn a.call b.call x y ix iy print.call mark.call verdict.rest in
    λ i. record {
      number = front.number i;
      edge = front.edge i;
      verdict = verdict.verdict i;
      status = verdict.status i;
      turn = turn.turn i;
      origin = turn.origin i;
    }
