-- The links of a line name one chain.
use Rattle.std.proofs.Common.{◌≡◌, ℕ, ◌+◌, ◌^◌, ◌<◌, ◌≤◌, List, [], ◌∷◌, ◌++◌, length, drop, get_or, refl, sym, ap, ◌∙◌, subst, arith, append-nil, length-append}
use Rattle.std.specs.Fmt.{decimal}
use Rattle.std.proofs.lemmas.Fmt.{decimal_injective}
use Rattle.usp_script.specs.Reading.{label_text, number_in}
use Rattle.usp_script.specs.Script.{IsScript, ScriptValue, asks_in}
use Rattle.usp_script.specs.declared.ask.Round.{Round}
use Rattle.usp_script.specs.declared.ask.Label.{Label}
use Rattle.usp_script.specs.declared.ask.Label.TheVariants.{Granted, Issued, Outside}
use Rattle.usp_lab.proofs.Cuts.{Each, each_both, parted}
use Rattle.usp_lab.proofs.Labels.{AreOnce, IsNumbered, labels_numbered, labels_once}
use Rattle.usp_lab.proofs.Letters.{is_label_byte, is_link_byte, label_letters, label_link, window_link}
use Rattle.usp_lab.proofs.Told.{OfEach}
use Rattle.usp_lab.proofs.Lists.{all_one_more}
use Rattle.usp_lab.proofs.Stepping.{served_long}
use Rattle.usp_lab.specs.Entries.{Entry, Run, Runs, RunsFrom, ends, nothing_run, opened, runs, served_in, with_round}
use Rattle.usp_lab.specs.Rounds.{issued_by}
use Rattle.usp_lab.specs.LabText.{AreLinks, IsLink, before, last, window_text}

-- ---- labels

record IsSmall (label : Label) : Type 0 where
  number : number_in label < 2 ^ 64

small_by : (grants asks : ℕ) (label : Label) → IsNumbered grants asks label → grants < 2 ^ 64 → asks < 2 ^ 64 → IsSmall label
small_by grants asks (Granted number) le few less = record { number = omega (arith, le, few) }
small_by grants asks (Outside number) le few less = absurd le
small_by grants asks (Issued number) le few less = record { number = omega (arith, le, less) }

abbrev letter_at_front : List ℕ → ℕ
letter_at_front text = get_or text 0 0

same_number : (n m a b : ℕ) → n < 2 ^ 64 → m < 2 ^ 64 → a ∷ decimal n ≡ b ∷ decimal m → n ≡ m
same_number n m a b small less e = decimal_injective n m small less (ap (λ (l : List ℕ). drop 1 l) e)

one_label : (a b : Label) → IsSmall a → IsSmall b → label_text a ≡ label_text b → a ≡ b
one_label (Granted n) (Granted m) small less e = ap (λ (k : ℕ). Granted k) (same_number n m 103 103 small.number less.number e)
one_label (Outside n) (Outside m) small less e = ap (λ (k : ℕ). Outside k) (same_number n m 120 120 small.number less.number e)
one_label (Issued n) (Issued m) small less e = ap (λ (k : ℕ). Issued k) (same_number n m 105 105 small.number less.number e)
one_label (Granted n) (Outside m) small less e = let letter : 103 ≡ 120 = ap letter_at_front e in absurd (omega (arith, letter))
one_label (Granted n) (Issued m) small less e = let letter : 103 ≡ 105 = ap letter_at_front e in absurd (omega (arith, letter))
one_label (Outside n) (Granted m) small less e = let letter : 120 ≡ 103 = ap letter_at_front e in absurd (omega (arith, letter))
one_label (Outside n) (Issued m) small less e = let letter : 120 ≡ 105 = ap letter_at_front e in absurd (omega (arith, letter))
one_label (Issued n) (Granted m) small less e = let letter : 105 ≡ 103 = ap letter_at_front e in absurd (omega (arith, letter))
one_label (Issued n) (Outside m) small less e = let letter : 105 ≡ 120 = ap letter_at_front e in absurd (omega (arith, letter))

-- ---- links

module _ (entries : List Entry) (small : OfEach (λ (entry : Entry). IsSmall entry.label) entries) (once : AreOnce entries) where
  link_bytes : (place : ℕ) (text : List ℕ) → IsLink entries place text → Each is_link_byte text
  link_bytes place text link =
      subst (Each is_link_byte) (sym link.is)
      (each_both is_link_byte (label_text link.entry.label) (window_text link.members) (label_link link.entry.label) (window_link link.members))

  one_link : (a b : ℕ) (x y : List ℕ) → IsLink entries a x → IsLink entries b y → x ≡ y → a ≡ b
  one_link a b x y one other e =
      let labels = parted is_label_byte (label_text one.entry.label) (label_text other.entry.label) (window_text one.members) (window_text other.members)
      (label_letters one.entry.label) (label_letters other.entry.label) refl refl (sym one.is ∙ (e ∙ other.is)) in
      once a b one.entry other.entry one.at other.at
      (one_label one.entry.label other.entry.label (small a one.entry one.at) (small b other.entry other.at) labels.0)

  -- one link is not several
  one_alone : (a b : ℕ) (x link links : List ℕ) → IsLink entries a x → IsLink entries b link → x ≡ link ++ (62 ∷ links) → ⊥
  one_alone a b x link links one other e =
      let parts = parted is_link_byte x link [] (62 ∷ links) (link_bytes a x one) (link_bytes b link other) refl refl (append-nil x ∙ e) in
      let clash : [] ≡ 62 ∷ links = parts.1 in cc

  one_chain : (places others x y : List ℕ) → AreLinks entries places x → AreLinks entries others y → x ≡ y → places ≡ others
  one_chain _ _ _ _ (last a x one) (last b y other) e = ap (λ (place : ℕ). place ∷ []) (one_link a b x y one other e)
  one_chain _ _ _ _ (last a x one) (before b next places link links y other more is) e = absurd (one_alone a b x link links one other (e ∙ is))
  one_chain _ _ _ _ (before a next places link links x one more is) (last b y other) e = absurd (one_alone b a y link links other one (sym e ∙ is))
  one_chain _ _ _ _ (before a next places link links x one more is) (before b following others knot knots y other rest at) e =
      let parts = parted is_link_byte link knot (62 ∷ links) (62 ∷ knots) (link_bytes a link one) (link_bytes b knot other) refl refl (sym is ∙ (e ∙ at)) in
      let here = one_link a b link knot one other parts.0 in
      let behind = one_chain (next ∷ places) (following ∷ others) links knots more rest (ap (λ (l : List ℕ). drop 1 l) parts.1) in
      ap (λ (place : ℕ). place ∷ (next ∷ places)) here ∙ ap (λ (l : List ℕ). b ∷ l) behind

asks_of : (script : ScriptValue) (run : Run) (rounds : List Round) (after : Run) → RunsFrom script run rounds after → length (served_in after) ≡ length (served_in run) + asks_in rounds
asks_of script _ _ _ (ends run after is) =
    let none : length (served_in run) ≡ length (served_in run) + 0 = omega arith in ap (λ (r : Run). length (served_in r)) is ∙ none
asks_of script _ _ _ (runs run after round rounds all served rest) =
    let more = asks_of script (with_round run round all) rounds after rest in
    let grown : length (served_in (with_round run round all)) ≡ length (served_in run) + length all
    = ap length (all_one_more run.rounds all) ∙ length-append (served_in run) all in
    let long = served_long script (issued_by (served_in run)) (length (opened run round)) round.asks all served in
    omega (arith, more, grown, long)

-- a script has few asks
pub asks_few : (script : ScriptValue) (run : Run) → IsScript script → Runs script run → length (served_in run) ≤ 100000
asks_few script run is_script is = omega (arith, is_script.few, asks_of script nothing_run script.rounds run is)

pub names_one : (script : ScriptValue) (run : Run) → IsScript script → Runs script run → run.grants < 2 ^ 64
    → (places others text : List ℕ) → AreLinks run.entries places text → AreLinks run.entries others text → places ≡ others
names_one script run is_script is few places others text one other =
    let less : length (served_in run) < 2 ^ 64 = omega (arith, asks_few script run is_script is) in
    one_chain run.entries (λ k entry at. small_by run.grants (length (served_in run)) entry.label (labels_numbered script run is k entry at) few less)
    (labels_once script run is) places others text text one other refl
