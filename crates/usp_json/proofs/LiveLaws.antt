-- Each state of the machine can be brought to its end.
use Rattle.std.proofs.Common.{◌≡◌, ◌≢◌, ℕ, zero, suc, ◌+◌, ◌-◌, ◌<◌, ◌≤◌, ◌==◌, true, false, List, [], ◌∷◌, ◌++◌, length, get_or, Option, Some, inl, inr, refl, sym, ap, ◌∙◌, subst, arith, append_assoc, append-nil, length-append}
use Rattle.std.specs.Str.{bytes_eq}
use Rattle.std.specs.Cmp.Lexicographic.{same_text}
use Rattle.usp_json.specs.Grammar.{none}
use Rattle.std.proofs.lemmas.Bool.Decides.{eqb_tells}
use Rattle.usp_json.specs.declared.value.Json.{Json}
use Rattle.usp_json.specs.declared.value.Json.TheVariants.{Null, Num, Str}
use Rattle.usp_json.specs.declared.frame.Frame.{Frame}
use Rattle.usp_json.specs.declared.frame.Frame.TheVariants.{Array, Object as OpenObject}
use Rattle.usp_json.specs.declared.states.Expect.{Expect}
use Rattle.usp_json.specs.declared.states.Expect.TheVariants.{Object, Value, ValueOrEnd, Name, NameOrEnd, Colon, CommaOrEnd, End, Text, Number, Letters}
use Rattle.usp_json.specs.declared.states.NumberPart.{NumberPart}
use Rattle.usp_json.specs.declared.states.NumberPart.TheVariants as part
use Rattle.usp_json.specs.declared.states.Piece.{Piece}
use Rattle.usp_json.specs.declared.states.Piece.TheVariants.{Start}
use Rattle.usp_json.specs.declared.states.Role.TheVariants as role
use Rattle.usp_json.specs.declared.states.Word.{Word}
use Rattle.usp_json.specs.declared.states.Word.TheVariants as word
use Rattle.usp_json.specs.Entries.{object_of, array_of}
use Rattle.usp_json.specs.Number.{number_run, is_whole_number}
use Rattle.usp_json.specs.Pieces.{Read, pieces_run}
use Rattle.usp_json.specs.Spells.{Limits, has_name, null, IsFresh}
use Rattle.usp_json.specs.Machine.{State, at, put, after_value, letters_of, value_of_word, step, run, start, ended}
use Rattle.usp_json.proofs.Numbers.{tells}
use Rattle.usp_json.proofs.CharLemmas.{differs}
use Rattle.usp_json.proofs.PieceLaws.{PieceHolds, piece_live}
use Rattle.usp_json.proofs.ReadLaws.{one_step, TakesValue, value_takes, value_or_end_takes, Begins, begins_bracket, begins_brace, text_state, text_run, number_state, number_lift, number_end, value_reads}
use Rattle.usp_json.proofs.HoldLaws.{Outside, IsInner, ValuePlace, NamePlace, CommaPlace, Holds, first_value}

-- a run to the end
abbrev pub Ends : Limits → State → Type 0
Ends limits st = (rest : List ℕ) × (names : List (List ℕ)) × (values : List Json) × (run limits st rest ≡ Some (ended names values))

-- open frames of which the outermost is an object
abbrev IsStack : List Frame → Type 0
IsStack [] = ⊥
IsStack (Array values ∷ []) = ⊥
IsStack (OpenObject names values ∷ []) = Unit {0}
IsStack (frame ∷ next ∷ outer) = IsStack (next ∷ outer)

stack : (limits : Limits) (frame : Frame) (outer : List Frame) (f : List ℕ) → Outside limits outer f → IsInner frame outer → IsStack (frame ∷ outer)
stack limits (Array values) [] f o i = absurd (omega arith)
stack limits (OpenObject names values) [] f o i = tt
stack limits (Array values) (next ∷ outer) f o i = stack limits next outer o.0 o.2 o.6
stack limits (OpenObject names values) (next ∷ outer) f o i = stack limits next outer o.0 o.2 o.6

-- the brackets that close the frames
closers : List Frame → List ℕ
closers [] = []
closers (Array values ∷ outer) = 93 ∷ closers outer
closers (OpenObject names values ∷ outer) = 125 ∷ closers outer

begins_closers : (frames : List Frame) → IsStack frames → Begins (closers frames)
unfolding closers
begins_closers [] s = absurd s
begins_closers (Array values ∷ outer) s = begins_bracket (closers outer)
begins_closers (OpenObject names values ∷ outer) s = begins_brace (closers outer)

abbrev Closed : Limits → State → List ℕ → Type 0
Closed limits st rest = (names : List (List ℕ)) × (values : List Json) × (run limits st rest ≡ Some (ended names values))

-- a value more, and all are closed
finish : (limits : Limits) (frames : List Frame) (v : Json) → IsStack frames → Closed limits (at CommaOrEnd (put v frames)) (closers frames)
unfolding closers
finish limits [] v s = absurd s
finish limits (Array values ∷ []) v s = absurd s
finish limits (OpenObject names values ∷ []) v s = (names, values ++ v ∷ [], refl)
finish limits (Array values ∷ next ∷ outer) v s = finish limits (next ∷ outer) (array_of (values ++ v ∷ [])) s
finish limits (OpenObject names values ∷ next ∷ outer) v s = finish limits (next ∷ outer) (object_of names (values ++ v ∷ [])) s

whole_closed : (limits : Limits) (frame : Frame) (outer : List Frame) → IsStack (frame ∷ outer) → Closed limits (at CommaOrEnd (frame ∷ outer)) (closers (frame ∷ outer))
unfolding closers
whole_closed limits (Array values) [] s = absurd s
whole_closed limits (OpenObject names values) [] s = (names, values, refl)
whole_closed limits (Array values) (next ∷ outer) s = finish limits (next ∷ outer) (array_of values) s
whole_closed limits (OpenObject names values) (next ∷ outer) s = finish limits (next ∷ outer) (object_of names values) s

ends_from : (limits : Limits) (st t : State) (front rest : List ℕ) → run limits st (front ++ rest) ≡ run limits t rest → Closed limits t rest → Ends limits st
ends_from limits st t front rest e c = (front ++ rest, c.0, c.1, e ∙ c.2)

ends_more : (limits : Limits) (st t : State) (front : List ℕ) → ((rest : List ℕ) → run limits st (front ++ rest) ≡ run limits t rest) → Ends limits t → Ends limits st
ends_more limits st t front e c = (front ++ c.0, c.1, c.2, e c.0 ∙ c.3)

value_closed : (limits : Limits) (e : Expect) (frame : Frame) (outer : List Frame) → TakesValue limits e (frame ∷ outer) → length outer ≤ limits.levels → IsStack (frame ∷ outer) → Ends limits (at e (frame ∷ outer))
value_closed limits e frame outer t fits s =
    let fs = frame ∷ outer in
    ends_from limits (at e fs) (at CommaOrEnd (put Null fs)) (letters_of word.Null) (closers fs)
    (value_reads limits 0 Null (letters_of word.Null) (null 0 Null (letters_of word.Null) refl refl) e frame outer (closers fs) t (omega arith) (begins_closers fs s)) (finish limits fs Null s)

-- ---- a name that is no other

filler : ℕ → List ℕ
filler zero = []
filler (suc n) = 97 ∷ filler n

length_filler : (n : ℕ) → length (filler n) ≡ n
unfolding filler
length_filler zero = refl
length_filler (suc n) = let e = length_filler n in omega arith

total : List (List ℕ) → ℕ
total [] = 0
total (name ∷ names) = length name + total names

longer : (n m : List ℕ) → length n < length m → bytes_eq n m ≡ false
longer n m h = elim (tells (bytes_eq n m)) [
  | inl e ↦ let same : n ≡ m = same_text n m (sym e) in absurd (omega (arith, ap length same))
  | inr e ↦ e
]

no_such_name : (name : List ℕ) (names : List (List ℕ)) → total names < length name → has_name name names ≡ false
unfolding total
no_such_name name [] h = refl
no_such_name name (other ∷ names) h = rw (longer other name (omega arith)) (no_such_name name names (omega arith))

fresh_name : (limits : Limits) (got : List ℕ) (names : List (List ℕ)) → IsFresh limits (got ++ filler (suc (total names))) names
fresh_name limits got names = elim (tells limits.distinct) [
  | inl e ↦ rw (e, no_such_name (got ++ filler (suc (total names))) names (omega (arith, length-append got (filler (suc (total names))), length_filler (suc (total names))))) refl
  | inr e ↦ rw e refl
]

abbrev started : List ℕ → Option Read
started l = Some (Start, l)

filler_run : (n : ℕ) (got : List ℕ) → pieces_run Start got (filler n) ≡ Some (Start, got ++ filler n)
unfolding filler
filler_run zero got = ap (λ (l : List ℕ). started l) (sym (append-nil got))
filler_run (suc n) got = filler_run n (got ++ 97 ∷ []) ∙ ap (λ (l : List ℕ). started l) (append_assoc got (97 ∷ []) (filler n))

colon_closed : (limits : Limits) (frame : Frame) (outer : List Frame) → length outer ≤ limits.levels → IsStack (frame ∷ outer) → Ends limits (at Colon (frame ∷ outer))
colon_closed limits frame outer fits s =
    let v = value_closed limits Value frame outer (value_takes limits (frame ∷ outer)) fits s in
    (58 ∷ v.0, v.1, v.2, one_step limits (at Colon (frame ∷ outer)) (at Value (frame ∷ outer)) 58 v.0 refl ∙ v.3)

named_stack : (names more : List (List ℕ)) (values others : List Json) (outer : List Frame) → IsStack (OpenObject names values ∷ outer) → IsStack (OpenObject more others ∷ outer)
named_stack names more values others [] s = tt
named_stack names more values others (next ∷ outer) s = s

closing_quote : (limits : Limits) (got : List ℕ) (names : List (List ℕ)) (values : List Json) (outer : List Frame) → IsFresh limits got names
    → step limits (text_state role.Name Start got (OpenObject names values ∷ outer)) 34 ≡ Some (at Colon (OpenObject (names ++ got ∷ []) values ∷ outer))
closing_quote limits got names values outer h = rw h refl

name_closed : (limits : Limits) (piece : Piece) (got t : List ℕ) (names : List (List ℕ)) (values : List Json) (outer : List Frame) → PieceHolds piece got t → length outer ≤ limits.levels
    → IsStack (OpenObject names values ∷ outer) → Ends limits (text_state role.Name piece got (OpenObject names values ∷ outer))
name_closed limits piece got t names values outer p fits s =
    let fs = OpenObject names values ∷ outer in
    let l = piece_live piece got t p in
    let name = l.1 ++ filler (suc (total names)) in
    let c = colon_closed limits (OpenObject (names ++ name ∷ []) values) outer fits (named_stack names (names ++ name ∷ []) values values outer s) in
    let quote = closing_quote limits name names values outer (fresh_name limits l.1 names) in
    ends_more limits (text_state role.Name piece got fs) (text_state role.Name Start l.1 fs) l.0 (λ rest. text_run limits role.Name fs piece got l.0 rest (Start, l.1) l.2)
    (ends_more limits (text_state role.Name Start l.1 fs) (text_state role.Name Start name fs) (filler (suc (total names)))
    (λ rest. text_run limits role.Name fs Start l.1 (filler (suc (total names))) rest (Start, name) (filler_run (suc (total names)) l.1))
    (34 ∷ c.0, c.1, c.2, one_step limits (text_state role.Name Start name fs) (at Colon (OpenObject (names ++ name ∷ []) values ∷ outer)) 34 c.0 quote ∙ c.3))

value_text_closed : (limits : Limits) (piece : Piece) (got t : List ℕ) (frames : List Frame) → PieceHolds piece got t → IsStack frames → Ends limits (text_state role.Value piece got frames)
value_text_closed limits piece got t frames p s =
    let l = piece_live piece got t p in
    let c = finish limits frames (Str l.1) s in
    ends_more limits (text_state role.Value piece got frames) (text_state role.Value Start l.1 frames) l.0 (λ rest. text_run limits role.Value frames piece got l.0 rest (Start, l.1) l.2)
    (34 ∷ closers frames, c.0, c.1, one_step limits (text_state role.Value Start l.1 frames) (at CommaOrEnd (put (Str l.1) frames)) 34 (closers frames) refl ∙ c.2)

-- ---- numbers and words

number_live : (p : NumberPart) → (bs : List ℕ) × (q : NumberPart) × (number_run p bs ≡ Some q) × (is_whole_number q ≡ true)
number_live part.Minus = (48 ∷ [], part.Zero, refl, refl)
number_live part.Zero = ([], part.Zero, refl, refl)
number_live part.Whole = ([], part.Whole, refl, refl)
number_live part.Point = (48 ∷ [], part.Fraction, refl, refl)
number_live part.Fraction = ([], part.Fraction, refl, refl)
number_live part.Mark = (48 ∷ [], part.Exponent, refl, refl)
number_live part.Sign = (48 ∷ [], part.Exponent, refl, refl)
number_live part.Exponent = ([], part.Exponent, refl, refl)

number_closed : (limits : Limits) (p : NumberPart) (got : List ℕ) (frames : List Frame) → IsStack frames → Ends limits (number_state p got frames)
number_closed limits p got frames s =
    let l = number_live p in
    ends_from limits (number_state p got frames) (at CommaOrEnd (put (Num (got ++ l.0)) frames)) l.0 (closers frames)
    (number_lift limits frames p l.1 got l.0 (closers frames) l.2 ∙ number_end limits frames l.1 (got ++ l.0) (closers frames) l.3 (begins_closers frames s)) (finish limits frames (Num (got ++ l.0)) s)

same_number : (x : ℕ) → (x == x) ≡ true
same_number x = elim (eqb_tells x x) [ inl e ↦ e.0 | inr n ↦ absurd (n.1 refl) ]

last_letter : (limits : Limits) (w : Word) (place : ℕ) (frames : List Frame) → place + 1 ≡ length (letters_of w)
    → step limits (at (Letters w place) frames) (get_or (letters_of w) place 0) ≡ Some (after_value (value_of_word w) frames)
last_letter limits w place frames e = rw (same_number (get_or (letters_of w) place 0), e, same_number (length (letters_of w))) refl

next_letter : (limits : Limits) (w : Word) (place : ℕ) (frames : List Frame) → place + 1 < length (letters_of w)
    → step limits (at (Letters w place) frames) (get_or (letters_of w) place 0) ≡ Some (at (Letters w (place + 1)) frames)
next_letter limits w place frames h = rw (same_number (get_or (letters_of w) place 0), differs (place + 1) (length (letters_of w)) (λ e. omega arith)) refl

letters_closed : (limits : Limits) (w : Word) (k place : ℕ) (frames : List Frame) → k + place + 1 ≡ length (letters_of w) → Ends limits (after_value (value_of_word w) frames) → Ends limits (at (Letters w place) frames)
letters_closed limits w zero place frames e c =
    (get_or (letters_of w) place 0 ∷ c.0, c.1, c.2, one_step limits (at (Letters w place) frames) (after_value (value_of_word w) frames) (get_or (letters_of w) place 0) c.0 (last_letter limits w place frames (omega arith)) ∙ c.3)
letters_closed limits w (suc k) place frames e c =
    let d = letters_closed limits w k (place + 1) frames (omega arith) c in
    (get_or (letters_of w) place 0 ∷ d.0, d.1, d.2, one_step limits (at (Letters w place) frames) (at (Letters w (place + 1)) frames) (get_or (letters_of w) place 0) d.0 (next_letter limits w place frames (omega arith)) ∙ d.3)

-- ---- every state

value_stack : (limits : Limits) (frames : List Frame) (front : List ℕ) → ValuePlace limits frames front → IsStack frames
value_stack limits frames front p = let o = p.outside in subst IsStack (sym p.is) (stack limits p.frame p.outer o.0 o.2 o.6)

value_ends : (limits : Limits) (e : Expect) (frames : List Frame) (front : List ℕ) → ValuePlace limits frames front → ((fs : List Frame) → TakesValue limits e fs) → Ends limits (at e frames)
value_ends limits e frames front p t =
    let o = p.outside in
    subst (λ (fs : List Frame). Ends limits (at e fs)) (sym p.is) (value_closed limits e p.frame p.outer (t (p.frame ∷ p.outer)) o.5 (stack limits p.frame p.outer o.0 o.2 o.6))

name_ends : (limits : Limits) (piece : Piece) (got t : List ℕ) (frames : List Frame) (front : List ℕ) → NamePlace limits frames front → PieceHolds piece got t → Ends limits (text_state role.Name piece got frames)
name_ends limits piece got t frames front p h =
    subst (λ (fs : List Frame). Ends limits (text_state role.Name piece got fs)) (sym p.is) (name_closed limits piece got t p.names p.values p.outer h p.fits (stack limits (OpenObject p.names p.values) p.outer p.f p.outside tt))

no_members_end : (limits : Limits) (outer : List Frame) → IsStack (OpenObject [] [] ∷ outer) → Ends limits (at NameOrEnd (OpenObject [] [] ∷ outer))
no_members_end limits [] s = (125 ∷ [], [], [], refl)
no_members_end limits (next ∷ outer) s = let c = finish limits (next ∷ outer) (object_of [] []) s in (125 ∷ closers (next ∷ outer), c.0, c.1, c.2)

abbrev IsPlain : Expect → Type 0
IsPlain (Text kind piece) = ⊥
IsPlain (Number q) = ⊥
IsPlain _ = Unit {0}

ended_expect : (st : State) (names : List (List ℕ)) (values : List Json) → Some st ≡ Some (ended names values) → st.expect ≡ End
ended_expect st names values h = let e : st ≡ ended names values = cc in ap (λ (s : State). s.expect) e

-- between texts, numbers and words the bytes so far do not matter
regot : (limits : Limits) (e : Expect) (got : List ℕ) (frames : List Frame) (rest : List ℕ) (names : List (List ℕ)) (values : List Json) → e ≢ End → IsPlain e → run limits (at e frames) rest ≡ Some (ended names values)
    → run limits (record { expect = e; got = got; frames = frames }) rest ≡ Some (ended names values)
regot limits Object got frames [] names values n p h = absurd (n (ended_expect (at Object frames) names values h))
regot limits Object got frames (b ∷ bs) names values n p h = h
regot limits Value got frames [] names values n p h = absurd (n (ended_expect (at Value frames) names values h))
regot limits Value got frames (b ∷ bs) names values n p h = h
regot limits ValueOrEnd got frames [] names values n p h = absurd (n (ended_expect (at ValueOrEnd frames) names values h))
regot limits ValueOrEnd got frames (b ∷ bs) names values n p h = h
regot limits Name got frames [] names values n p h = absurd (n (ended_expect (at Name frames) names values h))
regot limits Name got frames (b ∷ bs) names values n p h = h
regot limits NameOrEnd got frames [] names values n p h = absurd (n (ended_expect (at NameOrEnd frames) names values h))
regot limits NameOrEnd got frames (b ∷ bs) names values n p h = h
regot limits Colon got frames [] names values n p h = absurd (n (ended_expect (at Colon frames) names values h))
regot limits Colon got frames (b ∷ bs) names values n p h = h
regot limits CommaOrEnd got frames [] names values n p h = absurd (n (ended_expect (at CommaOrEnd frames) names values h))
regot limits CommaOrEnd got frames (b ∷ bs) names values n p h = h
regot limits End got frames rest names values n p h = absurd (n refl)
regot limits (Text kind piece) got frames rest names values n p h = absurd p
regot limits (Number q) got frames rest names values n p h = absurd p
regot limits (Letters w place) got frames [] names values n p h = absurd (n (ended_expect (at (Letters w place) frames) names values h))
regot limits (Letters w place) got frames (b ∷ bs) names values n p h = h

with_got : (limits : Limits) (e : Expect) (got : List ℕ) (frames : List Frame) → e ≢ End → IsPlain e → Ends limits (at e frames) → Ends limits (record { expect = e; got = got; frames = frames })
with_got limits e got frames n p c = (c.0, c.1, c.2, regot limits e got frames c.0 c.1 c.2 n p c.3)

object_ends : (limits : Limits) → Ends limits start
object_ends limits = (123 ∷ 125 ∷ [], [], [], refl)

comma_ends : (limits : Limits) (frames : List Frame) (front : List ℕ) → CommaPlace limits frames front → Ends limits (at CommaOrEnd frames)
comma_ends limits frames front p =
    let c = whole_closed limits p.frame p.outer (stack limits p.frame p.outer p.f p.outside p.inner) in
    subst (λ (fs : List Frame). Ends limits (at CommaOrEnd fs)) (sym p.is) (closers (p.frame ∷ p.outer), c.0, c.1, c.2)

-- each state can be brought to its end
pub holds_ends : (limits : Limits) (e : Expect) (got : List ℕ) (frames : List Frame) (front : List ℕ) → 0 < limits.members → Holds limits e got frames front → Ends limits (record { expect = e; got = got; frames = frames })
holds_ends limits Object got frames front some p = with_got limits Object got frames (λ e. cc) tt (subst (λ (fs : List Frame). Ends limits (at Object fs)) (sym p.0) (object_ends limits))
holds_ends limits Value got frames front some p = with_got limits Value got frames (λ e. cc) tt (value_ends limits Value frames front p (value_takes limits))
holds_ends limits ValueOrEnd got frames front some p = with_got limits ValueOrEnd got frames (λ e. cc) tt (value_ends limits ValueOrEnd frames front (first_value limits frames front p) (value_or_end_takes limits))
holds_ends limits Name got frames front some p =
    let c = name_ends limits Start [] [] frames front p none in
    with_got limits Name got frames (λ e. cc) tt (34 ∷ c.0, c.1, c.2, one_step limits (at Name frames) (text_state role.Name Start [] frames) 34 c.0 refl ∙ c.3)
holds_ends limits NameOrEnd got frames front some p =
    with_got limits NameOrEnd got frames (λ e. cc) tt
    (subst (λ (fs : List Frame). Ends limits (at NameOrEnd fs)) (sym p.is) (no_members_end limits p.outer (stack limits (OpenObject [] []) p.outer p.f p.outside tt)))
holds_ends limits Colon got frames front some p =
    with_got limits Colon got frames (λ e. cc) tt
    (subst (λ (fs : List Frame). Ends limits (at Colon fs)) (sym p.is)
    (colon_closed limits (OpenObject (p.names ++ p.name ∷ []) p.values) p.outer p.fits (stack limits (OpenObject (p.names ++ p.name ∷ []) p.values) p.outer p.f p.outside tt)))
holds_ends limits CommaOrEnd got frames front some p = with_got limits CommaOrEnd got frames (λ e. cc) tt (comma_ends limits frames front p)
holds_ends limits End got frames front some p = ([], p.1.names, p.1.values, rw (p.0, p.1.is) refl)
holds_ends limits (Text role.Name piece) got frames front some p = name_ends limits piece got p.1 frames p.0 p.2 p.3
holds_ends limits (Text role.Value piece) got frames front some p = value_text_closed limits piece got p.1 frames p.3 (value_stack limits frames p.0 p.2)
holds_ends limits (Number q) got frames front some p = number_closed limits q got frames (value_stack limits frames p.0 p.1)
holds_ends limits (Letters w place) got frames front some p =
    let s = value_stack limits frames p.0 p.1 in
    let c = finish limits frames (value_of_word w) s in
    with_got limits (Letters w place) got frames (λ e. cc) tt (letters_closed limits w (length (letters_of w) - suc place) place frames (omega (arith, p.3)) (closers frames, c.0, c.1, c.2))
