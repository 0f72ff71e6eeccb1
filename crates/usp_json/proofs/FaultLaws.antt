-- Where the machine refuses a byte, no continuation is read; and which limit forbids it.
use Rattle.std.proofs.Common.{◌≡◌, ◌≢◌, ◌⊎◌, ℕ, ◌+◌, ◌-◌, ◌<◌, ◌≤◌, ◌==◌, ◌&&◌, ◌||◌, Bool, true, false, cond, ltb, List, [], ◌∷◌, ◌++◌, length, take, drop, get_or, reverse, Option, Some, None, inl, inr, refl, sym, ap, ap₂, ◌∙◌, subst, arith, le-leb, lt-ltb}
use Rattle.std.specs.Option.{option_and_then}
use Rattle.std.proofs.lemmas.Bool.Decides.{eqb_tells}
use Rattle.std.proofs.lemmas.Bool.{leb-true}
use borrow.Author.Tests.{ltb-true}
use Rattle.std.proofs.lemmas.List.{take_more, take_all, take-append-drop}
use Rattle.usp_json.specs.declared.value.Json.{Json}
use Rattle.usp_json.specs.declared.value.Json.TheVariants.{Num}
use Rattle.usp_json.specs.declared.value.Members.{Members}
use Rattle.usp_json.specs.declared.frame.Frame.{Frame}
use Rattle.usp_json.specs.declared.frame.Frame.TheVariants.{Array, Object as OpenObject}
use Rattle.usp_json.specs.declared.states.Expect.{Expect}
use Rattle.usp_json.specs.declared.states.Expect.TheVariants.{Object, Value, ValueOrEnd, Name, NameOrEnd, Colon, CommaOrEnd, End, Text, Number, Letters}
use Rattle.usp_json.specs.declared.states.NumberPart.{NumberPart}
use Rattle.usp_json.specs.declared.states.NumberPart.TheVariants as part
use Rattle.usp_json.specs.declared.states.Piece.{Piece}
use Rattle.usp_json.specs.declared.states.Piece.TheVariants.{Start, Last, LastButOne, LastButTwo, Letter, First, Second, Third, Fourth, Backslash, U}
use Rattle.usp_json.specs.declared.states.Role.TheVariants as role
use Rattle.usp_json.specs.declared.fault.JsonFault.TheVariants.{Syntax}
use Rattle.usp_json.specs.Entries.{members_of}
use Rattle.usp_json.specs.Grammar.{is_space}
use Rattle.usp_json.specs.Number.{number_first, number_step, is_whole_number}
use Rattle.std.specs.Str.{IsUtf8}
use Rattle.usp_json.specs.Spells.{Limits, number, has_name, given, with_a_level_more, with_a_member_more, with_equal_names, IsReadingWithin, IsReading, IsViableWithin}
use Rattle.usp_json.specs.Machine.{State, at, put, opens, value_from, value_step, other_value, comma, comma_step, text_end, number_from, is_closing, step_at, step, run, start, ended, state_of, Fits, IsSound, is_deep_at, is_many_at, is_duplicate_at, fault_of}
use Rattle.usp_json.specs.Faults.{StopsAt, GoesOnWithin, IsTooDeep, IsTooMany, IsDuplicate, RefusesJson}
use Rattle.usp_json.proofs.Numbers.{tells, then_case, front_ends, is_number_complete}
use Rattle.usp_json.proofs.PieceLaws.{PieceHolds, chars_utf8, hex_below, UnitFront}
use Rattle.usp_json.proofs.ReadLaws.{reading_runs, one_step}
use Rattle.usp_json.proofs.HoldLaws.{FrameWhole, first_value, Holds, ValuePlace, CommaPlace, NamePlace, place_holds, front_holds, run_reads}
use Rattle.usp_json.proofs.LiveLaws.{holds_ends}

-- ---- runs in two parts

run_append : (limits : Limits) (xs ys : List ℕ) (st s : State) → run limits st xs ≡ Some s → run limits st (xs ++ ys) ≡ run limits s ys
run_append limits [] ys st s h = let e : st ≡ s = cc in ap (λ (u : State). run limits u ys) e
run_append limits (x ∷ xs) ys st s h = let c = then_case (λ (u : State). run limits u xs) (step limits st x) s h in rw c.1 (run_append limits xs ys c.0 s c.2)

run_front : (limits : Limits) (xs ys : List ℕ) (st t : State) → run limits st (xs ++ ys) ≡ Some t → (s : State) × (run limits st xs ≡ Some s)
run_front limits [] ys st t h = (st, refl)
run_front limits (x ∷ xs) ys st t h =
    let c = then_case (λ (u : State). run limits u (xs ++ ys)) (step limits st x) t h in
    let r = run_front limits xs ys c.0 t c.2 in
    (r.0, one_step limits st c.0 x xs c.1 ∙ r.1)

and_some : (o : Option State) → option_and_then (λ (t : State). Some t) o ≡ o
and_some None = refl
and_some (Some t) = refl

-- the run up to the next byte
pub run_next : (limits : Limits) (text : List ℕ) (i : ℕ) (s : State) (o : Option State) → i < length text → run limits start (take i text) ≡ Some s → step limits s (get_or text i 0) ≡ o
    → run limits start (take (i + 1) text) ≡ o
run_next limits text i s o lt h e =
    ap (run limits start) (take_more text i 0 lt) ∙ (run_append limits (take i text) (get_or text i 0 ∷ []) start s h ∙ (ap (option_and_then (λ (t : State). Some t)) e ∙ and_some o))

-- ---- what runs can be continued, and what does not cannot

pub runs_viable : (limits : Limits) (front : List ℕ) (s : State) → 0 < limits.members → run limits start front ≡ Some s → IsViableWithin limits front
runs_viable limits front s some h =
    let e = holds_ends limits s.expect s.got s.frames front some (front_holds limits front s some h) in
    (e.0, members_of e.1 e.2, run_reads limits (front ++ e.0) e.1 e.2 some (run_append limits front e.0 start s h ∙ e.3))

pub viable_runs : (limits : Limits) (front : List ℕ) → IsViableWithin limits front → (s : State) × (run limits start front ≡ Some s)
viable_runs limits front v = run_front limits front v.0 start (ended v.2.names v.2.values) (reading_runs limits (front ++ v.0) v.1 v.2)

pub not_viable : (limits : Limits) (front : List ℕ) → run limits start front ≡ None → ¬ (IsViableWithin limits front)
not_viable limits front h v = let r = viable_runs limits front v in let e : None ≡ Some r.0 = sym h ∙ r.1 in cc e

-- two readings are one
pub reads_once : (limits : Limits) (text : List ℕ) (m k : Members) → IsReadingWithin limits text m → IsReadingWithin limits text k → m ≡ k
reads_once limits text m k r s =
    let e : Some (ended r.names r.values) ≡ Some (ended s.names s.values) = sym (reading_runs limits text m r) ∙ reading_runs limits text k s in
    let f : ended r.names r.values ≡ ended s.names s.values = cc in
    let g : OpenObject r.names r.values ∷ [] ≡ OpenObject s.names s.values ∷ [] = ap (λ (u : State). u.frames) f in
    let names : r.names ≡ s.names = cc g in
    let values : r.values ≡ s.values = cc g in
    r.is ∙ (ap₂ members_of names values ∙ sym s.is)

-- ---- wider limits

pub record Within (limits wider : Limits) : Type 0 where
  pub levels : limits.levels ≤ wider.levels
  pub members : limits.members ≤ wider.members
  pub fresh : (x : Bool) → (limits.distinct && x) ≡ false → (wider.distinct && x) ≡ false

either : (c : Bool) (x x' y y' : Option State) (t : State) → (x ≡ Some t → x' ≡ Some t) → (y ≡ Some t → y' ≡ Some t) → cond c x y ≡ Some t → cond c x' y' ≡ Some t
either true x x' y y' t f g h = f h
either false x x' y y' t f g h = g h

opens_more : (limits wider : Limits) (frames : List Frame) (next t : State) → Within limits wider → cond (opens limits frames) (Some next) None ≡ Some t → cond (opens wider frames) (Some next) None ≡ Some t
opens_more limits wider frames next t w h = elim (tells (opens limits frames)) [
  | inl e ↦
      let k = rw e at h in
      let l = w.levels in
      rw (le-leb (length frames) wider.levels (omega (arith, leb-true (length frames) limits.levels e))) k
  | inr e ↦ let k = rw e at h in cc k
]

other_more : (limits wider : Limits) (frames : List Frame) (b : ℕ) (t : State) → Within limits wider → other_value limits frames b ≡ Some t → other_value wider frames b ≡ Some t
other_more limits wider frames b t w h =
    either (b == 34) _ _ _ _ t (λ k. k) (λ k. either (b == 91) _ _ _ _ t (opens_more limits wider frames _ t w) (λ l. either (b == 123) _ _ _ _ t (opens_more limits wider frames _ t w) (λ m. m) l) k) h

from_more : (limits wider : Limits) (frames : List Frame) (b : ℕ) (t : State) (o : Option NumberPart) → Within limits wider → value_from limits frames b o ≡ Some t → value_from wider frames b o ≡ Some t
from_more limits wider frames b t None w h = other_more limits wider frames b t w h
from_more limits wider frames b t (Some p) w h = h

value_more : (limits wider : Limits) (frames : List Frame) (b : ℕ) (t : State) → Within limits wider → value_step limits frames b ≡ Some t → value_step wider frames b ≡ Some t
value_more limits wider frames b t w h = from_more limits wider frames b t (number_first b) w h

few_more : (limits wider : Limits) (n : ℕ) (next t : State) → Within limits wider → cond (ltb n limits.members) (Some next) None ≡ Some t → cond (ltb n wider.members) (Some next) None ≡ Some t
few_more limits wider n next t w h = elim (tells (ltb n limits.members)) [
  | inl e ↦
      let k = rw e at h in
      let l = w.members in
      rw (lt-ltb n wider.members (omega (arith, ltb-true n limits.members e))) k
  | inr e ↦ let k = rw e at h in cc k
]

comma_more : (limits wider : Limits) (frames : List Frame) (t : State) → Within limits wider → comma limits frames ≡ Some t → comma wider frames ≡ Some t
comma_more limits wider [] t w h = h
comma_more limits wider (Array values ∷ outer) t w h = h
comma_more limits wider (OpenObject names values ∷ outer) t w h = few_more limits wider (length names) _ t w h

comma_step_more : (limits wider : Limits) (frames : List Frame) (b : ℕ) (t : State) → Within limits wider → comma_step limits frames b ≡ Some t → comma_step wider frames b ≡ Some t
comma_step_more limits wider frames b t w h = either (is_space b) _ _ _ _ t (λ k. k) (λ k. either (b == 44) _ _ _ _ t (comma_more limits wider frames t w) (λ l. l) k) h

fresh_more : (limits wider : Limits) (x : Bool) (next t : State) → Within limits wider → cond (limits.distinct && x) None (Some next) ≡ Some t → cond (wider.distinct && x) None (Some next) ≡ Some t
fresh_more limits wider x next t w h = elim (tells (limits.distinct && x)) [
  | inl e ↦ let k = rw e at h in cc k
  | inr e ↦ let k = rw e at h in rw (w.fresh x e) k
]

name_end_more : (limits wider : Limits) (got : List ℕ) (frames : List Frame) (t : State) → Within limits wider → text_end limits role.Name got frames ≡ Some t → text_end wider role.Name got frames ≡ Some t
name_end_more limits wider got [] t w h = h
name_end_more limits wider got (Array values ∷ outer) t w h = h
name_end_more limits wider got (OpenObject names values ∷ outer) t w h = fresh_more limits wider (has_name got names) _ t w h

number_more : (limits wider : Limits) (p : NumberPart) (got : List ℕ) (frames : List Frame) (b : ℕ) (t : State) (o : Option NumberPart) → Within limits wider → number_from limits p got frames b o ≡ Some t
    → number_from wider p got frames b o ≡ Some t
number_more limits wider p got frames b t (Some q) w h = h
number_more limits wider p got frames b t None w h = either (is_whole_number p) _ _ _ _ t (comma_step_more limits wider (put (Num got) frames) b t w) (λ k. k) h

step_more : (limits wider : Limits) (e : Expect) (got : List ℕ) (frames : List Frame) (b : ℕ) (t : State) → Within limits wider → step_at limits e got frames b ≡ Some t → step_at wider e got frames b ≡ Some t
step_more limits wider Object got frames b t w h = h
step_more limits wider Value got frames b t w h = either (is_space b) _ _ _ _ t (λ k. k) (value_more limits wider frames b t w) h
step_more limits wider ValueOrEnd got frames b t w h = either (is_space b) _ _ _ _ t (λ k. k) (λ k. either (b == 93) _ _ _ _ t (λ l. l) (value_more limits wider frames b t w) k) h
step_more limits wider Name got frames b t w h = h
step_more limits wider NameOrEnd got frames b t w h = h
step_more limits wider Colon got frames b t w h = h
step_more limits wider CommaOrEnd got frames b t w h = comma_step_more limits wider frames b t w h
step_more limits wider End got frames b t w h = h
step_more limits wider (Text role.Name piece) got frames b t w h = either (is_closing piece b) _ _ _ _ t (name_end_more limits wider got frames t w) (λ k. k) h
step_more limits wider (Text role.Value piece) got frames b t w h = h
step_more limits wider (Number p) got frames b t w h = number_more limits wider p got frames b t (number_step p b) w h
step_more limits wider (Letters u place) got frames b t w h = h

run_more : (limits wider : Limits) (xs : List ℕ) (st s : State) → Within limits wider → run limits st xs ≡ Some s → run wider st xs ≡ Some s
run_more limits wider [] st s w h = h
run_more limits wider (x ∷ xs) st s w h =
    let c = then_case (λ (u : State). run limits u xs) (step limits st x) s h in
    one_step wider st c.0 x xs (step_more limits wider st.expect st.got st.frames x c.0 w c.1) ∙ run_more limits wider xs c.0 s w c.2

level_wider : Within given with_a_level_more
level_wider = record { levels = omega arith; members = omega arith; fresh = λ x h. h }

member_wider : Within given with_a_member_more
member_wider = record { levels = omega arith; members = omega arith; fresh = λ x h. h }

names_wider : Within given with_equal_names
names_wider = record { levels = omega arith; members = omega arith; fresh = λ x h. refl }

comma_frame : (frame : Frame) (outer : List Frame) (n : ℕ) (g : List ℕ) → FrameWhole given n frame g → (t : State) × (comma_step with_a_member_more (frame ∷ outer) 44 ≡ Some t)
comma_frame (Array values) outer n g r = (at Value (Array values ∷ outer), refl)
comma_frame (OpenObject names values) outer n g r =
    let more : ltb (length names) with_a_member_more.members ≡ true = lt-ltb (length names) with_a_member_more.members (omega (arith, r.2)) in
    (at Name (OpenObject names values ∷ outer), rw more refl)

both : (x y : Bool) → (x && y) ≡ true → (x ≡ true) × (y ≡ true)
both true true h = (refl, refl)
both true false h = cc
both false y h = cc

is_comma : (b : ℕ) → (b == 44) ≡ true → b ≡ 44
is_comma b h = elim (eqb_tells b 44) [ inl i ↦ i.1 | inr n ↦ let k = rw n.0 at h in cc k ]

no_number : (q : NumberPart) → number_step q 44 ≡ None
no_number part.Minus = refl
no_number part.Zero = refl
no_number part.Whole = refl
no_number part.Point = refl
no_number part.Fraction = refl
no_number part.Mark = refl
no_number part.Sign = refl
no_number part.Exponent = refl

same_comma : (frames : List Frame) → comma with_a_level_more frames ≡ comma given frames
same_comma [] = refl
same_comma (Array values ∷ outer) = refl
same_comma (OpenObject names values ∷ outer) = refl

same_comma_step : (frames : List Frame) (b : ℕ) → comma_step with_a_level_more frames b ≡ comma_step given frames b
same_comma_step frames b = rw (same_comma frames) refl

same_name_end : (got : List ℕ) (frames : List Frame) → text_end with_a_level_more role.Name got frames ≡ text_end given role.Name got frames
same_name_end got [] = refl
same_name_end got (Array values ∷ outer) = refl
same_name_end got (OpenObject names values ∷ outer) = refl

same_name_step : (piece : Piece) (got : List ℕ) (frames : List Frame) (b : ℕ) → step_at with_a_level_more (Text role.Name piece) got frames b ≡ step_at given (Text role.Name piece) got frames b
same_name_step piece got frames b = rw (same_name_end got frames) refl

same_member_end : (got : List ℕ) (frames : List Frame) → text_end with_a_member_more role.Name got frames ≡ text_end given role.Name got frames
same_member_end got [] = refl
same_member_end got (Array values ∷ outer) = refl
same_member_end got (OpenObject names values ∷ outer) = refl

same_name_member : (piece : Piece) (got : List ℕ) (frames : List Frame) (b : ℕ) → step_at with_a_member_more (Text role.Name piece) got frames b ≡ step_at given (Text role.Name piece) got frames b
same_name_member piece got frames b = rw (same_member_end got frames) refl

same_number_step : (q : NumberPart) (got : List ℕ) (frames : List Frame) (b : ℕ) (o : Option NumberPart) → number_from with_a_level_more q got frames b o ≡ number_from given q got frames b o
same_number_step q got frames b (Some p) = refl
same_number_step q got frames b None = rw (same_comma (put (Num got) frames)) refl

same_equal_number : (q : NumberPart) (got : List ℕ) (frames : List Frame) (o : Option NumberPart) → number_from with_equal_names q got frames 34 o ≡ number_from given q got frames 34 o
same_equal_number q got frames (Some p) = refl
same_equal_number q got frames None = refl

high_fits : (high : ℕ) (got t : List ℕ) → UnitFront high got t → high < 56320
high_fits high got t u = elim u.is_high [ inl e ↦ omega (arith, e.0) | inr e ↦ e.1 ]

same_expect : (e : Expect) (got : List ℕ) (fs : List Frame) (names : List (List ℕ)) (values : List Json) → Some (state_of e got fs) ≡ Some (ended names values) → e ≡ End
same_expect e got fs names values h = let k : state_of e got fs ≡ ended names values = cc in ap (λ (s : State). s.expect) k

-- ---- which limit forbids a byte

value_fits : (limits : Limits) (frames : List Frame) (front : List ℕ) → ValuePlace limits frames front → length frames ≤ limits.levels + 1
value_fits limits frames front p = let o = p.outside in rw p.is (omega (arith, o.5))

bracket_cases : (b : ℕ) → (b == 91 || b == 123) ≡ true → (b ≡ 91) ⊎ (b ≡ 123)
bracket_cases b h = elim (eqb_tells b 91) [
  | inl i ↦ inl i.1
  | inr n ↦ elim (eqb_tells b 123) [ inl i ↦ inr i.1 | inr m ↦ let k = rw (n.0, m.0) at h in cc k ]
]

opens_deeper : (frames : List Frame) (front : List ℕ) → ValuePlace given frames front → opens with_a_level_more frames ≡ true
opens_deeper frames front p = le-leb (length frames) with_a_level_more.levels (omega (arith, value_fits given frames front p))

value_deeper : (frames : List Frame) (b : ℕ) (front : List ℕ) → ValuePlace given frames front → (b ≡ 91) ⊎ (b ≡ 123) → (t : State) × (value_step with_a_level_more frames b ≡ Some t)
value_deeper frames b front p h =
    let o = opens_deeper frames front p in
    elim h [
      | inl i ↦ (at ValueOrEnd (Array [] ∷ frames), rw (i, o) refl)
      | inr i ↦ (at NameOrEnd (OpenObject [] [] ∷ frames), rw (i, o) refl)
    ]

no_space : (b : ℕ) → (b ≡ 91) ⊎ (b ≡ 123) → (is_space b ≡ false) × ((b == 93) ≡ false)
no_space b h = elim h [ inl i ↦ (rw i refl, rw i refl) | inr i ↦ (rw i refl, rw i refl) ]

deep_steps : (e : Expect) (got : List ℕ) (frames : List Frame) (front : List ℕ) (b : ℕ) → Holds given e got frames front → is_deep_at e b ≡ true
    → ((b ≡ 91) ⊎ (b ≡ 123)) × (t : State) × (step_at with_a_level_more e got frames b ≡ Some t)
deep_steps Value got frames front b p h =
    let k = bracket_cases b h in
    let n = no_space b k in
    let v = value_deeper frames b front p k in
    (k, v.0, rw n.0 v.1)
deep_steps ValueOrEnd got frames front b p h =
    let k = bracket_cases b h in
    let n = no_space b k in
    let v = value_deeper frames b front (first_value given frames front p) k in
    (k, v.0, rw (n.0, n.1) v.1)
deep_steps Object got frames front b p h = cc
deep_steps Name got frames front b p h = cc
deep_steps NameOrEnd got frames front b p h = cc
deep_steps Colon got frames front b p h = cc
deep_steps CommaOrEnd got frames front b p h = cc
deep_steps End got frames front b p h = cc
deep_steps (Text kind piece) got frames front b p h = cc
deep_steps (Number q) got frames front b p h = cc
deep_steps (Letters w place) got frames front b p h = cc

-- one more member goes on
comma_wider : (frames : List Frame) (front : List ℕ) → CommaPlace given frames front → (t : State) × (comma_step with_a_member_more frames 44 ≡ Some t)
comma_wider frames front p = subst (λ (fs : List Frame). (t : State) × (comma_step with_a_member_more fs 44 ≡ Some t)) (sym p.is) (comma_frame p.frame p.outer (given.levels - length p.outer) p.g p.read)

number_many : (q : NumberPart) (got : List ℕ) (frames : List Frame) (b : ℕ) → b ≡ 44 → is_whole_number q ≡ true → (t : State) × (comma_step with_a_member_more (put (Num got) frames) 44 ≡ Some t)
    → (t : State) × (step_at with_a_member_more (Number q) got frames b ≡ Some t)
number_many q got frames b i w c = (c.0, rw (i, no_number q, w) c.1)

many_steps : (e : Expect) (got : List ℕ) (frames : List Frame) (front : List ℕ) (b : ℕ) → Holds given e got frames front → is_many_at e b ≡ true → (b ≡ 44) × (t : State) × (step_at with_a_member_more e got frames b ≡ Some t)
many_steps CommaOrEnd got frames front b p h = elim (eqb_tells b 44) [
  | inl i ↦ let c = comma_wider frames front p in (i.1, c.0, rw i.1 c.1)
  | inr n ↦ let k = rw n.0 at h in cc k
]
many_steps (Number q) got frames front b p h =
    let w = both (is_whole_number q) (b == 44) h in
    let v = p.1 in
    let c = comma_wider (put (Num got) frames) (p.0 ++ got) (place_holds given frames p.0 (Num got) got v (number (given.levels - length v.outer) (Num got) got refl (front_ends q got w.0 p.2))) in
    let i = is_comma b w.1 in
    let m = number_many q got frames b i w.0 c in
    (i, m.0, m.1)
many_steps Object got frames front b p h = cc
many_steps Value got frames front b p h = cc
many_steps ValueOrEnd got frames front b p h = cc
many_steps Name got frames front b p h = cc
many_steps NameOrEnd got frames front b p h = cc
many_steps Colon got frames front b p h = cc
many_steps End got frames front b p h = cc
many_steps (Text kind piece) got frames front b p h = cc
many_steps (Letters w place) got frames front b p h = cc

quote_is : (b : ℕ) → (b == 34) ≡ true → b ≡ 34
quote_is b h = elim (eqb_tells b 34) [ inl i ↦ i.1 | inr n ↦ let k = rw n.0 at h in cc k ]

-- an equal name goes on
name_wider : (got : List ℕ) (frames : List Frame) (front : List ℕ) → NamePlace given frames front → (t : State) × (text_end with_equal_names role.Name got frames ≡ Some t)
name_wider got frames front p =
    subst (λ (fs : List Frame). (t : State) × (text_end with_equal_names role.Name got fs ≡ Some t)) (sym p.is) (at Colon (OpenObject (p.names ++ got ∷ []) p.values ∷ p.outer), refl)

start_duplicates : (got : List ℕ) (frames : List Frame) (front : List ℕ) (b : ℕ) → NamePlace given frames front → (b == 34) ≡ true → (b ≡ 34) × (t : State) × (step_at with_equal_names (Text role.Name Start) got frames b ≡ Some t)
start_duplicates got frames front b p h = let n = name_wider got frames front p in (quote_is b h, n.0, rw h n.1)

duplicate_steps : (e : Expect) (got : List ℕ) (frames : List Frame) (front : List ℕ) (b : ℕ) → Holds given e got frames front → is_duplicate_at e b ≡ true → (b ≡ 34) × (t : State) × (step_at with_equal_names e got frames b ≡ Some t)
duplicate_steps (Text role.Name Start) got frames front b p h = start_duplicates got frames p.0 b p.2 h
duplicate_steps (Text role.Name Last) got frames front b p h = cc
duplicate_steps (Text role.Name (LastButOne least most)) got frames front b p h = cc
duplicate_steps (Text role.Name (LastButTwo least most)) got frames front b p h = cc
duplicate_steps (Text role.Name Letter) got frames front b p h = cc
duplicate_steps (Text role.Name (First high)) got frames front b p h = cc
duplicate_steps (Text role.Name (Second high value)) got frames front b p h = cc
duplicate_steps (Text role.Name (Third high value)) got frames front b p h = cc
duplicate_steps (Text role.Name (Fourth high value)) got frames front b p h = cc
duplicate_steps (Text role.Name (Backslash high)) got frames front b p h = cc
duplicate_steps (Text role.Name (U high)) got frames front b p h = cc
duplicate_steps (Text role.Value piece) got frames front b p h = cc
duplicate_steps Object got frames front b p h = cc
duplicate_steps Value got frames front b p h = cc
duplicate_steps ValueOrEnd got frames front b p h = cc
duplicate_steps Name got frames front b p h = cc
duplicate_steps NameOrEnd got frames front b p h = cc
duplicate_steps Colon got frames front b p h = cc
duplicate_steps CommaOrEnd got frames front b p h = cc
duplicate_steps End got frames front b p h = cc
duplicate_steps (Number q) got frames front b p h = cc
duplicate_steps (Letters w place) got frames front b p h = cc

-- ---- the other bytes do not depend on the limits

same_deep : (e : Expect) (got : List ℕ) (frames : List Frame) (b : ℕ) → is_deep_at e b ≡ false → (b ≡ 91) ⊎ (b ≡ 123) → step_at with_a_level_more e got frames b ≡ step_at given e got frames b
same_deep Value got frames b h k = elim k [ inl i ↦ let r = rw i at h in cc r | inr i ↦ let r = rw i at h in cc r ]
same_deep ValueOrEnd got frames b h k = elim k [ inl i ↦ let r = rw i at h in cc r | inr i ↦ let r = rw i at h in cc r ]
same_deep Object got frames b h k = refl
same_deep Name got frames b h k = refl
same_deep NameOrEnd got frames b h k = refl
same_deep Colon got frames b h k = refl
same_deep CommaOrEnd got frames b h k = same_comma_step frames b
same_deep End got frames b h k = refl
same_deep (Text role.Name piece) got frames b h k = same_name_step piece got frames b
same_deep (Text role.Value piece) got frames b h k = refl
same_deep (Number q) got frames b h k = same_number_step q got frames b (number_step q b)
same_deep (Letters w place) got frames b h k = refl

same_many : (e : Expect) (got : List ℕ) (frames : List Frame) → is_many_at e 44 ≡ false → step_at with_a_member_more e got frames 44 ≡ step_at given e got frames 44
same_many Value got frames h = refl
same_many ValueOrEnd got frames h = refl
same_many Object got frames h = refl
same_many Name got frames h = refl
same_many NameOrEnd got frames h = refl
same_many Colon got frames h = refl
same_many CommaOrEnd got frames h = cc
same_many End got frames h = refl
same_many (Text role.Name piece) got frames h = same_name_member piece got frames 44
same_many (Text role.Value piece) got frames h = refl
same_many (Number part.Minus) got frames h = refl
same_many (Number part.Zero) got frames h = cc
same_many (Number part.Whole) got frames h = cc
same_many (Number part.Point) got frames h = refl
same_many (Number part.Fraction) got frames h = cc
same_many (Number part.Mark) got frames h = refl
same_many (Number part.Sign) got frames h = refl
same_many (Number part.Exponent) got frames h = cc
same_many (Letters w place) got frames h = refl

same_equal : (e : Expect) (got : List ℕ) (frames : List Frame) → is_duplicate_at e 34 ≡ false → step_at with_equal_names e got frames 34 ≡ step_at given e got frames 34
same_equal (Text role.Name Start) got frames h = cc
same_equal (Text role.Name Last) got frames h = refl
same_equal (Text role.Name (LastButOne least most)) got frames h = refl
same_equal (Text role.Name (LastButTwo least most)) got frames h = refl
same_equal (Text role.Name Letter) got frames h = refl
same_equal (Text role.Name (First high)) got frames h = refl
same_equal (Text role.Name (Second high value)) got frames h = refl
same_equal (Text role.Name (Third high value)) got frames h = refl
same_equal (Text role.Name (Fourth high value)) got frames h = refl
same_equal (Text role.Name (Backslash high)) got frames h = refl
same_equal (Text role.Name (U high)) got frames h = refl
same_equal (Text role.Value piece) got frames h = refl
same_equal Object got frames h = refl
same_equal Value got frames h = refl
same_equal ValueOrEnd got frames h = refl
same_equal Name got frames h = refl
same_equal NameOrEnd got frames h = refl
same_equal Colon got frames h = refl
same_equal CommaOrEnd got frames h = refl
same_equal End got frames h = refl
same_equal (Number q) got frames h = same_equal_number q got frames (number_step q 34)
same_equal (Letters w place) got frames h = refl

-- ---- the whole fault

-- the text has a longer front than that
reading_goes_on : (limits : Limits) (text : List ℕ) (i : ℕ) (m : Members) → IsReadingWithin limits text m → IsViableWithin limits (take i text)
reading_goes_on limits text i m r = (drop i text, m, subst (λ (l : List ℕ). IsReadingWithin limits l m) (sym (take-append-drop i text)) r)

stops_there : (text : List ℕ) (i : ℕ) (s : State) → i < length text → run given start (take i text) ≡ Some s → step given s (get_or text i 0) ≡ None → StopsAt text i
stops_there text i s lt h e =
    let n = not_viable given (take (i + 1) text) (run_next given text i s None lt h e) in
    record { no_reading = λ m r. n (reading_goes_on given text (i + 1) m r); within = omega arith; front = runs_viable given (take i text) s (omega arith) h; stops = λ _. n }

goes_on : (wider : Limits) (text : List ℕ) (i : ℕ) (s t : State) → Within given wider → 0 < wider.members → i < length text → run given start (take i text) ≡ Some s → step wider s (get_or text i 0) ≡ Some t
    → GoesOnWithin wider text i
goes_on wider text i s t w some lt h e =
    (lt, runs_viable wider (take (i + 1) text) t some (run_next wider text i s (Some t) lt (run_more given wider (take i text) start s w h) e))

goes_no_further : (wider : Limits) (text : List ℕ) (i : ℕ) (s : State) → Within given wider → i < length text → run given start (take i text) ≡ Some s → step wider s (get_or text i 0) ≡ None → ¬ (GoesOnWithin wider text i)
goes_no_further wider text i s w lt h e g = not_viable wider (take (i + 1) text) (run_next wider text i s None lt (run_more given wider (take i text) start s w h) e) g.1

no_deep : (text : List ℕ) (i : ℕ) (e : Expect) (got : List ℕ) (frames : List Frame) → i < length text → run given start (take i text) ≡ Some (record { expect = e; got = got; frames = frames })
    → step_at given e got frames (get_or text i 0) ≡ None → is_deep_at e (get_or text i 0) ≡ false → ¬ (IsTooDeep text i)
no_deep text i e got frames lt h n d g =
    goes_no_further with_a_level_more text i (record { expect = e; got = got; frames = frames }) level_wider lt h (same_deep e got frames (get_or text i 0) d g.0 ∙ n) g.1

no_many : (text : List ℕ) (i : ℕ) (e : Expect) (got : List ℕ) (frames : List Frame) → i < length text → run given start (take i text) ≡ Some (record { expect = e; got = got; frames = frames })
    → step_at given e got frames (get_or text i 0) ≡ None → is_many_at e (get_or text i 0) ≡ false → ¬ (IsTooMany text i)
no_many text i e got frames lt h n d g =
    let d44 = rw g.0 at d in
    let n44 = rw g.0 at n in
    goes_no_further with_a_member_more text i (record { expect = e; got = got; frames = frames }) member_wider lt h (rw g.0 (same_many e got frames d44 ∙ n44)) g.1

no_duplicate : (text : List ℕ) (i : ℕ) (e : Expect) (got : List ℕ) (frames : List Frame) → i < length text → run given start (take i text) ≡ Some (record { expect = e; got = got; frames = frames })
    → step_at given e got frames (get_or text i 0) ≡ None → is_duplicate_at e (get_or text i 0) ≡ false → ¬ (IsDuplicate text i)
no_duplicate text i e got frames lt h n d g =
    let d34 = rw g.0 at d in
    let n34 = rw g.0 at n in
    goes_no_further with_equal_names text i (record { expect = e; got = got; frames = frames }) names_wider lt h (rw g.0 (same_equal e got frames d34 ∙ n34)) g.1

-- a byte that the machine refuses
pub refused : (text : List ℕ) (i : ℕ) (e : Expect) (got : List ℕ) (fs : List Frame) → i < length text → run given start (take i text) ≡ Some (state_of e got fs)
    → step_at given e got (reverse fs) (get_or text i 0) ≡ None → RefusesJson (fault_of e (get_or text i 0) i) text
refused text i e got fs lt h n =
    let b = get_or text i 0 in
    let s = state_of e got fs in
    let p = front_holds given (take i text) s (omega arith) h in
    let stops = stops_there text i s lt h n in
    elim (tells (is_deep_at e b)) [
      | inl d ↦ let k = deep_steps e got (reverse fs) (take i text) b p d in rw d (stops, (k.0, goes_on with_a_level_more text i s k.1 level_wider (omega arith) lt h k.2))
      | inr nd ↦ elim (tells (is_many_at e b)) [
        | inl d ↦ let k = many_steps e got (reverse fs) (take i text) b p d in rw (nd, d) (stops, (k.0, goes_on with_a_member_more text i s k.1 member_wider (omega arith) lt h k.2))
        | inr nm ↦ elim (tells (is_duplicate_at e b)) [
          | inl d ↦ let k = duplicate_steps e got (reverse fs) (take i text) b p d in rw (nd, nm, d) (stops, (k.0, goes_on with_equal_names text i s k.1 names_wider (omega arith) lt h k.2))
          | inr nu ↦ rw (nd, nm, nu) (stops, (no_deep text i e got (reverse fs) lt h n nd, no_many text i e got (reverse fs) lt h n nm, no_duplicate text i e got (reverse fs) lt h n nu))
        ]
      ]
    ]

-- the text ends too soon
pub cut_short : (text : List ℕ) (i : ℕ) (e : Expect) (got : List ℕ) (fs : List Frame) → length text ≤ i → e ≢ End → run given start (take i text) ≡ Some (state_of e got fs) → RefusesJson (Syntax (length text)) text
cut_short text i e got fs le n h =
    let all : take i text ≡ text = take_all i text le in
    let run_all = rw all at h in
    let none = λ (m : Members) (r : IsReading text m). n (same_expect e got fs r.names r.values (sym run_all ∙ reading_runs given text m r)) in (
      record { no_reading = none; within = omega arith; front = rw (take_all (length text) text (omega arith)) (runs_viable given text (state_of e got fs) (omega arith) run_all); stops = λ lt. absurd (omega arith) },
      (
        (λ g. let lt = g.1.0 in absurd (omega arith)),
        (λ g. let lt = g.1.0 in absurd (omega arith)),
        (λ g. let lt = g.1.0 in absurd (omega arith)),
      ),
    )

-- the bytes so far are what the code takes them for
fits_piece : (p : Piece) (got t : List ℕ) → PieceHolds p got t → Fits p
fits_piece Start got t p = tt
fits_piece Last got t p = tt
fits_piece (LastButOne least most) got t p = tt
fits_piece (LastButTwo least most) got t p = tt
fits_piece Letter got t p = tt
fits_piece (First high) got t p = high_fits high got p.0 p.1
fits_piece (Second high value) got t p = (high_fits high got p.0 p.2, hex_below p.1 value p.3)
fits_piece (Third high value) got t p = let w = hex_below p.1 p.3 p.6 in let x = hex_below p.2 p.4 p.7 in (high_fits high got p.0 p.5, omega (arith, p.8))
fits_piece (Fourth high value) got t p = let w = hex_below p.1 p.4 p.8 in let x = hex_below p.2 p.5 p.9 in let y = hex_below p.3 p.6 p.10 in (high_fits high got p.0 p.7, omega (arith, p.11))
fits_piece (Backslash high) got t p = p.4
fits_piece (U high) got t p = p.4

utf8_piece : (p : Piece) (got t : List ℕ) → PieceHolds p got t → is_closing p 34 ≡ true → IsUtf8 got
utf8_piece Start got t p h = chars_utf8 got t p
utf8_piece Last got t p h = cc
utf8_piece (LastButOne least most) got t p h = cc
utf8_piece (LastButTwo least most) got t p h = cc
utf8_piece Letter got t p h = cc
utf8_piece (First high) got t p h = cc
utf8_piece (Second high value) got t p h = cc
utf8_piece (Third high value) got t p h = cc
utf8_piece (Fourth high value) got t p h = cc
utf8_piece (Backslash high) got t p h = cc
utf8_piece (U high) got t p h = cc

holds_sound : (e : Expect) (got : List ℕ) (frames : List Frame) (front : List ℕ) → Holds given e got frames front → IsSound e got
holds_sound Object got frames front p = tt
holds_sound Value got frames front p = tt
holds_sound ValueOrEnd got frames front p = tt
holds_sound Name got frames front p = tt
holds_sound NameOrEnd got frames front p = tt
holds_sound Colon got frames front p = tt
holds_sound CommaOrEnd got frames front p = tt
holds_sound End got frames front p = tt
holds_sound (Text role.Name piece) got frames front p = (fits_piece piece got p.1 p.3, utf8_piece piece got p.1 p.3)
holds_sound (Text role.Value piece) got frames front p = (fits_piece piece got p.1 p.3, utf8_piece piece got p.1 p.3)
holds_sound (Number q) got frames front p = λ w. is_number_complete got (front_ends q got w p.2)
holds_sound (Letters w place) got frames front p = p.3

pub sound : (text : List ℕ) (i : ℕ) (e : Expect) (got : List ℕ) (fs : List Frame) → run given start (take i text) ≡ Some (state_of e got fs) → IsSound e got
sound text i e got fs h = holds_sound e got (reverse fs) (take i text) (front_holds given (take i text) (state_of e got fs) (omega arith) h)

-- the whole text is read
pub all_read : (text : List ℕ) (i : ℕ) (got : List ℕ) (fs : List Frame) (names : List (List ℕ)) (values : List Json) → length text ≤ i → run given start (take i text) ≡ Some (state_of End got fs)
    → reverse fs ≡ OpenObject names values ∷ [] → IsReading text (members_of names values)
all_read text i got fs names values le h is =
    let r = rw (take_all i text le) at h in
    let p = front_holds given text (state_of End got fs) (omega arith) r in
    let none = p.0 in
    run_reads given text names values (omega arith) (r ∙ rw (none, is) refl)

-- at the end one object is left
pub one_frame : (text : List ℕ) (i : ℕ) (got : List ℕ) (fs : List Frame) → run given start (take i text) ≡ Some (state_of End got fs) → (names : List (List ℕ)) × (values : List Json) × (reverse fs ≡ OpenObject names values ∷ [])
one_frame text i got fs h = let p = front_holds given (take i text) (state_of End got fs) (omega arith) h in (p.1.names, p.1.values, p.1.is)
