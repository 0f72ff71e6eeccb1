-- What the machine has read: each of its states, by what stands in front.
use Rattle.std.proofs.Common.{◌≡◌, ◌⊎◌, ℕ, suc, ◌+◌, ◌-◌, ◌<◌, ◌≤◌, ◌&&◌, Bool, true, false, cond, ltb, List, [], ◌∷◌, ◌++◌, length, take, get_or, Option, Some, None, inl, inr, refl, sym, ap, ◌∙◌, subst, arith, append_assoc, append-nil, length-append}
use Rattle.std.specs.Option.{option_and_then}
use Rattle.std.proofs.lemmas.Bool.Decides.{eqb_tells}
use Rattle.std.proofs.lemmas.Bool.{leb-true}
use Rattle.std.proofs.lemmas.List.{take_more, take_all}
use borrow.Author.Tests.{ltb-true}
use Rattle.usp_json.specs.declared.value.Json.{Json}
use Rattle.usp_json.specs.declared.value.Json.TheVariants.{Null, Num, Str, Bool as Boolean}
use Rattle.usp_json.specs.declared.frame.Frame.{Frame}
use Rattle.usp_json.specs.declared.frame.Frame.TheVariants.{Array, Object as OpenObject}
use Rattle.usp_json.specs.declared.states.Expect.{Expect}
use Rattle.usp_json.specs.declared.states.Expect.TheVariants.{Object, Value, ValueOrEnd, Name, NameOrEnd, Colon, CommaOrEnd, End, Text, Number, Letters}
use Rattle.usp_json.specs.declared.states.NumberPart.{NumberPart}
use Rattle.usp_json.specs.declared.states.Piece.{Piece}
use Rattle.usp_json.specs.declared.states.Piece.TheVariants.{Start, Last, LastButOne, LastButTwo, Letter, First, Second, Third, Fourth, Backslash, U}
use Rattle.usp_json.specs.declared.states.Role.{Role}
use Rattle.usp_json.specs.declared.states.Role.TheVariants as role
use Rattle.usp_json.specs.declared.states.Word.{Word}
use Rattle.usp_json.specs.declared.states.Word.TheVariants as word
use Rattle.usp_json.specs.Entries.{members_of, object_of, array_of}
use Rattle.usp_json.specs.Grammar.{is_space, IsSpace, SpellsText, SpellsChars, none}
use Rattle.usp_json.specs.Number.{number_first, number_step, is_whole_number}
use Rattle.usp_json.specs.Pieces.{Read, piece_step}
use Rattle.usp_json.specs.Spells.{Limits, has_name, IsFresh, AreApart, Spells, null, boolean, number, string, array, object, SpellsArray, no_items, items, SpellsItems, last_item, padded, SpellsObject, no_members, members, SpellsMembers, last_member, SpellsMember, member, IsReadingWithin}
use Rattle.usp_json.specs.Machine.{State, at, put, after_value, opens, letters_of, value_of_word, value_from, value_step, other_value, array_end, object_end, comma, text_end, comma_step, is_closing, letters_step, number_from, step_at, step, run, start, ended}
use Rattle.usp_json.proofs.Numbers.{tells, then_case, NumberFront, front_first, front_step, front_ends}
use Rattle.usp_json.proofs.PieceLaws.{PieceHolds, piece_holds}
use Rattle.usp_json.proofs.GrowLaws.{snoc_items, snoc_members, space_snoc, space_items, space_members, apart_snoc}

-- ---- what stands in front

-- a value may come in an array
abbrev ArrayReady : Limits → ℕ → List Json → List ℕ → Type 0
ArrayReady limits n values g = ((values ≡ []) × IsSpace g) ⊎ ((h s : List ℕ) × SpellsItems limits n values h × IsSpace s × (g ≡ h ++ 44 ∷ s))

-- a name may come in an object
pub record NameReady (limits : Limits) (n : ℕ) (names : List (List ℕ)) (values : List Json) (g : List ℕ) : Type 0 where
  pub apart : AreApart limits [] names
  pub few : length names < limits.members
  pub front : ((names ≡ []) × (values ≡ []) × IsSpace g) ⊎ ((h s : List ℕ) × SpellsMembers limits n names values h × IsSpace s × (g ≡ h ++ 44 ∷ s))

-- a value may come in an object
pub record ObjectReady (limits : Limits) (n : ℕ) (names : List (List ℕ)) (values : List Json) (g : List ℕ) : Type 0 where
  pub earlier : List (List ℕ)
  pub name : List ℕ
  pub front : List ℕ
  pub spelled : List ℕ
  pub after : List ℕ
  pub s : List ℕ
  pub is : names ≡ earlier ++ name ∷ []
  pub ready : NameReady limits n earlier values front
  pub fresh : IsFresh limits name earlier
  pub spells : SpellsText name spelled
  pub spaced : IsSpace after
  pub spaced_too : IsSpace s
  pub whole : g ≡ front ++ (spelled ++ (after ++ 58 ∷ s))

abbrev FrameReady : Limits → ℕ → Frame → List ℕ → Type 0
FrameReady limits n (Array values) g = ArrayReady limits n values g
FrameReady limits n (OpenObject names values) g = ObjectReady limits n names values g

abbrev open_byte : Frame → ℕ
open_byte (Array values) = 91
open_byte (OpenObject names values) = 123

-- the outermost frame is no array
abbrev pub IsInner : Frame → List Frame → Type 0
IsInner (Array values) outer = 0 < length outer
IsInner (OpenObject names values) outer = Unit {0}

-- a frame may be opened behind it: in those frames a value may come
abbrev pub Outside : Limits → List Frame → List ℕ → Type 0
Outside limits [] front = IsSpace front
Outside limits (frame ∷ outer) front = (f g : List ℕ) × Outside limits outer f × FrameReady limits (limits.levels - length outer) frame g × (front ≡ f ++ open_byte frame ∷ g)
    × (length outer ≤ limits.levels) × IsInner frame outer

-- a frame that may end there
abbrev pub FrameWhole : Limits → ℕ → Frame → List ℕ → Type 0
FrameWhole limits n (Array values) g = SpellsItems limits n values g
FrameWhole limits n (OpenObject names values) g = SpellsMembers limits n names values g × AreApart limits [] names × (length names ≤ limits.members)

pub record ValuePlace (limits : Limits) (frames : List Frame) (front : List ℕ) : Type 0 where
  pub frame : Frame
  pub outer : List Frame
  pub is : frames ≡ frame ∷ outer
  pub outside : Outside limits (frame ∷ outer) front

pub record FirstPlace (limits : Limits) (frame : Frame) (frames : List Frame) (front : List ℕ) : Type 0 where
  pub outer : List Frame
  pub f : List ℕ
  pub g : List ℕ
  pub is : frames ≡ frame ∷ outer
  pub outside : Outside limits outer f
  pub spaced : IsSpace g
  pub whole : front ≡ f ++ open_byte frame ∷ g
  pub fits : length outer ≤ limits.levels
  pub inner : IsInner frame outer

pub record NamePlace (limits : Limits) (frames : List Frame) (front : List ℕ) : Type 0 where
  pub names : List (List ℕ)
  pub values : List Json
  pub outer : List Frame
  pub f : List ℕ
  pub g : List ℕ
  pub is : frames ≡ OpenObject names values ∷ outer
  pub outside : Outside limits outer f
  pub ready : NameReady limits (limits.levels - length outer) names values g
  pub whole : front ≡ f ++ 123 ∷ g
  pub fits : length outer ≤ limits.levels

pub record ColonPlace (limits : Limits) (frames : List Frame) (front : List ℕ) : Type 0 where
  pub names : List (List ℕ)
  pub name : List ℕ
  pub values : List Json
  pub outer : List Frame
  pub f : List ℕ
  pub g : List ℕ
  pub spelled : List ℕ
  pub after : List ℕ
  pub is : frames ≡ OpenObject (names ++ name ∷ []) values ∷ outer
  pub outside : Outside limits outer f
  pub ready : NameReady limits (limits.levels - length outer) names values g
  pub fresh : IsFresh limits name names
  pub spells : SpellsText name spelled
  pub spaced : IsSpace after
  pub whole : front ≡ f ++ 123 ∷ (g ++ (spelled ++ after))
  pub fits : length outer ≤ limits.levels

pub record CommaPlace (limits : Limits) (frames : List Frame) (front : List ℕ) : Type 0 where
  pub frame : Frame
  pub outer : List Frame
  pub f : List ℕ
  pub g : List ℕ
  pub is : frames ≡ frame ∷ outer
  pub outside : Outside limits outer f
  pub read : FrameWhole limits (limits.levels - length outer) frame g
  pub whole : front ≡ f ++ open_byte frame ∷ g
  pub fits : length outer ≤ limits.levels
  pub inner : IsInner frame outer

pub record EndPlace (limits : Limits) (frames : List Frame) (front : List ℕ) : Type 0 where
  pub names : List (List ℕ)
  pub values : List Json
  pub before : List ℕ
  pub inner : List ℕ
  pub after : List ℕ
  pub is : frames ≡ OpenObject names values ∷ []
  pub begins : IsSpace before
  pub spells : SpellsObject limits limits.levels names values inner
  pub ends : IsSpace after
  pub whole : front ≡ before ++ (inner ++ after)

-- what stands in front, by what comes next
abbrev pub Holds : Limits → Expect → List ℕ → List Frame → List ℕ → Type 0
Holds limits Object got frames front = (frames ≡ []) × IsSpace front
Holds limits Value got frames front = ValuePlace limits frames front
Holds limits ValueOrEnd got frames front = FirstPlace limits (Array []) frames front
Holds limits Name got frames front = NamePlace limits frames front
Holds limits NameOrEnd got frames front = FirstPlace limits (OpenObject [] []) frames front
Holds limits Colon got frames front = ColonPlace limits frames front
Holds limits CommaOrEnd got frames front = CommaPlace limits frames front
Holds limits End got frames front = (got ≡ []) × EndPlace limits frames front
Holds limits (Text role.Value piece) got frames front = (f t : List ℕ) × ValuePlace limits frames f × PieceHolds piece got t × (front ≡ f ++ 34 ∷ t)
Holds limits (Text role.Name piece) got frames front = (f t : List ℕ) × NamePlace limits frames f × PieceHolds piece got t × (front ≡ f ++ 34 ∷ t)
Holds limits (Number part) got frames front = (f : List ℕ) × ValuePlace limits frames f × NumberFront part got × (front ≡ f ++ got)
Holds limits (Letters word place) got frames front = (f : List ℕ) × ValuePlace limits frames f × (0 < place) × (place < length (letters_of word)) × (front ≡ f ++ take place (letters_of word))

abbrev pub HoldsAt : Limits → State → List ℕ → Type 0
HoldsAt limits st front = Holds limits st.expect st.got st.frames front

moved : (limits : Limits) (st t : State) (front : List ℕ) → Some st ≡ Some t → HoldsAt limits st front → HoldsAt limits t front
moved limits st t front h f = let e : st ≡ t = cc in subst (λ (u : State). HoldsAt limits u front) e f

moved_to : (limits : Limits) (st t : State) (front other : List ℕ) → Some st ≡ Some t → other ≡ front → HoldsAt limits st front → HoldsAt limits t other
moved_to limits st t front other h e f = subst (λ (l : List ℕ). HoldsAt limits t l) (sym e) (moved limits st t front h f)

-- ---- a value comes

item_added : (limits : Limits) (n : ℕ) (values : List Json) (g : List ℕ) (v : Json) (t : List ℕ) → ArrayReady limits n values g → Spells limits n v t → SpellsItems limits n (values ++ v ∷ []) (g ++ t)
item_added limits n values g v t r s = elim r [
  | inl first ↦
      rw first.0 (last_item n v (g ++ t) (padded n v g t [] (g ++ t) first.1 s tt (ap (λ l. g ++ l) (sym (append-nil t)))))
  | inr more ↦
      subst (λ (l : List ℕ). SpellsItems limits n (values ++ v ∷ []) l) (sym (rw more.4 (append_assoc more.0 (44 ∷ more.1) t)))
      (snoc_items limits n values more.0 more.2 v (more.1 ++ t) (padded n v more.1 t [] (more.1 ++ t) more.3 s tt (ap (λ l. more.1 ++ l) (sym (append-nil t)))))
]

-- a member, behind white space
whole_member : (limits : Limits) (n : ℕ) (name : List ℕ) (v : Json) (before spelled after s t : List ℕ) → IsSpace before → SpellsText name spelled → IsSpace after → IsSpace s → Spells limits n v t
    → SpellsMember limits n name v (before ++ (spelled ++ (after ++ 58 ∷ (s ++ t))))
whole_member limits n name v before spelled after s t hb is ha hs value =
    member n name v before spelled after (s ++ t) (before ++ (spelled ++ (after ++ 58 ∷ (s ++ t)))) hb is ha (padded n v s t [] (s ++ t) hs value tt (ap (λ l. s ++ l) (sym (append-nil t)))) refl

member_added : (limits : Limits) (n : ℕ) (names : List (List ℕ)) (values : List Json) (g : List ℕ) (v : Json) (t : List ℕ) → ObjectReady limits n names values g → Spells limits n v t
    → FrameWhole limits n (OpenObject names (values ++ v ∷ [])) (g ++ t)
member_added limits n names values g v t r s =
    let tail = r.spelled ++ (r.after ++ 58 ∷ (r.s ++ t)) in
    let text : g ++ t ≡ r.front ++ tail =
    rw (r.whole, append_assoc r.front (r.spelled ++ (r.after ++ 58 ∷ r.s)) t, append_assoc r.spelled (r.after ++ 58 ∷ r.s) t, append_assoc r.after (58 ∷ r.s) t) refl
    in
    let few : length names ≤ limits.members = rw r.is (omega (arith, length-append r.earlier (r.name ∷ []), r.ready.few)) in
    let apart : AreApart limits [] names = rw r.is (apart_snoc limits [] r.earlier r.name r.ready.apart r.fresh) in
    let spelled : SpellsMembers limits n names (values ++ v ∷ []) (g ++ t) = rw (r.is, text) (elim r.ready.front [
      | inl first ↦
          rw (first.0, first.1) (last_member n r.name v (r.front ++ tail) (whole_member limits n r.name v r.front r.spelled r.after r.s t first.2 r.spells r.spaced r.spaced_too s))
      | inr more ↦
          subst (λ (l : List ℕ). SpellsMembers limits n (r.earlier ++ r.name ∷ []) (values ++ v ∷ []) l) (sym (rw more.4 (append_assoc more.0 (44 ∷ more.1) tail)))
          (snoc_members limits n r.earlier values more.0 more.2 r.name v (more.1 ++ tail) (whole_member limits n r.name v more.1 r.spelled r.after r.s t more.3 r.spells r.spaced r.spaced_too s))
    ]) in
    (spelled, apart, few)

put_holds : (limits : Limits) (frame : Frame) (outer : List Frame) (f : List ℕ) (v : Json) (t : List ℕ) → Outside limits (frame ∷ outer) f → Spells limits (limits.levels - length outer) v t
    → CommaPlace limits (put v (frame ∷ outer)) (f ++ t)
put_holds limits (Array values) outer f v t o s = record {
  frame = Array (values ++ v ∷ []);
  outer = outer;
  f = o.0;
  g = o.1 ++ t;
  is = refl;
  outside = o.2;
  read = item_added limits (limits.levels - length outer) values o.1 v t o.3 s;
  whole = rw o.4 (append_assoc o.0 (91 ∷ o.1) t);
  fits = o.5;
  inner = o.6;
}
put_holds limits (OpenObject names values) outer f v t o s = record {
  frame = OpenObject names (values ++ v ∷ []);
  outer = outer;
  f = o.0;
  g = o.1 ++ t;
  is = refl;
  outside = o.2;
  read = member_added limits (limits.levels - length outer) names values o.1 v t o.3 s;
  whole = rw o.4 (append_assoc o.0 (123 ∷ o.1) t);
  fits = o.5;
  inner = tt;
}

-- a value at any place for one
pub place_holds : (limits : Limits) (frames : List Frame) (f : List ℕ) (v : Json) (t : List ℕ) → (p : ValuePlace limits frames f) → Spells limits (limits.levels - length p.outer) v t → CommaPlace limits (put v frames) (f ++ t)
place_holds limits frames f v t p s = subst (λ (l : List Frame). CommaPlace limits (put v l) (f ++ t)) (sym p.is) (put_holds limits p.frame p.outer f v t p.outside s)

-- a value that has a level of its own
into_outer : (limits : Limits) (outer : List Frame) (f : List ℕ) (n : ℕ) (v : Json) (t : List ℕ) → Outside limits outer f → 0 < length outer → length outer ≤ limits.levels → n ≡ limits.levels - length outer
    → Spells limits (suc n) v t → CommaPlace limits (put v outer) (f ++ t)
into_outer limits [] f n v t o some fits e s = absurd (omega arith)
into_outer limits (frame ∷ outer) f n v t o some fits e s =
    let same : suc n ≡ limits.levels - length outer = omega arith in
    put_holds limits frame outer f v t o (subst (λ (k : ℕ). Spells limits k v t) same s)

-- ---- the places, by a byte

array_place : (limits : Limits) (values : List Json) (outer : List Frame) (front f g : List ℕ) (t : State) → Outside limits outer f → 0 < length outer → length outer ≤ limits.levels
    → SpellsArray limits (limits.levels - length outer) values (91 ∷ (g ++ 93 ∷ [])) → front ≡ f ++ 91 ∷ g → Some (after_value (array_of values) outer) ≡ Some t → HoldsAt limits t (front ++ 93 ∷ [])
array_place limits values outer front f g t o some fits s whole h =
    moved_to limits (after_value (array_of values) outer) t (f ++ 91 ∷ (g ++ 93 ∷ [])) (front ++ 93 ∷ []) h (rw whole (append_assoc f (91 ∷ g) (93 ∷ [])))
    (into_outer limits outer f (limits.levels - length outer) (array_of values) (91 ∷ (g ++ 93 ∷ [])) o some fits refl
    (array (limits.levels - length outer) (array_of values) (91 ∷ (g ++ 93 ∷ [])) values refl s))

object_place : (limits : Limits) (names : List (List ℕ)) (values : List Json) (outer : List Frame) (front f g : List ℕ) (t : State) → Outside limits outer f → length outer ≤ limits.levels
    → SpellsObject limits (limits.levels - length outer) names values (123 ∷ (g ++ 125 ∷ [])) → front ≡ f ++ 123 ∷ g → object_end (OpenObject names values ∷ outer) ≡ Some t → HoldsAt limits t (front ++ 125 ∷ [])
object_place limits names values [] front f g t o fits s whole h =
    let same : limits.levels - 0 ≡ limits.levels = omega arith in
    moved limits (ended names values) t (front ++ 125 ∷ []) h (
      refl,
      record {
        names = names;
        values = values;
        before = f;
        inner = 123 ∷ (g ++ 125 ∷ []);
        after = [];
        is = refl;
        begins = o;
        spells = subst (λ (k : ℕ). SpellsObject limits k names values (123 ∷ (g ++ 125 ∷ []))) same s;
        ends = tt;
        whole = rw (whole, append-nil (g ++ 125 ∷ [])) (append_assoc f (123 ∷ g) (125 ∷ []));
      },
    )
object_place limits names values (frame ∷ outer) front f g t o fits s whole h =
    moved_to limits (after_value (object_of names values) (frame ∷ outer)) t (f ++ 123 ∷ (g ++ 125 ∷ [])) (front ++ 125 ∷ []) h (rw whole (append_assoc f (123 ∷ g) (125 ∷ [])))
    (into_outer limits (frame ∷ outer) f (limits.levels - length (frame ∷ outer)) (object_of names values) (123 ∷ (g ++ 125 ∷ [])) o (omega arith) fits refl
    (object (limits.levels - length (frame ∷ outer)) (object_of names values) (123 ∷ (g ++ 125 ∷ [])) names values refl s))

-- the end of a frame
array_ends : (limits : Limits) (frame : Frame) (outer : List Frame) (front f g : List ℕ) (t : State) → Outside limits outer f → IsInner frame outer → length outer ≤ limits.levels
    → FrameWhole limits (limits.levels - length outer) frame g → front ≡ f ++ open_byte frame ∷ g → array_end (frame ∷ outer) ≡ Some t → HoldsAt limits t (front ++ 93 ∷ [])
array_ends limits (OpenObject names values) outer front f g t o i fits r whole h = cc
array_ends limits (Array values) outer front f g t o i fits r whole h =
    array_place limits values outer front f g t o i fits (items (limits.levels - length outer) values g (91 ∷ (g ++ 93 ∷ [])) r refl) whole h

object_ends : (limits : Limits) (frame : Frame) (outer : List Frame) (front f g : List ℕ) (t : State) → Outside limits outer f → length outer ≤ limits.levels
    → FrameWhole limits (limits.levels - length outer) frame g → front ≡ f ++ open_byte frame ∷ g → object_end (frame ∷ outer) ≡ Some t → HoldsAt limits t (front ++ 125 ∷ [])
object_ends limits (Array values) outer front f g t o fits r whole h = cc
object_ends limits (OpenObject names values) outer front f g t o fits r whole h =
    object_place limits names values outer front f g t o fits (members (limits.levels - length outer) names values g (123 ∷ (g ++ 125 ∷ [])) r.0 r.1 r.2 refl) whole h

more_members_fit : (limits : Limits) (names : List (List ℕ)) (values : List Json) (outer : List Frame) (front f g : List ℕ) (t : State) (b : Bool) → ltb (length names) limits.members ≡ b → Outside limits outer f
    → length outer ≤ limits.levels → FrameWhole limits (limits.levels - length outer) (OpenObject names values) g → front ≡ f ++ 123 ∷ g
    → cond b (Some (at Name (OpenObject names values ∷ outer))) None ≡ Some t → HoldsAt limits t (front ++ 44 ∷ [])
more_members_fit limits names values outer front f g t false e o fits r whole h = cc
more_members_fit limits names values outer front f g t true e o fits r whole h =
    moved limits (at Name (OpenObject names values ∷ outer)) t (front ++ 44 ∷ []) h
    (record {
      names = names;
      values = values;
      outer = outer;
      f = f;
      g = g ++ 44 ∷ [];
      is = refl;
      outside = o;
      ready = record { apart = r.1; few = ltb-true (length names) limits.members e; front = inr (g, [], r.0, tt, refl) };
      whole = rw whole (append_assoc f (123 ∷ g) (44 ∷ []));
      fits = fits;
    })

comma_goes_on : (limits : Limits) (frame : Frame) (outer : List Frame) (front f g : List ℕ) (t : State) → Outside limits outer f → IsInner frame outer → length outer ≤ limits.levels
    → FrameWhole limits (limits.levels - length outer) frame g → front ≡ f ++ open_byte frame ∷ g → comma limits (frame ∷ outer) ≡ Some t → HoldsAt limits t (front ++ 44 ∷ [])
comma_goes_on limits (Array values) outer front f g t o i fits r whole h =
    moved limits (at Value (Array values ∷ outer)) t (front ++ 44 ∷ []) h
    (record { frame = Array values; outer = outer; is = refl; outside = (f, g ++ 44 ∷ [], o, inr (g, [], r, tt, refl), rw whole (append_assoc f (91 ∷ g) (44 ∷ [])), fits, i) })
comma_goes_on limits (OpenObject names values) outer front f g t o i fits r whole h =
    more_members_fit limits names values outer front f g t (ltb (length names) limits.members) refl o fits r whole h

space_whole : (limits : Limits) (n : ℕ) (frame : Frame) (g : List ℕ) (b : ℕ) → FrameWhole limits n frame g → is_space b ≡ true → FrameWhole limits n frame (g ++ b ∷ [])
space_whole limits n (Array values) g b r h = space_items limits n values g b r h
space_whole limits n (OpenObject names values) g b r h = (space_members limits n names values g b r.0 h, r.1, r.2)

comma_holds : (limits : Limits) (frames : List Frame) (front : List ℕ) (b : ℕ) (t : State) → CommaPlace limits frames front → comma_step limits frames b ≡ Some t → HoldsAt limits t (front ++ b ∷ [])
comma_holds limits frames front b t p h = elim (tells (is_space b)) [
  | inl s ↦
      let k = rw s at h in
      moved limits (at CommaOrEnd frames) t (front ++ b ∷ []) k
      (record {
        frame = p.frame;
        outer = p.outer;
        f = p.f;
        g = p.g ++ b ∷ [];
        is = p.is;
        outside = p.outside;
        read = space_whole limits (limits.levels - length p.outer) p.frame p.g b p.read s;
        whole = rw p.whole (append_assoc p.f (open_byte p.frame ∷ p.g) (b ∷ []));
        fits = p.fits;
        inner = p.inner;
      })
  | inr e0 ↦ elim (eqb_tells b 44) [
    | inl i ↦ let k = rw (e0, i.0, p.is) at h in rw i.1 (comma_goes_on limits p.frame p.outer front p.f p.g t p.outside p.inner p.fits p.read p.whole k)
    | inr e1 ↦ elim (eqb_tells b 93) [
      | inl i ↦ let k = rw (e0, e1.0, i.0, p.is) at h in rw i.1 (array_ends limits p.frame p.outer front p.f p.g t p.outside p.inner p.fits p.read p.whole k)
      | inr e2 ↦ elim (eqb_tells b 125) [
        | inl i ↦ let k = rw (e0, e1.0, e2.0, i.0, p.is) at h in rw i.1 (object_ends limits p.frame p.outer front p.f p.g t p.outside p.fits p.read p.whole k)
        | inr e3 ↦ let k = rw (e0, e1.0, e2.0, e3.0) at h in cc k
      ]
    ]
  ]
]

first_array : (limits : Limits) (frames : List Frame) (front : List ℕ) → ValuePlace limits frames front → length frames ≤ limits.levels → FirstPlace limits (Array []) (Array [] ∷ frames) (front ++ 91 ∷ [])
first_array limits frames front p fits = record {
  outer = frames;
  f = front;
  g = [];
  is = refl;
  outside = subst (λ (l : List Frame). Outside limits l front) (sym p.is) p.outside;
  spaced = tt;
  whole = refl;
  fits = fits;
  inner = rw p.is (omega arith);
}

first_object : (limits : Limits) (frames : List Frame) (front : List ℕ) → ValuePlace limits frames front → length frames ≤ limits.levels → FirstPlace limits (OpenObject [] []) (OpenObject [] [] ∷ frames) (front ++ 123 ∷ [])
first_object limits frames front p fits = record {
  outer = frames;
  f = front;
  g = [];
  is = refl;
  outside = subst (λ (l : List Frame). Outside limits l front) (sym p.is) p.outside;
  spaced = tt;
  whole = refl;
  fits = fits;
  inner = tt;
}

opens_then : (limits : Limits) (frames : List Frame) (next t : State) → cond (opens limits frames) (Some next) None ≡ Some t → (length frames ≤ limits.levels) × (Some next ≡ Some t)
opens_then limits frames next t h = elim (tells (opens limits frames)) [
  | inl e ↦ let k = rw e at h in (leb-true (length frames) limits.levels e, k)
  | inr e ↦ let k = rw e at h in cc k
]

other_holds : (limits : Limits) (frames : List Frame) (front : List ℕ) (b : ℕ) (t : State) → ValuePlace limits frames front → other_value limits frames b ≡ Some t → HoldsAt limits t (front ++ b ∷ [])
other_holds limits frames front b t p h = elim (eqb_tells b 34) [
  | inl i ↦ let k = rw i.0 at h in moved limits (at (Text role.Value Start) frames) t (front ++ b ∷ []) k (front, [], p, none, rw i.1 refl)
  | inr e0 ↦ elim (eqb_tells b 91) [
    | inl i ↦
        let k = rw (e0.0, i.0) at h in
        let o = opens_then limits frames (at ValueOrEnd (Array [] ∷ frames)) t k in
        moved limits (at ValueOrEnd (Array [] ∷ frames)) t (front ++ b ∷ []) o.1 (rw i.1 (first_array limits frames front p o.0))
    | inr e1 ↦ elim (eqb_tells b 123) [
      | inl i ↦
          let k = rw (e0.0, e1.0, i.0) at h in
          let o = opens_then limits frames (at NameOrEnd (OpenObject [] [] ∷ frames)) t k in
          moved limits (at NameOrEnd (OpenObject [] [] ∷ frames)) t (front ++ b ∷ []) o.1 (rw i.1 (first_object limits frames front p o.0))
      | inr e2 ↦ elim (eqb_tells b 110) [
        | inl i ↦ let k = rw (e0.0, e1.0, e2.0, i.0) at h in moved limits (at (Letters word.Null 1) frames) t (front ++ b ∷ []) k (front, p, omega arith, omega arith, rw i.1 refl)
        | inr e3 ↦ elim (eqb_tells b 116) [
          | inl i ↦ let k = rw (e0.0, e1.0, e2.0, e3.0, i.0) at h in moved limits (at (Letters word.True 1) frames) t (front ++ b ∷ []) k (front, p, omega arith, omega arith, rw i.1 refl)
          | inr e4 ↦ elim (eqb_tells b 102) [
            | inl i ↦ let k = rw (e0.0, e1.0, e2.0, e3.0, e4.0, i.0) at h in moved limits (at (Letters word.False 1) frames) t (front ++ b ∷ []) k (front, p, omega arith, omega arith, rw i.1 refl)
            | inr e5 ↦ let k = rw (e0.0, e1.0, e2.0, e3.0, e4.0, e5.0) at h in cc k
          ]
        ]
      ]
    ]
  ]
]

from_first : (limits : Limits) (frames : List Frame) (front : List ℕ) (b : ℕ) (t : State) (o : Option NumberPart) → number_first b ≡ o → ValuePlace limits frames front → value_from limits frames b o ≡ Some t
    → HoldsAt limits t (front ++ b ∷ [])
from_first limits frames front b t None e p h = other_holds limits frames front b t p h
from_first limits frames front b t (Some q) e p h = moved limits (record { expect = Number q; got = b ∷ []; frames = frames }) t (front ++ b ∷ []) h (front, p, front_first b q e, refl)

value_holds : (limits : Limits) (frames : List Frame) (front : List ℕ) (b : ℕ) (t : State) → ValuePlace limits frames front → value_step limits frames b ≡ Some t → HoldsAt limits t (front ++ b ∷ [])
value_holds limits frames front b t p h = from_first limits frames front b t (number_first b) refl p h

-- white space before a value
array_space : (limits : Limits) (n : ℕ) (values : List Json) (g : List ℕ) (b : ℕ) → ArrayReady limits n values g → is_space b ≡ true → ArrayReady limits n values (g ++ b ∷ [])
array_space limits n values g b r h = elim r [
  | inl first ↦ inl (first.0, space_snoc g b first.1 h)
  | inr more ↦ inr (more.0, more.1 ++ b ∷ [], more.2, space_snoc more.1 b more.3 h, rw more.4 (append_assoc more.0 (44 ∷ more.1) (b ∷ [])))
]

frame_space : (limits : Limits) (n : ℕ) (frame : Frame) (g : List ℕ) (b : ℕ) → FrameReady limits n frame g → is_space b ≡ true → FrameReady limits n frame (g ++ b ∷ [])
frame_space limits n (Array values) g b r h = array_space limits n values g b r h
frame_space limits n (OpenObject names values) g b r h = record {
  earlier = r.earlier;
  name = r.name;
  front = r.front;
  spelled = r.spelled;
  after = r.after;
  s = r.s ++ b ∷ [];
  is = r.is;
  ready = r.ready;
  fresh = r.fresh;
  spells = r.spells;
  spaced = r.spaced;
  spaced_too = space_snoc r.s b r.spaced_too h;
  whole = rw (r.whole, append_assoc r.front (r.spelled ++ (r.after ++ 58 ∷ r.s)) (b ∷ []), append_assoc r.spelled (r.after ++ 58 ∷ r.s) (b ∷ []), append_assoc r.after (58 ∷ r.s) (b ∷ [])) refl;
}

value_space : (limits : Limits) (frames : List Frame) (front : List ℕ) (b : ℕ) → ValuePlace limits frames front → is_space b ≡ true → ValuePlace limits frames (front ++ b ∷ [])
value_space limits frames front b p h =
    let o = p.outside in
    record {
      frame = p.frame;
      outer = p.outer;
      is = p.is;
      outside = (o.0, o.1 ++ b ∷ [], o.2, frame_space limits (limits.levels - length p.outer) p.frame o.1 b o.3 h, rw o.4 (append_assoc o.0 (open_byte p.frame ∷ o.1) (b ∷ [])), o.5, o.6);
    }

first_space : (limits : Limits) (frame : Frame) (frames : List Frame) (front : List ℕ) (b : ℕ) → FirstPlace limits frame frames front → is_space b ≡ true → FirstPlace limits frame frames (front ++ b ∷ [])
first_space limits frame frames front b p h = record {
  outer = p.outer;
  f = p.f;
  g = p.g ++ b ∷ [];
  is = p.is;
  outside = p.outside;
  spaced = space_snoc p.g b p.spaced h;
  whole = rw p.whole (append_assoc p.f (open_byte frame ∷ p.g) (b ∷ []));
  fits = p.fits;
  inner = p.inner;
}

pub first_value : (limits : Limits) (frames : List Frame) (front : List ℕ) → FirstPlace limits (Array []) frames front → ValuePlace limits frames front
first_value limits frames front p = record { frame = Array []; outer = p.outer; is = p.is; outside = (p.f, p.g, p.outside, inl (refl, p.spaced), p.whole, p.fits, p.inner) }

pub first_name : (limits : Limits) (frames : List Frame) (front : List ℕ) → 0 < limits.members → FirstPlace limits (OpenObject [] []) frames front → NamePlace limits frames front
first_name limits frames front some p = record {
  names = [];
  values = [];
  outer = p.outer;
  f = p.f;
  g = p.g;
  is = p.is;
  outside = p.outside;
  ready = record { apart = tt; few = some; front = inl (refl, refl, p.spaced) };
  whole = p.whole;
  fits = p.fits;
}

name_space : (limits : Limits) (frames : List Frame) (front : List ℕ) (b : ℕ) → NamePlace limits frames front → is_space b ≡ true → NamePlace limits frames (front ++ b ∷ [])
name_space limits frames front b p h = record {
  names = p.names;
  values = p.values;
  outer = p.outer;
  f = p.f;
  g = p.g ++ b ∷ [];
  is = p.is;
  outside = p.outside;
  ready = record {
    apart = p.ready.apart;
    few = p.ready.few;
    front = elim p.ready.front [
      | inl first ↦ inl (first.0, first.1, space_snoc p.g b first.2 h)
      | inr more ↦ inr (more.0, more.1 ++ b ∷ [], more.2, space_snoc more.1 b more.3 h, rw more.4 (append_assoc more.0 (44 ∷ more.1) (b ∷ [])))
    ];
  };
  whole = rw p.whole (append_assoc p.f (123 ∷ p.g) (b ∷ []));
  fits = p.fits;
}

-- ---- texts, numbers and words

quoted : (f t : List ℕ) → (f ++ 34 ∷ t) ++ 34 ∷ [] ≡ f ++ 34 ∷ (t ++ 34 ∷ [])
quoted f t = append_assoc f (34 ∷ t) (34 ∷ [])

fresh_then : (limits : Limits) (got : List ℕ) (names : List (List ℕ)) (next t : State) → cond (limits.distinct && has_name got names) None (Some next) ≡ Some t → IsFresh limits got names × (Some next ≡ Some t)
fresh_then limits got names next t h = elim (tells (limits.distinct && has_name got names)) [
  | inl e ↦ let k = rw e at h in cc k
  | inr e ↦ let k = rw e at h in (e, k)
]

name_ends : (limits : Limits) (got : List ℕ) (frames : List Frame) (f t : List ℕ) (u : State) → NamePlace limits frames f → SpellsChars got t → text_end limits role.Name got frames ≡ Some u → HoldsAt limits u (f ++ 34 ∷ (t ++ 34 ∷ []))
name_ends limits got frames f t u p s h =
    let k = rw p.is at h in
    let next = at Colon (OpenObject (p.names ++ got ∷ []) p.values ∷ p.outer) in
    let fresh = fresh_then limits got p.names next u k in
    moved limits next u (f ++ 34 ∷ (t ++ 34 ∷ [])) fresh.1
    (record {
      names = p.names;
      name = got;
      values = p.values;
      outer = p.outer;
      f = p.f;
      g = p.g;
      spelled = 34 ∷ (t ++ 34 ∷ []);
      after = [];
      is = refl;
      outside = p.outside;
      ready = p.ready;
      fresh = fresh.0;
      spells = (t, refl, s);
      spaced = tt;
      whole = rw (p.whole, append-nil (t ++ 34 ∷ [])) (append_assoc p.f (123 ∷ p.g) (34 ∷ (t ++ 34 ∷ [])));
      fits = p.fits;
    })

value_text_ends : (limits : Limits) (got : List ℕ) (frames : List Frame) (f t : List ℕ) (u : State) → ValuePlace limits frames f → SpellsChars got t → text_end limits role.Value got frames ≡ Some u
    → HoldsAt limits u (f ++ 34 ∷ (t ++ 34 ∷ []))
value_text_ends limits got frames f t u p s h =
    moved limits (after_value (Str got) frames) u (f ++ 34 ∷ (t ++ 34 ∷ [])) h
    (place_holds limits frames f (Str got) (34 ∷ (t ++ 34 ∷ [])) p (string (limits.levels - length p.outer) (Str got) (34 ∷ (t ++ 34 ∷ [])) got refl (t, refl, s)))

abbrev some_state : State → Option State
some_state st = Some st

lifted : (kind : Role) (frames : List Frame) (o : Option Read) (u : State) → option_and_then (λ (r : Read). some_state (record { expect = Text kind r.0; got = r.1; frames = frames })) o ≡ Some u
    → (r : Read) × (o ≡ Some r) × (some_state (record { expect = Text kind r.0; got = r.1; frames = frames }) ≡ Some u)
lifted kind frames None u h = cc
lifted kind frames (Some r) u h = (r, refl, h)

-- a byte in a text, by whether it closes
name_byte : (limits : Limits) (piece : Piece) (got : List ℕ) (frames : List Frame) (f t : List ℕ) (b : ℕ) (u : State) → NamePlace limits frames f → PieceHolds piece got t
    → option_and_then (λ (r : Read). some_state (record { expect = Text role.Name r.0; got = r.1; frames = frames })) (piece_step piece got b) ≡ Some u → HoldsAt limits u (f ++ 34 ∷ (t ++ b ∷ []))
name_byte limits piece got frames f t b u p s h =
    let c = lifted role.Name frames (piece_step piece got b) u h in
    moved limits (record { expect = Text role.Name c.0.0; got = c.0.1; frames = frames }) u (f ++ 34 ∷ (t ++ b ∷ [])) c.2 (f, t ++ b ∷ [], p, piece_holds piece got t b c.0 s c.1, refl)

value_byte : (limits : Limits) (piece : Piece) (got : List ℕ) (frames : List Frame) (f t : List ℕ) (b : ℕ) (u : State) → ValuePlace limits frames f → PieceHolds piece got t
    → option_and_then (λ (r : Read). some_state (record { expect = Text role.Value r.0; got = r.1; frames = frames })) (piece_step piece got b) ≡ Some u → HoldsAt limits u (f ++ 34 ∷ (t ++ b ∷ []))
value_byte limits piece got frames f t b u p s h =
    let c = lifted role.Value frames (piece_step piece got b) u h in
    moved limits (record { expect = Text role.Value c.0.0; got = c.0.1; frames = frames }) u (f ++ 34 ∷ (t ++ b ∷ [])) c.2 (f, t ++ b ∷ [], p, piece_holds piece got t b c.0 s c.1, refl)

closes : (piece : Piece) (got t : List ℕ) (b : ℕ) → is_closing piece b ≡ true → PieceHolds piece got t → (b ≡ 34) × SpellsChars got t
closes Start got t b h s = elim (eqb_tells b 34) [ inl i ↦ (i.1, s) | inr n ↦ let k = rw n.0 at h in cc k ]
closes Last got t b h s = cc
closes (LastButOne least most) got t b h s = cc
closes (LastButTwo least most) got t b h s = cc
closes Letter got t b h s = cc
closes (First high) got t b h s = cc
closes (Second high value) got t b h s = cc
closes (Third high value) got t b h s = cc
closes (Fourth high value) got t b h s = cc
closes (Backslash high) got t b h s = cc
closes (U high) got t b h s = cc

name_text : (limits : Limits) (piece : Piece) (got : List ℕ) (frames : List Frame) (f t : List ℕ) (b : ℕ) (u : State) (c : Bool) → is_closing piece b ≡ c → NamePlace limits frames f → PieceHolds piece got t
    → cond c (text_end limits role.Name got frames) (option_and_then (λ (r : Read). some_state (record { expect = Text role.Name r.0; got = r.1; frames = frames })) (piece_step piece got b)) ≡ Some u
    → HoldsAt limits u (f ++ 34 ∷ (t ++ b ∷ []))
name_text limits piece got frames f t b u true e p s h = let c = closes piece got t b e s in rw c.0 (name_ends limits got frames f t u p c.1 h)
name_text limits piece got frames f t b u false e p s h = name_byte limits piece got frames f t b u p s h

value_text : (limits : Limits) (piece : Piece) (got : List ℕ) (frames : List Frame) (f t : List ℕ) (b : ℕ) (u : State) (c : Bool) → is_closing piece b ≡ c → ValuePlace limits frames f → PieceHolds piece got t
    → cond c (text_end limits role.Value got frames) (option_and_then (λ (r : Read). some_state (record { expect = Text role.Value r.0; got = r.1; frames = frames })) (piece_step piece got b)) ≡ Some u
    → HoldsAt limits u (f ++ 34 ∷ (t ++ b ∷ []))
value_text limits piece got frames f t b u true e p s h = let c = closes piece got t b e s in rw c.0 (value_text_ends limits got frames f t u p c.1 h)
value_text limits piece got frames f t b u false e p s h = value_byte limits piece got frames f t b u p s h

number_done : (limits : Limits) (p : NumberPart) (got : List ℕ) (frames : List Frame) (f : List ℕ) (b : ℕ) (u : State) (w : Bool) → is_whole_number p ≡ w → ValuePlace limits frames f → NumberFront p got
    → cond w (comma_step limits (put (Num got) frames) b) None ≡ Some u → HoldsAt limits u ((f ++ got) ++ b ∷ [])
number_done limits p got frames f b u false e v n h = cc
number_done limits p got frames f b u true e v n h =
    comma_holds limits (put (Num got) frames) (f ++ got) b u (place_holds limits frames f (Num got) got v (number (limits.levels - length v.outer) (Num got) got refl (front_ends p got e n))) h

number_byte : (limits : Limits) (p : NumberPart) (got : List ℕ) (frames : List Frame) (f : List ℕ) (b : ℕ) (u : State) (o : Option NumberPart) → number_step p b ≡ o → ValuePlace limits frames f → NumberFront p got
    → number_from limits p got frames b o ≡ Some u → HoldsAt limits u ((f ++ got) ++ b ∷ [])
number_byte limits p got frames f b u None e v n h = number_done limits p got frames f b u (is_whole_number p) refl v n h
number_byte limits p got frames f b u (Some q) e v n h =
    moved limits (record { expect = Number q; got = got ++ b ∷ []; frames = frames }) u ((f ++ got) ++ b ∷ []) h (f, v, front_step p q b got n e, append_assoc f got (b ∷ []))

word_spells : (limits : Limits) (n : ℕ) (w : Word) → Spells limits n (value_of_word w) (letters_of w)
word_spells limits n word.Null = null n Null (letters_of word.Null) refl refl
word_spells limits n word.True = boolean n (Boolean true) (letters_of word.True) true refl refl
word_spells limits n word.False = boolean n (Boolean false) (letters_of word.False) false refl refl

more_letters : (w : Word) (place b : ℕ) → place < length (letters_of w) → get_or (letters_of w) place 0 ≡ b → take (place + 1) (letters_of w) ≡ take place (letters_of w) ++ b ∷ []
more_letters w place b lt e = take_more (letters_of w) place 0 lt ∙ ap (λ x. take place (letters_of w) ++ x ∷ []) e

letter_holds : (limits : Limits) (w : Word) (place : ℕ) (frames : List Frame) (f : List ℕ) (b : ℕ) (u : State) → ValuePlace limits frames f → 0 < place → place < length (letters_of w)
    → letters_step w place frames b ≡ Some u → HoldsAt limits u ((f ++ take place (letters_of w)) ++ b ∷ [])
letter_holds limits w place frames f b u v some lt h = elim (eqb_tells (get_or (letters_of w) place 0) b) [
  | inr n ↦ let k = rw n.0 at h in cc k
  | inl i ↦
      let k = rw i.0 at h in
      let text : (f ++ take place (letters_of w)) ++ b ∷ [] ≡ f ++ take (place + 1) (letters_of w) = append_assoc f (take place (letters_of w)) (b ∷ []) ∙ ap (λ l. f ++ l) (sym (more_letters w place b lt i.1)) in
      elim (eqb_tells (place + 1) (length (letters_of w))) [
        | inl done ↦
            let r = rw done.0 at k in
            let all : take (place + 1) (letters_of w) ≡ letters_of w = take_all (place + 1) (letters_of w) (omega (arith, done.1)) in
            moved_to limits (after_value (value_of_word w) frames) u (f ++ letters_of w) ((f ++ take place (letters_of w)) ++ b ∷ []) r (text ∙ ap (λ l. f ++ l) all)
            (place_holds limits frames f (value_of_word w) (letters_of w) v (word_spells limits (limits.levels - length v.outer) w))
        | inr more ↦
            let r = rw more.0 at k in
            moved limits (at (Letters w (place + 1)) frames) u ((f ++ take place (letters_of w)) ++ b ∷ []) r (f, v, omega arith, omega (arith, more.1), text)
      ]
]

pub colon_value : (limits : Limits) (frames : List Frame) (front : List ℕ) → ColonPlace limits frames front → ValuePlace limits frames (front ++ 58 ∷ [])
colon_value limits frames front p = record {
  frame = OpenObject (p.names ++ p.name ∷ []) p.values;
  outer = p.outer;
  is = p.is;
  outside = (
    p.f,
    p.g ++ (p.spelled ++ (p.after ++ 58 ∷ [])),
    p.outside,
    record { earlier = p.names; name = p.name; front = p.g; spelled = p.spelled; after = p.after; s = []; is = refl; ready = p.ready; fresh = p.fresh; spells = p.spells; spaced = p.spaced; spaced_too = tt; whole = refl },
    rw (p.whole, append_assoc p.f (123 ∷ (p.g ++ (p.spelled ++ p.after))) (58 ∷ []), append_assoc p.g (p.spelled ++ p.after) (58 ∷ []), append_assoc p.spelled p.after (58 ∷ [])) refl,
    p.fits,
    tt,
  );
}

colon_space : (limits : Limits) (frames : List Frame) (front : List ℕ) (b : ℕ) → ColonPlace limits frames front → is_space b ≡ true → ColonPlace limits frames (front ++ b ∷ [])
colon_space limits frames front b p h = record {
  names = p.names;
  name = p.name;
  values = p.values;
  outer = p.outer;
  f = p.f;
  g = p.g;
  spelled = p.spelled;
  after = p.after ++ b ∷ [];
  is = p.is;
  outside = p.outside;
  ready = p.ready;
  fresh = p.fresh;
  spells = p.spells;
  spaced = space_snoc p.after b p.spaced h;
  whole = rw (p.whole, append_assoc p.f (123 ∷ (p.g ++ (p.spelled ++ p.after))) (b ∷ []), append_assoc p.g (p.spelled ++ p.after) (b ∷ []), append_assoc p.spelled p.after (b ∷ [])) refl;
  fits = p.fits;
}

end_space : (limits : Limits) (frames : List Frame) (front : List ℕ) (b : ℕ) → EndPlace limits frames front → is_space b ≡ true → EndPlace limits frames (front ++ b ∷ [])
end_space limits frames front b p h = record {
  names = p.names;
  values = p.values;
  before = p.before;
  inner = p.inner;
  after = p.after ++ b ∷ [];
  is = p.is;
  begins = p.begins;
  spells = p.spells;
  ends = space_snoc p.after b p.ends h;
  whole = rw (p.whole, append_assoc p.before (p.inner ++ p.after) (b ∷ []), append_assoc p.inner p.after (b ∷ [])) refl;
}

first_array_ends : (limits : Limits) (frames : List Frame) (front : List ℕ) (t : State) → FirstPlace limits (Array []) frames front → array_end frames ≡ Some t → HoldsAt limits t (front ++ 93 ∷ [])
first_array_ends limits frames front t p h =
    let k = rw p.is at h in
    array_place limits [] p.outer front p.f p.g t p.outside p.inner p.fits (no_items (limits.levels - length p.outer) [] p.g (91 ∷ (p.g ++ 93 ∷ [])) refl p.spaced refl) p.whole k

first_object_ends : (limits : Limits) (frames : List Frame) (front : List ℕ) (t : State) → FirstPlace limits (OpenObject [] []) frames front → object_end frames ≡ Some t → HoldsAt limits t (front ++ 125 ∷ [])
first_object_ends limits frames front t p h =
    let k = rw p.is at h in
    object_place limits [] [] p.outer front p.f p.g t p.outside p.fits (no_members (limits.levels - length p.outer) [] [] p.g (123 ∷ (p.g ++ 125 ∷ [])) refl refl p.spaced refl) p.whole k

-- one more byte
pub step_holds : (limits : Limits) (e : Expect) (got : List ℕ) (frames : List Frame) (front : List ℕ) (b : ℕ) (t : State) → 0 < limits.members → Holds limits e got frames front → step_at limits e got frames b ≡ Some t
    → HoldsAt limits t (front ++ b ∷ [])
step_holds limits Object got frames front b t some p h = elim (tells (is_space b)) [
  | inl s ↦ let k = rw s at h in moved limits (at Object frames) t (front ++ b ∷ []) k (p.0, space_snoc front b p.1 s)
  | inr e0 ↦ elim (eqb_tells b 123) [
    | inl i ↦
        let k = rw (e0, i.0) at h in
        moved limits (at NameOrEnd (OpenObject [] [] ∷ frames)) t (front ++ b ∷ []) k
        (record { outer = []; f = front; g = []; is = ap (λ (l : List Frame). OpenObject [] [] ∷ l) p.0; outside = p.1; spaced = tt; whole = rw i.1 refl; fits = omega arith; inner = tt })
    | inr e1 ↦ let k = rw (e0, e1.0) at h in cc k
  ]
]
step_holds limits Value got frames front b t some p h = elim (tells (is_space b)) [
  | inl s ↦ let k = rw s at h in moved limits (at Value frames) t (front ++ b ∷ []) k (value_space limits frames front b p s)
  | inr e0 ↦ let k = rw e0 at h in value_holds limits frames front b t p k
]
step_holds limits ValueOrEnd got frames front b t some p h = elim (tells (is_space b)) [
  | inl s ↦ let k = rw s at h in moved limits (at ValueOrEnd frames) t (front ++ b ∷ []) k (first_space limits (Array []) frames front b p s)
  | inr e0 ↦ elim (eqb_tells b 93) [
    | inl i ↦ let k = rw (e0, i.0) at h in rw i.1 (first_array_ends limits frames front t p k)
    | inr e1 ↦ let k = rw (e0, e1.0) at h in value_holds limits frames front b t (first_value limits frames front p) k
  ]
]
step_holds limits Name got frames front b t some p h = elim (tells (is_space b)) [
  | inl s ↦ let k = rw s at h in moved limits (at Name frames) t (front ++ b ∷ []) k (name_space limits frames front b p s)
  | inr e0 ↦ elim (eqb_tells b 34) [
    | inl i ↦ let k = rw (e0, i.0) at h in moved limits (at (Text role.Name Start) frames) t (front ++ b ∷ []) k (front, [], p, none, rw i.1 refl)
    | inr e1 ↦ let k = rw (e0, e1.0) at h in cc k
  ]
]
step_holds limits NameOrEnd got frames front b t some p h = elim (tells (is_space b)) [
  | inl s ↦ let k = rw s at h in moved limits (at NameOrEnd frames) t (front ++ b ∷ []) k (first_space limits (OpenObject [] []) frames front b p s)
  | inr e0 ↦ elim (eqb_tells b 34) [
    | inl i ↦ let k = rw (e0, i.0) at h in moved limits (at (Text role.Name Start) frames) t (front ++ b ∷ []) k (front, [], first_name limits frames front some p, none, rw i.1 refl)
    | inr e1 ↦ elim (eqb_tells b 125) [
      | inl i ↦ let k = rw (e0, e1.0, i.0) at h in rw i.1 (first_object_ends limits frames front t p k)
      | inr e2 ↦ let k = rw (e0, e1.0, e2.0) at h in cc k
    ]
  ]
]
step_holds limits Colon got frames front b t some p h = elim (tells (is_space b)) [
  | inl s ↦ let k = rw s at h in moved limits (at Colon frames) t (front ++ b ∷ []) k (colon_space limits frames front b p s)
  | inr e0 ↦ elim (eqb_tells b 58) [
    | inl i ↦ let k = rw (e0, i.0) at h in moved limits (at Value frames) t (front ++ b ∷ []) k (rw i.1 (colon_value limits frames front p))
    | inr e1 ↦ let k = rw (e0, e1.0) at h in cc k
  ]
]
step_holds limits CommaOrEnd got frames front b t some p h = comma_holds limits frames front b t p h
step_holds limits End got frames front b t some p h = elim (tells (is_space b)) [
  | inl s ↦ let k = rw s at h in moved limits (at End frames) t (front ++ b ∷ []) k (refl, end_space limits frames front b p.1 s)
  | inr e0 ↦ let k = rw e0 at h in cc k
]
step_holds limits (Text role.Name piece) got frames front b t some p h =
    rw (p.4, append_assoc p.0 (34 ∷ p.1) (b ∷ [])) (name_text limits piece got frames p.0 p.1 b t (is_closing piece b) refl p.2 p.3 h)
step_holds limits (Text role.Value piece) got frames front b t some p h =
    rw (p.4, append_assoc p.0 (34 ∷ p.1) (b ∷ [])) (value_text limits piece got frames p.0 p.1 b t (is_closing piece b) refl p.2 p.3 h)
step_holds limits (Number q) got frames front b t some p h = rw p.3 (number_byte limits q got frames p.0 b t (number_step q b) refl p.1 p.2 h)
step_holds limits (Letters w place) got frames front b t some p h = rw p.4 (letter_holds limits w place frames p.0 b t p.1 p.2 p.3 h)

pub run_holds : (limits : Limits) (text : List ℕ) (st : State) (front : List ℕ) (t : State) → 0 < limits.members → HoldsAt limits st front → run limits st text ≡ Some t → HoldsAt limits t (front ++ text)
run_holds limits [] st front t some f h = rw (append-nil front) (moved limits st t front h f)
run_holds limits (b ∷ bs) st front t some f h =
    let c = then_case (λ (u : State). run limits u bs) (step limits st b) t h in
    let r = run_holds limits bs c.0 (front ++ b ∷ []) t some (step_holds limits st.expect st.got st.frames front b c.0 some f c.1) c.2 in
    rw append_assoc at r

pub front_holds : (limits : Limits) (text : List ℕ) (t : State) → 0 < limits.members → run limits start text ≡ Some t → HoldsAt limits t text
front_holds limits text t some h = run_holds limits text start [] t some (refl, tt) h

end_reads : (limits : Limits) (names : List (List ℕ)) (values : List Json) (text : List ℕ) → EndPlace limits (OpenObject names values ∷ []) text → IsReadingWithin limits text (members_of names values)
end_reads limits names values text p =
    let e : p.names ≡ names = let k = p.is in cc in
    let f : p.values ≡ values = let k = p.is in cc in
    record { before = p.before; inner = p.inner; after = p.after; begins = p.begins; names = p.names; values = p.values; is = rw (e, f) refl; spells = p.spells; ends = p.ends; whole = p.whole }

-- what takes the machine to its end is a reading
pub run_reads : (limits : Limits) (text : List ℕ) (names : List (List ℕ)) (values : List Json) → 0 < limits.members → run limits start text ≡ Some (ended names values) → IsReadingWithin limits text (members_of names values)
run_reads limits text names values some h = end_reads limits names values text (front_holds limits text (ended names values) some h).1
