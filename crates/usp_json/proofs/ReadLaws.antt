-- The machine reads each spelling.
use Rattle.std.proofs.Common.{◌≡◌, ◌⊎◌, ℕ, suc, ◌+◌, ◌<◌, ◌≤◌, ◌==◌, Bool, true, false, ltb, List, [], ◌∷◌, ◌++◌, length, Some, None, inl, inr, refl, sym, ap, ap₂, ◌∙◌, arith, append_assoc, append-nil, le-leb, lt-ltb, length-append}
use Rattle.std.specs.Option.{option_and_then}
use Rattle.std.proofs.lemmas.Bool.Decides.{eqb_tells}
use Rattle.usp_json.specs.declared.value.Json.{Json}
use Rattle.usp_json.specs.declared.value.Json.TheVariants.{Null, Num, Str, Bool as Boolean}
use Rattle.usp_json.specs.declared.frame.Frame.{Frame}
use Rattle.usp_json.specs.declared.frame.Frame.TheVariants.{Array, Object as OpenObject}
use Rattle.usp_json.specs.declared.states.Expect.{Expect}
use Rattle.usp_json.specs.declared.states.Expect.TheVariants.{Object, Value, ValueOrEnd, Name, NameOrEnd, Colon, CommaOrEnd, End, Text, Number, Letters}
use Rattle.usp_json.specs.declared.states.NumberPart.{NumberPart}
use Rattle.usp_json.specs.declared.states.NumberPart.TheVariants as part
use Rattle.usp_json.specs.declared.states.Piece.{Piece}
use Rattle.usp_json.specs.declared.states.Piece.TheVariants.{Start, Last, LastButOne, LastButTwo, Letter, First, Second, Third, Fourth, Backslash, U}
use Rattle.usp_json.specs.declared.states.Role.{Role}
use Rattle.usp_json.specs.declared.states.Role.TheVariants as role
use Rattle.usp_json.specs.declared.states.Word.TheVariants as word
use Rattle.usp_json.specs.declared.value.Members.{Members}
use Rattle.usp_json.specs.Entries.{object_of, array_of}
use Rattle.usp_json.specs.Grammar.{is_space, IsSpace, IsNumber, SpellsText}
use Rattle.usp_json.specs.Number.{number_first, number_step, number_run, is_whole_number}
use Rattle.usp_json.specs.Pieces.{Read, piece_step, pieces_run}
use Rattle.usp_json.specs.Spells.{Limits, IsFresh, AreApart, word_of, Spells, null, boolean, number, string, array, object, SpellsArray, no_items, items, SpellsItems, last_item, more_items, SpellsPadded, padded, SpellsObject, no_members, members, SpellsMembers, last_member, more_members, SpellsMember, member, IsReadingWithin}
use Rattle.usp_json.specs.Machine.{State, at, put, after_value, opens, value_step, object_end, text_end, is_closing, step_at, step, run, start, ended}
use Rattle.usp_json.proofs.Numbers.{tells, then_case, number_reads}
use Rattle.usp_json.proofs.PieceLaws.{chars_run}

pub one_step : (limits : Limits) (st t : State) (b : ℕ) (bs : List ℕ) → step limits st b ≡ Some t → run limits st (b ∷ bs) ≡ run limits t bs
one_step limits st t b bs h = rw h refl

-- white space is passed over
abbrev Spaced : Limits → Expect → List Frame → Type 0
Spaced limits e frames = (b : ℕ) → is_space b ≡ true → step_at limits e [] frames b ≡ Some (at e frames)

pub spaces_run : (limits : Limits) (e : Expect) (frames : List Frame) (s rest : List ℕ) → Spaced limits e frames → IsSpace s → run limits (at e frames) (s ++ rest) ≡ run limits (at e frames) rest
spaces_run limits e frames [] rest p h = refl
spaces_run limits e frames (b ∷ s) rest p h = one_step limits (at e frames) (at e frames) b (s ++ rest) (p b h.0) ∙ spaces_run limits e frames s rest p h.1

-- a value may come
pub record TakesValue (limits : Limits) (e : Expect) (frames : List Frame) : Type 0 where
  pub spaced : Spaced limits e frames
  pub starts : (b : ℕ) → is_space b ≡ false → (b == 93) ≡ false → step_at limits e [] frames b ≡ value_step limits frames b

pub value_takes : (limits : Limits) (frames : List Frame) → TakesValue limits Value frames
value_takes limits frames = record { spaced = λ b h. rw h refl; starts = λ b h n. rw h refl }

pub value_or_end_takes : (limits : Limits) (frames : List Frame) → TakesValue limits ValueOrEnd frames
value_or_end_takes limits frames = record { spaced = λ b h. rw h refl; starts = λ b h n. rw (h, n) refl }

-- a name may come
pub record TakesName (limits : Limits) (e : Expect) (frames : List Frame) : Type 0 where
  pub spaced : Spaced limits e frames
  pub quote : step_at limits e [] frames 34 ≡ Some (at (Text role.Name Start) frames)

pub name_takes : (limits : Limits) (frames : List Frame) → TakesName limits Name frames
name_takes limits frames = record { spaced = λ b h. rw h refl; quote = refl }

pub name_or_end_takes : (limits : Limits) (frames : List Frame) → TakesName limits NameOrEnd frames
name_or_end_takes limits frames = record { spaced = λ b h. rw h refl; quote = refl }

pub comma_spaced : (limits : Limits) (frames : List Frame) → Spaced limits CommaOrEnd frames
comma_spaced limits frames b h = rw h refl

-- what may stand behind a value
abbrev Follows : ℕ → Type 0
Follows b = (is_space b ≡ true) ⊎ ((b ≡ 44) ⊎ ((b ≡ 93) ⊎ (b ≡ 125)))

pub record Begins (text : List ℕ) : Type 0 where
  pub b : ℕ
  pub rest : List ℕ
  pub is : text ≡ b ∷ rest
  pub follows : Follows b

begins_comma : (rest : List ℕ) → Begins (44 ∷ rest)
begins_comma rest = record { b = 44; rest = rest; is = refl; follows = inr (inl refl) }

pub begins_bracket : (rest : List ℕ) → Begins (93 ∷ rest)
begins_bracket rest = record { b = 93; rest = rest; is = refl; follows = inr (inr (inl refl)) }

pub begins_brace : (rest : List ℕ) → Begins (125 ∷ rest)
begins_brace rest = record { b = 125; rest = rest; is = refl; follows = inr (inr (inr refl)) }

behind_space : (s rest : List ℕ) → IsSpace s → Begins rest → Begins (s ++ rest)
behind_space [] rest h b = b
behind_space (c ∷ s) rest h b = record { b = c; rest = s ++ rest; is = refl; follows = inl h.0 }

pub space_cases : (b : ℕ) → is_space b ≡ true → (b ≡ 32) ⊎ ((b ≡ 9) ⊎ ((b ≡ 10) ⊎ (b ≡ 13)))
space_cases b h = elim (eqb_tells b 32) [
  | inl i ↦ inl i.1
  | inr p ↦ elim (eqb_tells b 9) [
    | inl i ↦ inr (inl i.1)
    | inr q ↦ elim (eqb_tells b 10) [
      | inl i ↦ inr (inr (inl i.1))
      | inr r ↦ elim (eqb_tells b 13) [ inl i ↦ inr (inr (inr i.1)) | inr s ↦ let k = rw (p.0, q.0, r.0, s.0) at h in cc k ]
    ]
  ]
]

-- ---- texts

pub not_closing : (p : Piece) (got : List ℕ) (b : ℕ) (r : Read) → piece_step p got b ≡ Some r → is_closing p b ≡ false
not_closing Start got b r h = elim (eqb_tells b 34) [ inl i ↦ let k = rw i.0 at h in cc k | inr n ↦ n.0 ]
not_closing Last got b r h = refl
not_closing (LastButOne least most) got b r h = refl
not_closing (LastButTwo least most) got b r h = refl
not_closing Letter got b r h = refl
not_closing (First high) got b r h = refl
not_closing (Second high value) got b r h = refl
not_closing (Third high value) got b r h = refl
not_closing (Fourth high value) got b r h = refl
not_closing (Backslash high) got b r h = refl
not_closing (U high) got b r h = refl

abbrev pub text_state : Role → Piece → List ℕ → List Frame → State
text_state kind p got frames = record { expect = Text kind p; got = got; frames = frames }

pub text_one : (limits : Limits) (kind : Role) (frames : List Frame) (p : Piece) (got : List ℕ) (b : ℕ) (r : Read) → piece_step p got b ≡ Some r
    → step limits (text_state kind p got frames) b ≡ Some (text_state kind r.0 r.1 frames)
text_one limits kind frames p got b r h = rw (not_closing p got b r h, h) refl

pub text_run : (limits : Limits) (kind : Role) (frames : List Frame) (p : Piece) (got bs rest : List ℕ) (r : Read) → pieces_run p got bs ≡ Some r
    → run limits (text_state kind p got frames) (bs ++ rest) ≡ run limits (text_state kind r.0 r.1 frames) rest
text_run limits kind frames p got [] rest r h = let e : (p, got) ≡ r = cc in ap (λ (q : Read). run limits (text_state kind q.0 q.1 frames) rest) e
text_run limits kind frames p got (b ∷ bs) rest r h =
    let c = then_case (λ (u : Read). pieces_run u.0 u.1 bs) (piece_step p got b) r h in
    one_step limits (text_state kind p got frames) (text_state kind c.0.0 c.0.1 frames) b (bs ++ rest) (text_one limits kind frames p got b c.0 c.1) ∙ text_run limits kind frames c.0.0 c.0.1 bs rest r c.2

pub inner_run : (limits : Limits) (kind : Role) (frames : List Frame) (bytes inner rest : List ℕ) → pieces_run Start [] inner ≡ Some (Start, bytes)
    → run limits (at (Text kind Start) frames) (inner ++ 34 ∷ rest) ≡ option_and_then (λ t. run limits t rest) (text_end limits kind bytes frames)
inner_run limits kind frames bytes inner rest h = text_run limits kind frames Start [] inner (34 ∷ rest) (Start, bytes) h

text_reads : (limits : Limits) (kind : Role) (frames : List Frame) (bytes text rest : List ℕ) → (s : SpellsText bytes text)
    → run limits (at (Text kind Start) frames) (s.0 ++ 34 ∷ rest) ≡ option_and_then (λ t. run limits t rest) (text_end limits kind bytes frames)
text_reads limits kind frames bytes text rest s =
    inner_run limits kind frames bytes s.0 rest (ap (λ l. pieces_run Start [] l) (sym (append-nil s.0)) ∙ chars_run bytes s.0 s.2 [] [])

-- ---- numbers

stops : (p : NumberPart) → (number_step p 32 ≡ None) × (number_step p 9 ≡ None) × (number_step p 10 ≡ None) × (number_step p 13 ≡ None) × (number_step p 44 ≡ None) × (number_step p 93 ≡ None) × (number_step p 125 ≡ None)
stops part.Minus = (refl, refl, refl, refl, refl, refl, refl)
stops part.Zero = (refl, refl, refl, refl, refl, refl, refl)
stops part.Whole = (refl, refl, refl, refl, refl, refl, refl)
stops part.Point = (refl, refl, refl, refl, refl, refl, refl)
stops part.Fraction = (refl, refl, refl, refl, refl, refl, refl)
stops part.Mark = (refl, refl, refl, refl, refl, refl, refl)
stops part.Sign = (refl, refl, refl, refl, refl, refl, refl)
stops part.Exponent = (refl, refl, refl, refl, refl, refl, refl)

stops_at : (p : NumberPart) (b : ℕ) → Follows b → number_step p b ≡ None
stops_at p b h = elim h [
  | inl s ↦ elim (space_cases b s) [
    | inl e ↦ rw e (stops p).0
    | inr r ↦ elim r [
      | inl e ↦ rw e (stops p).1
      | inr q ↦ elim q [ inl e ↦ rw e (stops p).2 | inr e ↦ rw e (stops p).3 ]
    ]
  ]
  | inr r ↦ elim r [
    | inl e ↦ rw e (stops p).4
    | inr q ↦ elim q [ inl e ↦ rw e (stops p).5 | inr e ↦ rw e (stops p).6 ]
  ]
]

abbrev pub number_state : NumberPart → List ℕ → List Frame → State
number_state p got frames = record { expect = Number p; got = got; frames = frames }

number_one : (limits : Limits) (frames : List Frame) (p q : NumberPart) (got : List ℕ) (b : ℕ) → number_step p b ≡ Some q
    → step limits (number_state p got frames) b ≡ Some (number_state q (got ++ b ∷ []) frames)
number_one limits frames p q got b h = rw h refl

pub number_lift : (limits : Limits) (frames : List Frame) (p q : NumberPart) (got bs rest : List ℕ) → number_run p bs ≡ Some q
    → run limits (number_state p got frames) (bs ++ rest) ≡ run limits (number_state q (got ++ bs) frames) rest
number_lift limits frames p q got [] rest h =
    let e : p ≡ q = cc in
    rw (append-nil got) (ap (λ (r : NumberPart). run limits (number_state r got frames) rest) e)
number_lift limits frames p q got (b ∷ bs) rest h =
    let c = then_case (λ (u : NumberPart). number_run u bs) (number_step p b) q h in
    one_step limits (number_state p got frames) (number_state c.0 (got ++ b ∷ []) frames) b (bs ++ rest) (number_one limits frames p c.0 got b c.1)
    ∙ (number_lift limits frames c.0 q (got ++ b ∷ []) bs rest c.2 ∙ ap (λ l. run limits (number_state q l frames) rest) (append_assoc got (b ∷ []) bs))

pub number_end : (limits : Limits) (frames : List Frame) (q : NumberPart) (got rest : List ℕ) → is_whole_number q ≡ true → Begins rest
    → run limits (number_state q got frames) rest ≡ run limits (at CommaOrEnd (put (Num got) frames)) rest
number_end limits frames q got rest w b = rw (b.is, stops_at q b.b b.follows, w) refl

-- a number begins with no white space and no bracket
number_begins : (b : ℕ) (p : NumberPart) → number_first b ≡ Some p → (is_space b ≡ false) × ((b == 93) ≡ false)
number_begins b p h = (
  elim (tells (is_space b)) [
    | inl s ↦ elim (space_cases b s) [
      | inl e ↦ let k = rw e at h in cc k
      | inr r ↦ elim r [
        | inl e ↦ let k = rw e at h in cc k
        | inr q ↦ elim q [ inl e ↦ let k = rw e at h in cc k | inr e ↦ let k = rw e at h in cc k ]
      ]
    ]
    | inr n ↦ n
  ],
  elim (eqb_tells b 93) [ inl i ↦ let k = rw i.1 at h in cc k | inr n ↦ n.0 ],
)

number_value : (limits : Limits) (e : Expect) (frames : List Frame) (text rest : List ℕ) → TakesValue limits e frames → IsNumber text → Begins rest
    → run limits (at e frames) (text ++ rest) ≡ run limits (at CommaOrEnd (put (Num text) frames)) rest
number_value limits e frames text rest t n b =
    let r = number_reads text n in
    let first = number_begins r.b r.p r.first in
    rw r.spelled
    (one_step limits (at e frames) (number_state r.p (r.b ∷ []) frames) r.b (r.bs ++ rest) (t.starts r.b first.0 first.1 ∙ rw r.first refl)
    ∙ (number_lift limits frames r.p r.q (r.b ∷ []) r.bs rest r.run ∙ number_end limits frames r.q (r.b ∷ r.bs) rest r.holds b))

-- ---- values

word_reads : (limits : Limits) (e : Expect) (frames : List Frame) (rest : List ℕ) (b : Bool) → TakesValue limits e frames
    → run limits (at e frames) (word_of b ++ rest) ≡ run limits (at CommaOrEnd (put (Boolean b) frames)) rest
word_reads limits e frames rest true t = one_step limits (at e frames) (at (Letters word.True 1) frames) 116 (114 ∷ 117 ∷ 101 ∷ rest) (t.starts 116 refl refl)
word_reads limits e frames rest false t = one_step limits (at e frames) (at (Letters word.False 1) frames) 102 (97 ∷ 108 ∷ 115 ∷ 101 ∷ rest) (t.starts 102 refl refl)

opens_true : (limits : Limits) (frames : List Frame) → length frames ≤ limits.levels → opens limits frames ≡ true
opens_true limits frames h = le-leb (length frames) limits.levels h

opens_array : (limits : Limits) (e : Expect) (frames : List Frame) → TakesValue limits e frames → length frames ≤ limits.levels → step_at limits e [] frames 91 ≡ Some (at ValueOrEnd (Array [] ∷ frames))
opens_array limits e frames t h = t.starts 91 refl refl ∙ rw (opens_true limits frames h) refl

opens_object : (limits : Limits) (e : Expect) (frames : List Frame) → TakesValue limits e frames → length frames ≤ limits.levels
    → step_at limits e [] frames 123 ≡ Some (at NameOrEnd (OpenObject [] [] ∷ frames))
opens_object limits e frames t h = t.starts 123 refl refl ∙ rw (opens_true limits frames h) refl

members_some : (limits : Limits) (n : ℕ) (ns : List (List ℕ)) (vs : List Json) (text : List ℕ) → SpellsMembers limits n ns vs text → 0 < length ns
members_some limits _ _ _ _ (last_member n name value text s) = omega arith
members_some limits _ _ _ _ (more_members n name value names values front back text s t e) = omega arith

named : (limits : Limits) (name : List ℕ) (names : List (List ℕ)) (values : List Json) (outer : List Frame) → IsFresh limits name names
    → text_end limits role.Name name (OpenObject names values ∷ outer) ≡ Some (at Colon (OpenObject (names ++ name ∷ []) values ∷ outer))
named limits name names values outer h = rw h refl

same : (limits : Limits) (frames : List Frame) (rest : List ℕ) (v w : Json) → v ≡ w → run limits (at CommaOrEnd (put w frames)) rest ≡ run limits (at CommaOrEnd (put v frames)) rest
same limits frames rest v w is = ap (λ (u : Json). run limits (at CommaOrEnd (put u frames)) rest) (sym is)

mutual
  pub value_reads : (limits : Limits) (n : ℕ) (v : Json) (text : List ℕ) → Spells limits n v text → (e : Expect) (frame : Frame) (outer : List Frame) (rest : List ℕ) → TakesValue limits e (frame ∷ outer)
      → n + length outer ≤ limits.levels → Begins rest → run limits (at e (frame ∷ outer)) (text ++ rest) ≡ run limits (at CommaOrEnd (put v (frame ∷ outer))) rest
  value_reads limits _ _ _ (null n v text is spelled) e frame outer rest t room b =
      rw spelled (one_step limits (at e (frame ∷ outer)) (at (Letters word.Null 1) (frame ∷ outer)) 110 (117 ∷ 108 ∷ 108 ∷ rest) (t.starts 110 refl refl) ∙ same limits (frame ∷ outer) rest v Null is)
  value_reads limits _ _ _ (boolean n v text k is spelled) e frame outer rest t room b = rw spelled (word_reads limits e (frame ∷ outer) rest k t ∙ same limits (frame ∷ outer) rest v (Boolean k) is)
  value_reads limits _ _ _ (number n v text is spelled) e frame outer rest t room b = number_value limits e (frame ∷ outer) text rest t spelled b ∙ same limits (frame ∷ outer) rest v (Num text) is
  value_reads limits _ _ _ (string n v text bytes is spelled) e frame outer rest t room b =
      rw spelled.1 (ap (λ l. run limits (at e (frame ∷ outer)) (34 ∷ l)) (append_assoc spelled.0 (34 ∷ []) rest)
      ∙ (one_step limits (at e (frame ∷ outer)) (at (Text role.Value Start) (frame ∷ outer)) 34 (spelled.0 ++ 34 ∷ rest) (t.starts 34 refl refl)
      ∙ (text_reads limits role.Value (frame ∷ outer) bytes text rest spelled ∙ same limits (frame ∷ outer) rest v (Str bytes) is)))
  value_reads limits _ _ _ (array n v text values is inside) e frame outer rest t room b =
      array_reads limits n values text inside e frame outer rest t (omega arith) ∙ same limits (frame ∷ outer) rest v (array_of values) is
  value_reads limits _ _ _ (object n v text names values is inside) e frame outer rest t room b =
      object_reads limits n names values text inside (at e (frame ∷ outer)) (frame ∷ outer) rest (opens_object limits e (frame ∷ outer) t (omega arith)) (omega arith)
      ∙ same limits (frame ∷ outer) rest v (object_of names values) is

  array_reads : (limits : Limits) (n : ℕ) (vs : List Json) (text : List ℕ) → SpellsArray limits n vs text → (e : Expect) (frame : Frame) (outer : List Frame) (rest : List ℕ) → TakesValue limits e (frame ∷ outer)
      → n + suc (length outer) ≤ limits.levels → run limits (at e (frame ∷ outer)) (text ++ rest) ≡ run limits (after_value (array_of vs) (frame ∷ outer)) rest
  array_reads limits _ _ _ (no_items n vs space text none h spelled) e frame outer rest t room =
      rw spelled (ap (λ l. run limits (at e (frame ∷ outer)) (91 ∷ l)) (append_assoc space (93 ∷ []) rest)
      ∙ (one_step limits (at e (frame ∷ outer)) (at ValueOrEnd (Array [] ∷ frame ∷ outer)) 91 (space ++ 93 ∷ rest) (opens_array limits e (frame ∷ outer) t (omega arith))
      ∙ (spaces_run limits ValueOrEnd (Array [] ∷ frame ∷ outer) space (93 ∷ rest) (value_or_end_takes limits (Array [] ∷ frame ∷ outer)).spaced h
      ∙ same limits (frame ∷ outer) rest (array_of vs) (array_of []) (ap array_of none))))
  array_reads limits _ _ _ (items n vs inner text inside spelled) e frame outer rest t room =
      rw spelled (ap (λ l. run limits (at e (frame ∷ outer)) (91 ∷ l)) (append_assoc inner (93 ∷ []) rest)
      ∙ (one_step limits (at e (frame ∷ outer)) (at ValueOrEnd (Array [] ∷ frame ∷ outer)) 91 (inner ++ 93 ∷ rest) (opens_array limits e (frame ∷ outer) t (omega arith))
      ∙ items_read limits n vs inner inside ValueOrEnd [] (frame ∷ outer) rest (value_or_end_takes limits (Array [] ∷ frame ∷ outer)) room))

  items_read : (limits : Limits) (n : ℕ) (vs : List Json) (text : List ℕ) → SpellsItems limits n vs text → (e : Expect) (before : List Json) (frames : List Frame) (rest : List ℕ)
      → TakesValue limits e (Array before ∷ frames) → n + length frames ≤ limits.levels → run limits (at e (Array before ∷ frames)) (text ++ 93 ∷ rest) ≡ run limits (after_value (array_of (before ++ vs)) frames) rest
  items_read limits _ _ _ (last_item n v text is) e before frames rest t room = padded_reads limits n v text is e (Array before) frames (93 ∷ rest) t room (begins_bracket rest)
  items_read limits _ _ _ (more_items n v vs front back text is those spelled) e before frames rest t room =
      rw spelled (ap (run limits (at e (Array before ∷ frames))) (append_assoc front (44 ∷ back) (93 ∷ rest))
      ∙ (padded_reads limits n v front is e (Array before) frames (44 ∷ (back ++ 93 ∷ rest)) t room (begins_comma (back ++ 93 ∷ rest))
      ∙ (items_read limits n vs back those Value (before ++ v ∷ []) frames rest (value_takes limits (Array (before ++ v ∷ []) ∷ frames)) room
      ∙ ap (λ l. run limits (after_value (array_of l) frames) rest) (append_assoc before (v ∷ []) vs))))

  padded_reads : (limits : Limits) (n : ℕ) (v : Json) (text : List ℕ) → SpellsPadded limits n v text → (e : Expect) (frame : Frame) (outer : List Frame) (rest : List ℕ) → TakesValue limits e (frame ∷ outer)
      → n + length outer ≤ limits.levels → Begins rest → run limits (at e (frame ∷ outer)) (text ++ rest) ≡ run limits (at CommaOrEnd (put v (frame ∷ outer))) rest
  padded_reads limits _ _ _ (padded n v before inner after text hb is ha spelled) e frame outer rest t room b =
      rw spelled (ap (run limits (at e (frame ∷ outer))) (append_assoc before (inner ++ after) rest ∙ ap (λ l. before ++ l) (append_assoc inner after rest))
      ∙ (spaces_run limits e (frame ∷ outer) before (inner ++ (after ++ rest)) t.spaced hb
      ∙ (value_reads limits n v inner is e frame outer (after ++ rest) t room (behind_space after rest ha b)
      ∙ spaces_run limits CommaOrEnd (put v (frame ∷ outer)) after rest (comma_spaced limits (put v (frame ∷ outer))) ha)))

  object_reads : (limits : Limits) (n : ℕ) (ns : List (List ℕ)) (vs : List Json) (text : List ℕ) → SpellsObject limits n ns vs text → (st : State) (frames : List Frame) (rest : List ℕ)
      → step limits st 123 ≡ Some (at NameOrEnd (OpenObject [] [] ∷ frames)) → n + length frames ≤ limits.levels
      → run limits st (text ++ rest) ≡ option_and_then (λ t. run limits t rest) (object_end (OpenObject ns vs ∷ frames))
  object_reads limits _ _ _ _ (no_members n ns vs space text none empty h spelled) st frames rest begin room =
      rw spelled (ap (λ l. run limits st (123 ∷ l)) (append_assoc space (125 ∷ []) rest)
      ∙ (one_step limits st (at NameOrEnd (OpenObject [] [] ∷ frames)) 123 (space ++ 125 ∷ rest) begin
      ∙ (spaces_run limits NameOrEnd (OpenObject [] [] ∷ frames) space (125 ∷ rest) (name_or_end_takes limits (OpenObject [] [] ∷ frames)).spaced h
      ∙ ap₂ (λ (l : List (List ℕ)) (k : List Json). option_and_then (λ t. run limits t rest) (object_end (OpenObject l k ∷ frames))) (sym none) (sym empty))))
  object_reads limits _ _ _ _ (members n ns vs inner text inside apart few spelled) st frames rest begin room =
      rw spelled (ap (λ l. run limits st (123 ∷ l)) (append_assoc inner (125 ∷ []) rest)
      ∙ (one_step limits st (at NameOrEnd (OpenObject [] [] ∷ frames)) 123 (inner ++ 125 ∷ rest) begin
      ∙ members_read limits n ns vs inner inside NameOrEnd [] [] frames rest (name_or_end_takes limits (OpenObject [] [] ∷ frames)) room apart (omega arith)))

  members_read : (limits : Limits) (n : ℕ) (ns : List (List ℕ)) (vs : List Json) (text : List ℕ) → SpellsMembers limits n ns vs text → (e : Expect) (names : List (List ℕ)) (values : List Json) (frames : List Frame)
      (rest : List ℕ) → TakesName limits e (OpenObject names values ∷ frames) → n + length frames ≤ limits.levels → AreApart limits names ns → length names + length ns ≤ limits.members
      → run limits (at e (OpenObject names values ∷ frames)) (text ++ 125 ∷ rest) ≡ option_and_then (λ t. run limits t rest) (object_end (OpenObject (names ++ ns) (values ++ vs) ∷ frames))
  members_read limits _ _ _ _ (last_member n name v text is) e names values frames rest t room apart few =
      member_reads limits n name v text is e names values frames (125 ∷ rest) t room apart.0 (begins_brace rest)
  members_read limits _ _ _ _ (more_members n name v ns vs front back text is those spelled) e names values frames rest t room apart few =
      let more : ltb (length (names ++ name ∷ [])) limits.members ≡ true = lt-ltb (length (names ++ name ∷ [])) limits.members (omega (arith, length-append names (name ∷ []), members_some limits n ns vs back those)) in
      let now = at CommaOrEnd (OpenObject (names ++ name ∷ []) (values ++ v ∷ []) ∷ frames) in
      let next = at Name (OpenObject (names ++ name ∷ []) (values ++ v ∷ []) ∷ frames) in
      rw spelled (ap (run limits (at e (OpenObject names values ∷ frames))) (append_assoc front (44 ∷ back) (125 ∷ rest))
      ∙ (member_reads limits n name v front is e names values frames (44 ∷ (back ++ 125 ∷ rest)) t room apart.0 (begins_comma (back ++ 125 ∷ rest))
      ∙ (one_step limits now next 44 (back ++ 125 ∷ rest) (rw more refl)
      ∙ (members_read limits n ns vs back those Name (names ++ name ∷ []) (values ++ v ∷ []) frames rest (name_takes limits (OpenObject (names ++ name ∷ []) (values ++ v ∷ []) ∷ frames)) room apart.1
      (omega (arith, length-append names (name ∷ [])))
      ∙ ap₂ (λ (l : List (List ℕ)) (k : List Json). option_and_then (λ t. run limits t rest) (object_end (OpenObject l k ∷ frames))) (append_assoc names (name ∷ []) ns) (append_assoc values (v ∷ []) vs)))))

  member_reads : (limits : Limits) (n : ℕ) (name : List ℕ) (v : Json) (text : List ℕ) → SpellsMember limits n name v text → (e : Expect) (names : List (List ℕ)) (values : List Json) (frames : List Frame)
      (rest : List ℕ) → TakesName limits e (OpenObject names values ∷ frames) → n + length frames ≤ limits.levels → IsFresh limits name names → Begins rest
      → run limits (at e (OpenObject names values ∷ frames)) (text ++ rest) ≡ run limits (at CommaOrEnd (OpenObject (names ++ name ∷ []) (values ++ v ∷ []) ∷ frames)) rest
  member_reads limits _ _ _ _ (member n name v before spelled after back text hb is ha value whole) e names values frames rest t room fresh b =
      let fs = OpenObject names values ∷ frames in
      let gs = OpenObject (names ++ name ∷ []) values ∷ frames in
      let cut : text ++ rest ≡ before ++ 34 ∷ (is.0 ++ 34 ∷ (after ++ 58 ∷ (back ++ rest))) =
      rw (
        whole,
        is.1,
        append_assoc before ((34 ∷ (is.0 ++ 34 ∷ [])) ++ (after ++ 58 ∷ back)) rest,
        append_assoc (is.0 ++ 34 ∷ []) (after ++ 58 ∷ back) rest,
        append_assoc is.0 (34 ∷ []) ((after ++ 58 ∷ back) ++ rest),
        append_assoc after (58 ∷ back) rest,
      )
      refl
      in
      rw cut (spaces_run limits e fs before (34 ∷ (is.0 ++ 34 ∷ (after ++ 58 ∷ (back ++ rest)))) t.spaced hb
      ∙ (one_step limits (at e fs) (at (Text role.Name Start) fs) 34 (is.0 ++ 34 ∷ (after ++ 58 ∷ (back ++ rest))) t.quote
      ∙ (text_reads limits role.Name fs name spelled (after ++ 58 ∷ (back ++ rest)) is
      ∙ (ap (option_and_then (λ t. run limits t (after ++ 58 ∷ (back ++ rest)))) (named limits name names values frames fresh)
      ∙ (spaces_run limits Colon gs after (58 ∷ (back ++ rest)) (λ b h. rw h refl) ha
      ∙ padded_reads limits n v back value Value (OpenObject (names ++ name ∷ []) values) frames rest (value_takes limits gs) room b)))))

-- a reading takes the machine to its end
pub reading_runs : (limits : Limits) (text : List ℕ) (m : Members) → (r : IsReadingWithin limits text m) → run limits start text ≡ Some (ended r.names r.values)
reading_runs limits text m r =
    rw r.whole (spaces_run limits Object [] r.before (r.inner ++ r.after) (λ b h. rw h refl) r.begins
    ∙ (object_reads limits limits.levels r.names r.values r.inner r.spells start [] r.after refl (omega arith)
    ∙ (ap (run limits (ended r.names r.values)) (sym (append-nil r.after)) ∙ spaces_run limits End (OpenObject r.names r.values ∷ []) r.after [] (λ b h. rw h refl) r.ends)))
