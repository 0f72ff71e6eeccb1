-- The reader as a machine that takes one byte after the other (RFC 8259 sections 2 to 7).
use Rattle.std.specs.Prelude.{◌≡◌, ℕ, ◌+◌, ◌<◌, reverse, ◌==◌, ◌&&◌, ◌||◌, nat_lt, nat_le, Bool, true, false, List, [], ◌∷◌, ◌++◌, codes, length, slice_index, Option, Some, None, if◌then◌else◌, option_and_then}
use Rattle.usp_json.specs.declared.frame.Frame.{Frame}
use Rattle.usp_json.specs.declared.frame.Frame.TheVariants.{Array, Object as OpenObject}
use Rattle.usp_json.specs.declared.states.Expect.{Expect}
use Rattle.usp_json.specs.declared.states.Expect.TheVariants.{Object, Value, ValueOrEnd, Name, NameOrEnd, Colon, CommaOrEnd, End, Text, Number, Letters}
use Rattle.usp_json.specs.declared.states.Piece.{Piece}
use Rattle.usp_json.specs.declared.states.Piece.TheVariants.{Start, First, Second, Third, Fourth, Backslash, U}
use Rattle.usp_json.specs.declared.states.Role.{Role}
use Rattle.usp_json.specs.declared.states.Role.TheVariants as role
use Rattle.usp_json.specs.declared.states.Word.{Word}
use Rattle.usp_json.specs.declared.states.Word.TheVariants as word
use Rattle.usp_json.specs.declared.value.Json.{Json}
use Rattle.usp_json.specs.declared.value.Json.TheVariants.{Null, Bool as Boolean, Num, Str}
use Rattle.usp_json.specs.declared.states.NumberPart.{NumberPart}
use Rattle.usp_json.specs.declared.fault.JsonFault.{JsonFault}
use Rattle.usp_json.specs.declared.fault.JsonFault.TheVariants.{Syntax, Duplicate, Deep, Many}
use Rattle.usp_json.specs.Entries.{array_of, object_of}
use Rattle.std.specs.Str.{IsUtf8}
use Rattle.usp_json.specs.Grammar.{is_space}
use Rattle.usp_json.specs.Number.{number_first, number_step, is_whole_number, is_number}
use Rattle.usp_json.specs.Pieces.{piece_step}
use Rattle.usp_json.specs.Spells.{Limits, has_name}
use Rattle.usp_json.specs.Signs.{quotation_mark, value_separator, name_separator, begin_array, end_array, begin_object, end_object, letter_f, letter_n, letter_t}

-- what comes next, the bytes of the text or number that is being read, and the open frames, the innermost first
pub record State : Type 0 where
  pub expect : Expect
  pub got : List ℕ
  pub frames : List Frame

abbrev pub at : Expect → List Frame → State
at expect frames = record { expect = expect; got = []; frames = frames }

abbrev pub letters_of : Word → List ℕ
letters_of word.Null = codes "null"
letters_of word.True = codes "true"
letters_of word.False = codes "false"

abbrev pub value_of_word : Word → Json
value_of_word word.Null = Null
value_of_word word.True = Boolean true
value_of_word word.False = Boolean false

-- a value goes into the frame that was opened last
abbrev pub put : Json → List Frame → List Frame
put value [] = []
put value (Array values ∷ outer) = Array (values ++ value ∷ []) ∷ outer
put value (OpenObject names values ∷ outer) = OpenObject names (values ++ value ∷ []) ∷ outer

abbrev pub after_value : Json → List Frame → State
after_value value frames = at CommaOrEnd (put value frames)

-- a frame may be opened inside these
abbrev pub opens : Limits → List Frame → Bool
opens limits frames = nat_le (length frames) limits.levels

-- a byte where a value may come
abbrev pub other_value : Limits → List Frame → ℕ → Option State
other_value limits frames b =
    if b == quotation_mark then Some (at (Text role.Value Start) frames)
    else (if b == begin_array then (if opens limits frames then Some (at ValueOrEnd (Array [] ∷ frames)) else None)
    else (if b == begin_object
    then (if opens limits frames then Some (at NameOrEnd (OpenObject [] [] ∷ frames)) else None)
    else (if b == letter_n then Some (at (Letters word.Null 1) frames)
    else (if b == letter_t then Some (at (Letters word.True 1) frames)
    else (if b == letter_f then Some (at (Letters word.False 1) frames) else None)))))

abbrev pub value_from : Limits → List Frame → ℕ → Option NumberPart → Option State
value_from limits frames b None = other_value limits frames b
value_from limits frames b (Some part) = Some (record { expect = Number part; got = b ∷ []; frames = frames })

abbrev pub value_step : Limits → List Frame → ℕ → Option State
value_step limits frames b = value_from limits frames b (number_first b)

abbrev pub array_end : List Frame → Option State
array_end [] = None
array_end (Array values ∷ outer) = Some (after_value (array_of values) outer)
array_end (OpenObject names values ∷ outer) = None

abbrev pub object_end : List Frame → Option State
object_end [] = None
object_end (Array values ∷ outer) = None
object_end (OpenObject names values ∷ []) = Some (at End (OpenObject names values ∷ []))
object_end (OpenObject names values ∷ frame ∷ outer) = Some (after_value (object_of names values) (frame ∷ outer))

abbrev pub comma : Limits → List Frame → Option State
comma limits [] = None
comma limits (Array values ∷ outer) = Some (at Value (Array values ∷ outer))
comma limits (OpenObject names values ∷ outer) =
    if nat_lt (length names) limits.members then Some (at Name (OpenObject names values ∷ outer)) else None

-- the closing quote of a text
abbrev pub text_end : Limits → Role → List ℕ → List Frame → Option State
text_end limits role.Value got frames = Some (after_value (Str got) frames)
text_end limits role.Name got [] = None
text_end limits role.Name got (Array values ∷ outer) = None
text_end limits role.Name got (OpenObject names values ∷ outer) =
    if limits.distinct && has_name got names then None
    else Some (at Colon (OpenObject (names ++ got ∷ []) values ∷ outer))

abbrev pub comma_step : Limits → List Frame → ℕ → Option State
comma_step limits frames b =
    if is_space b then Some (at CommaOrEnd frames)
    else (if b == value_separator then comma limits frames
    else (if b == end_array then array_end frames else (if b == end_object then object_end frames else None)))

abbrev pub is_closing : Piece → ℕ → Bool
is_closing Start b = b == quotation_mark
is_closing piece b = false

abbrev pub text_step : Limits → Role → Piece → List ℕ → List Frame → ℕ → Option State
text_step limits role piece got frames b =
    if is_closing piece b then text_end limits role got frames
    else option_and_then (λ r. Some (record { expect = Text role r.0; got = r.1; frames = frames }))
    (piece_step piece got b)

abbrev pub number_from : Limits → NumberPart → List ℕ → List Frame → ℕ → Option NumberPart → Option State
number_from limits part got frames b (Some next) =
    Some (record { expect = Number next; got = got ++ b ∷ []; frames = frames })
number_from limits part got frames b None =
    if is_whole_number part then comma_step limits (put (Num got) frames) b else None

abbrev pub letters_step : Word → ℕ → List Frame → ℕ → Option State
letters_step word place frames b =
    if slice_index (letters_of word) place == b then
    (if place + 1 == length (letters_of word) then Some (after_value (value_of_word word) frames)
    else Some (at (Letters word (place + 1)) frames))
    else None

abbrev pub step_at : Limits → Expect → List ℕ → List Frame → ℕ → Option State
step_at limits Object got frames b =
    if is_space b then Some (at Object frames)
    else (if b == begin_object then Some (at NameOrEnd (OpenObject [] [] ∷ frames)) else None)
step_at limits Value got frames b = if is_space b then Some (at Value frames) else value_step limits frames b
step_at limits ValueOrEnd got frames b =
    if is_space b then Some (at ValueOrEnd frames)
    else (if b == end_array then array_end frames else value_step limits frames b)
step_at limits Name got frames b =
    if is_space b then Some (at Name frames)
    else (if b == quotation_mark then Some (at (Text role.Name Start) frames) else None)
step_at limits NameOrEnd got frames b =
    if is_space b then Some (at NameOrEnd frames)
    else (if b == quotation_mark then Some (at (Text role.Name Start) frames)
    else (if b == end_object then object_end frames else None))
step_at limits Colon got frames b =
    if is_space b then Some (at Colon frames) else (if b == name_separator then Some (at Value frames) else None)
step_at limits CommaOrEnd got frames b = comma_step limits frames b
step_at limits End got frames b = if is_space b then Some (at End frames) else None
step_at limits (Text role piece) got frames b = text_step limits role piece got frames b
step_at limits (Number part) got frames b = number_from limits part got frames b (number_step part b)
step_at limits (Letters word place) got frames b = letters_step word place frames b

abbrev pub step : Limits → State → ℕ → Option State
step limits st b = step_at limits st.expect st.got st.frames b

abbrev pub run : Limits → State → List ℕ → Option State
run limits st [] = Some st
run limits st (b ∷ bs) = option_and_then (λ t. run limits t bs) (step limits st b)

-- before the first byte, and behind the outermost object
abbrev pub start : State
start = at Object []

abbrev pub ended : List (List ℕ) → List Json → State
ended names values = at End (OpenObject names values ∷ [])

-- the machine's state, from frames of which the outermost is first
abbrev pub state_of : Expect → List ℕ → List Frame → State
state_of expect got frames = record { expect = expect; got = got; frames = reverse frames }

-- a piece's numbers are those of digits
abbrev pub Fits : Piece → Type 0
Fits (First high) = high < 56320
Fits (Second high value) = (high < 56320) × (value < 16)
Fits (Third high value) = (high < 56320) × (value < 256)
Fits (Fourth high value) = (high < 56320) × (value < 4096)
Fits (Backslash high) = high < 56320
Fits (U high) = high < 56320
Fits _ = Unit {0}

-- what the bytes so far are
abbrev pub IsSound : Expect → List ℕ → Type 0
IsSound (Text kind piece) got = Fits piece × (is_closing piece quotation_mark ≡ true → IsUtf8 got)
IsSound (Number part) got = is_whole_number part ≡ true → is_number got ≡ true
IsSound (Letters word place) got = place < length (letters_of word)
IsSound _ got = Unit {0}

-- between texts, numbers and words
abbrev pub IsPlain : Expect → Type 0
IsPlain (Text kind piece) = ⊥
IsPlain (Number part) = ⊥
IsPlain (Letters word place) = ⊥
IsPlain _ = Unit {0}

-- the byte is refused for the number of levels, for that of members, or for an equal name
abbrev pub is_deep_at : Expect → ℕ → Bool
is_deep_at Value b = b == begin_array || b == begin_object
is_deep_at ValueOrEnd b = b == begin_array || b == begin_object
is_deep_at _ b = false

abbrev pub is_many_at : Expect → ℕ → Bool
is_many_at CommaOrEnd b = b == value_separator
is_many_at (Number part) b = is_whole_number part && b == value_separator
is_many_at _ b = false

abbrev pub is_duplicate_at : Expect → ℕ → Bool
is_duplicate_at (Text role.Name Start) b = b == quotation_mark
is_duplicate_at _ b = false

-- the fault of a byte that is refused
abbrev pub fault_of : Expect → ℕ → ℕ → JsonFault
fault_of expect b at =
    if is_deep_at expect b then Deep at
    else (if is_many_at expect b then Many at
    else (if is_duplicate_at expect b then Duplicate at else Syntax at))
