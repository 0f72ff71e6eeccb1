-- Where a text stops being the front of an object's text (RFC 8259 section 4), and which limit (section 9) forbids the
-- byte.
use Rattle.std.specs.Prelude.{◌≡◌, ◌⊎◌, ℕ, ◌+◌, ◌<◌, ◌≤◌, List, length, take, slice_index}
use Rattle.usp_json.specs.declared.fault.JsonFault.{JsonFault}
use Rattle.usp_json.specs.declared.fault.JsonFault.TheVariants.{Syntax, Duplicate, Deep, Many, NoMemory}
use Rattle.usp_json.specs.declared.value.Members.{Members}
use Rattle.usp_json.specs.Spells.{Limits, IsReading, IsViable, IsViableWithin, with_a_level_more, with_a_member_more, with_equal_names}
use Rattle.usp_json.specs.Signs.{quotation_mark, value_separator, begin_array, begin_object}

-- the text has no reading: the bytes before that place have a continuation that is read, and with the byte there they
-- have none
pub record StopsAt (text : List ℕ) (at : ℕ) : Type 0 where
  pub no_reading : (members : Members) → ¬ (IsReading text members)
  pub within : at ≤ length text
  pub front : IsViable (take at text)
  pub stops : at < length text → ¬ (IsViable (take (at + 1) text))

-- the bytes up to and with that place go on where the limits are those
abbrev pub GoesOnWithin : Limits → List ℕ → ℕ → Type 0
GoesOnWithin limits text at = (at < length text) × IsViableWithin limits (take (at + 1) text)

-- an opening bracket, which only the number of levels forbids
abbrev pub IsTooDeep : List ℕ → ℕ → Type 0
IsTooDeep text at =
    ((slice_index text at ≡ begin_array) ⊎ (slice_index text at ≡ begin_object))
    × GoesOnWithin with_a_level_more text at

-- a comma, which only the number of members forbids
abbrev pub IsTooMany : List ℕ → ℕ → Type 0
IsTooMany text at = (slice_index text at ≡ value_separator) × GoesOnWithin with_a_member_more text at

-- a quote, which only an equal name forbids
abbrev pub IsDuplicate : List ℕ → ℕ → Type 0
IsDuplicate text at = (slice_index text at ≡ quotation_mark) × GoesOnWithin with_equal_names text at

-- only the syntax forbids the byte
abbrev pub IsOnlySyntax : List ℕ → ℕ → Type 0
IsOnlySyntax text at = (¬ (IsTooDeep text at)) × (¬ (IsTooMany text at)) × (¬ (IsDuplicate text at))

-- what each fault says of the text; want of memory is free
abbrev pub RefusesJson : JsonFault → List ℕ → Type 0
RefusesJson (Syntax at) text = StopsAt text at × IsOnlySyntax text at
RefusesJson (Duplicate at) text = StopsAt text at × IsDuplicate text at
RefusesJson (Deep at) text = StopsAt text at × IsTooDeep text at
RefusesJson (Many at) text = StopsAt text at × IsTooMany text at
RefusesJson NoMemory text = Unit {0}
