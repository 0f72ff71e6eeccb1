-- The heads that bytes hold, however they come.
use Rattle.std.specs.Prelude.{◌≡◌, ◌≤◌, ◌<◌, ◌++◌, ℕ, Bool, true, List, [], take, length, Option, Some, None}
use Rattle.std.specs.Io.KnownBytes.{IsAtEnd, prepend_known}
use Rattle.httparse.specs.Grammar.{NeverHasRequest, ReadsRequest, RequestHead, print_request}
use Rattle.usp_base.specs.Outside.{Rose}
use Rattle.usp_http.specs.Fronts.{HasManyFields, IsUnfinished}
use Rattle.usp_http.specs.Heads.{head_of}
use Rattle.usp_http.specs.declared.head.Head.{Head}
use Rattle.usp_http.specs.declared.limits.TheConstants.{MAX_FIELDS, MAX_HEAD}
use Rattle.usp_http.specs.declared.next.HeadFault.{HeadFault}
use Rattle.usp_http.specs.declared.next.HeadFault.TheVariants as fault
use Rattle.usp_http.specs.declared.next.Next.{Next}
use Rattle.usp_http.specs.declared.next.Next.TheVariants as next

-- Why no more bytes were read: none were wanted, a read answered 0, or a read failed.
pub data Stop : Type 0 where
  enough over broken : Stop

abbrev pub Stops : Stop → (ended : Bool) → (left : Option (List ℕ)) → (before now : ℕ) → Type 0
Stops enough ended left before now = Unit {0}
Stops over ended left before now = (ended ≡ true) × IsAtEnd left
Stops broken ended left before now = Rose before now

-- as many bytes as a head may have
abbrev pub front : List ℕ → List ℕ
front rest = take MAX_HEAD rest

-- The rest begins with a head that is no longer and has no more fields than it may, and goes on with what is after it.
pub record IsHead (head : Head) (rest after : List ℕ) : Type 0 where
  pub whole : RequestHead
  pub reads : ReadsRequest rest whole after
  pub short : length (print_request whole) ≤ MAX_HEAD
  pub few : length whole.fields ≤ MAX_FIELDS
  pub parts : head ≡ head_of whole

-- There is no head in the bytes, and one may come with the bytes behind them.
abbrev pub IsOpen : List ℕ → Type 0
IsOpen rest = IsUnfinished rest × (length rest < MAX_HEAD)

-- What is found in the rest of the bytes, and what is left of them. Where they end inside a target, no head may come,
-- but nothing tells that yet. Want of memory may come at any time.
abbrev pub Finds : Next → (rest : List ℕ) → Stop → (after : List ℕ) → Type 0
Finds (next.Found head) rest stop after = IsHead head rest after
Finds next.Ended rest stop after = (rest ≡ []) × (stop ≡ over) × (after ≡ rest)
Finds next.CutShort rest stop after = IsOpen rest × (0 < length rest) × (stop ≡ over) × (after ≡ rest)
Finds next.BadHead rest stop after = NeverHasRequest (front rest) × (after ≡ rest)
Finds next.HeadTooLong rest stop after = IsUnfinished (front rest) × (MAX_HEAD ≤ length rest) × (after ≡ rest)
Finds next.ManyHeaders rest stop after = HasManyFields (front rest) × (after ≡ rest)
Finds next.ReadFault rest stop after = IsOpen rest × (stop ≡ broken) × (after ≡ rest)
Finds next.NoMemory rest stop after = after ≡ rest

-- the fault behind which every answer is the same
abbrev pub fault_of : Next → Option HeadFault
fault_of (next.Found head) = None
fault_of next.Ended = None
fault_of next.CutShort = Some fault.CutShort
fault_of next.BadHead = Some fault.BadHead
fault_of next.HeadTooLong = Some fault.HeadTooLong
fault_of next.ManyHeaders = Some fault.ManyHeaders
fault_of next.ReadFault = None
fault_of next.NoMemory = None

abbrev pub next_of : HeadFault → Next
next_of fault.CutShort = next.CutShort
next_of fault.BadHead = next.BadHead
next_of fault.HeadTooLong = next.HeadTooLong
next_of fault.ManyHeaders = next.ManyHeaders

-- what is known of a source around a call
pub record Around : Type 0 where
  pub left : Option (List ℕ)
  pub left_after : Option (List ℕ)
  pub ended : Bool
  pub faults : ℕ
  pub faults_after : ℕ

-- The bytes that were read, and why no more were.
pub record IsReading (around : Around) (bytes : List ℕ) (stop : Stop) : Type 0 where
  pub lost : around.left ≡ prepend_known bytes around.left_after
  pub stops : Stops stop around.ended around.left_after around.faults around.faults_after

-- The bytes that are held: those that were, and those that the source lost.
pub record Held (old held : List ℕ) (left left_now : Option (List ℕ)) : Type 0 where
  pub bytes : List ℕ
  pub held_is : held ≡ old ++ bytes
  pub lost : left ≡ prepend_known bytes left_now

-- a whole head is held, whatever it has
abbrev pub HoldsHead : List ℕ → Type 0
HoldsHead held = (h : RequestHead) × (rest : List ℕ) × ReadsRequest held h rest

-- The answer is what is found in the bytes that were held and those that were read, and what is left is held.
pub record AnswersHead (around : Around) (held held_after : List ℕ) (result : Next) : Type 0 where
  pub bytes : List ℕ
  pub stop : Stop
  pub reading : IsReading around bytes stop
  pub finds : Finds result (held ++ bytes) stop held_after

-- The answer is settled: more bytes do not change it.
abbrev pub IsSettled : Next → Type 0
IsSettled (next.Found head) = Unit {0}
IsSettled next.BadHead = Unit {0}
IsSettled next.HeadTooLong = Unit {0}
IsSettled next.ManyHeaders = Unit {0}
IsSettled next.Ended = ⊥
IsSettled next.CutShort = ⊥
IsSettled next.ReadFault = ⊥
IsSettled next.NoMemory = ⊥
