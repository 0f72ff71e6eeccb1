-- What stands at the front of bytes that are no more than a head may have.
use Rattle.std.specs.Prelude.{◌≡◌, ◌≤◌, ◌<◌, ℕ, List, drop, length}
use Rattle.httparse.specs.Grammar.{HasNoRequest, MayBecomeRequest, NeverHasRequest, ReadsRequest, RequestHead}
use Rattle.usp_http.specs.Heads.{head_of}
use Rattle.usp_http.specs.declared.front.Front.{Front}
use Rattle.usp_http.specs.declared.front.Front.TheVariants as front
use Rattle.usp_http.specs.declared.head.Head.{Head}
use Rattle.usp_http.specs.declared.limits.TheConstants.{MAX_FIELDS}

-- a head with more fields than it may have
abbrev pub HasManyFields : List ℕ → Type 0
HasManyFields bytes =
    (h : RequestHead) × (rest : List ℕ) × ReadsRequest bytes h rest × (MAX_FIELDS < length h.fields)

-- no head, and one may come
abbrev pub IsUnfinished : List ℕ → Type 0
IsUnfinished bytes = HasNoRequest bytes × MayBecomeRequest bytes

-- a head with these parts, in so many bytes
pub record IsWhole (bytes : List ℕ) (head : Head) (len : ℕ) : Type 0 where
  pub whole : RequestHead
  pub reads : ReadsRequest bytes whole (drop len bytes)
  pub few : length whole.fields ≤ MAX_FIELDS
  pub parts : head ≡ head_of whole
  pub within : len ≤ length bytes

abbrev pub IsFront : List ℕ → Front → Type 0
IsFront bytes (front.Whole head len) = IsWhole bytes head len
IsFront bytes front.Many = HasManyFields bytes
IsFront bytes front.Unfinished = IsUnfinished bytes
IsFront bytes front.Bad = NeverHasRequest bytes
IsFront bytes front.NoMemory = Unit {0}
