-- What a player hears in the bytes of a reply.
use Rattle.std.specs.Prelude.{◌≡◌, ◌≤◌, ℕ, List, length, map, codes, Some, Result, Ok, Err}
use Rattle.httparse.specs.Grammar.{ReadsResponse, ResponseHead, print_response, status_code}
use Rattle.httparse.specs.Spans.{name_and_value}
use Rattle.usp_http.specs.Digits.{number_in}
use Rattle.usp_http.specs.Fields.{first_of, only, values_of}
use Rattle.usp_http.specs.declared.heard.Heard.{Heard}
use Rattle.usp_http.specs.declared.heard.HeardFault.{HeardFault}
use Rattle.usp_http.specs.declared.heard.HeardFault.TheVariants as fault
use Rattle.usp_http.specs.declared.limits.TheConstants.{MAX_FIELDS, MAX_HEAD}

abbrev pub heard_with : (status : ℕ) → List (List ℕ × List ℕ) → (body : List ℕ) → Heard
heard_with status fields body = record {
  status = status;
  location = first_of (values_of (codes "location") fields);
  cookies = values_of (codes "set-cookie") fields;
  body = body;
}

abbrev pub fields_of : ResponseHead → List (List ℕ × List ℕ)
fields_of head = map name_and_value head.fields

-- what is heard in this head and body
abbrev pub heard_of : ResponseHead → List ℕ → Heard
heard_of head body = heard_with (status_code head) (fields_of head) body

-- The only `Content-Length` is digits that spell the length of the body (RFC 9112, section 6.3).
abbrev pub IsLengthOf : List (List ℕ × List ℕ) → List ℕ → Type 0
IsLengthOf fields body = number_in (only (values_of (codes "content-length") fields)) ≡ Some (length body)

-- The head is no longer than it may be, and its length is that of the body.
pub record IsWhole (head : ResponseHead) (body : List ℕ) : Type 0 where
  pub short : length (print_response head) ≤ MAX_HEAD
  pub whole : IsLengthOf (fields_of head) body

-- The bytes are a head, with no more fields than it may have, and a body, and this is heard in them.
pub record Hears (bytes : List ℕ) (heard : Heard) : Type 0 where
  pub head : ResponseHead
  pub body : List ℕ
  pub reads : ReadsResponse bytes head body
  pub few : length head.fields ≤ MAX_FIELDS
  pub whole : IsWhole head body
  pub parts : heard ≡ heard_of head body

-- Nothing is heard in them.
abbrev pub HearsNothing : List ℕ → Type 0
HearsNothing bytes = (heard : Heard) → ¬ (Hears bytes heard)

-- the answer to bytes; want of memory may come at any time
abbrev pub AnswersReply : List ℕ → Result Heard HeardFault → Type 0
AnswersReply bytes (Ok heard) = Hears bytes heard
AnswersReply bytes (Err fault.BadReply) = HearsNothing bytes
AnswersReply bytes (Err fault.NoMemory) = Unit {0}

-- the same, of a head that was found and what stands behind it
abbrev pub AnswersHead : ResponseHead → List ℕ → Result Heard HeardFault → Type 0
AnswersHead head body (Ok heard) = IsWhole head body × (heard ≡ heard_of head body)
AnswersHead head body (Err fault.BadReply) = ¬ (IsWhole head body)
AnswersHead head body (Err fault.NoMemory) = Unit {0}
