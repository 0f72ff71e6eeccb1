-- The history of a nonce table: the list of all calls that were made of it, from which nothing is ever
-- dropped, and what makes it legal. RFC 9246, section 2.1.7, has the `jti` tell a replay; the moment of a
-- call, the room and the answers are this project's own.
use Rattle.std.specs.Prelude.{◌≡◌, ℕ, max, nat_lt, nat_le, Bool, true, false, ◌&&◌, List, [], ◌∷◌, ◌++◌, length, filter, if◌then◌else◌}
use Rattle.std.specs.List.{list_any}
use Rattle.usp_nonce.specs.Nonces.{Nonce, is_same_nonce}
use Rattle.usp_nonce.specs.declared.answer.Answer.{Answer}
use Rattle.usp_nonce.specs.declared.answer.Answer.TheVariants.{Late, Seen, Full, Taken}

-- one call: what was asked, and what was answered
pub record Call : Type 0 where
  pub nonce : Nonce
  pub now : ℕ
  pub until : ℕ
  pub moment : ℕ
  pub answer : Answer

-- the greatest `now` of the calls, 0 where there is none
abbrev pub moment_of : List Call → ℕ
moment_of [] = 0
moment_of (call ∷ calls) = max call.now (moment_of calls)

abbrev pub is_taken : Answer → Bool
is_taken Taken = true
is_taken Late = false
is_taken Seen = false
is_taken Full = false

-- the call took its nonce, and its `until` is above the moment
abbrev pub is_in_force : ℕ → Call → Bool
is_in_force moment call = is_taken call.answer && nat_lt moment call.until

-- the Taken calls whose `until` is above the moment
abbrev pub calls_in_force : ℕ → List Call → List Call
calls_in_force moment calls = filter (is_in_force moment) calls

-- the answer to a call for a nonce until some moment, after these calls
abbrev pub answer_to : ℕ → List Call → Nonce → ℕ → ℕ → Answer
answer_to room before nonce until moment =
    if nat_le until moment then Late
    else if list_any (λ call. is_same_nonce nonce call.nonce) (calls_in_force moment before)
    then Seen
    else if nat_le room (length (calls_in_force moment before)) then Full
    else Taken

-- the call is answered as it must be after these calls
pub record IsNext (room : ℕ) (before : List Call) (call : Call) : Type 0 where
  pub moment : call.moment ≡ moment_of (before ++ call ∷ [])
  pub answer : call.answer ≡ answer_to room before call.nonce call.until call.moment

-- each call is answered as it must be after those before it
pub record IsLegal (room : ℕ) (history : List Call) : Type 0 where
  pub each : (before after : List Call) (call : Call) → history ≡ before ++ call ∷ after
      → IsNext room before call
