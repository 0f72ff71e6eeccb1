-- What a connection writes and notes where a put fails, or there is no memory.
use Rattle.std.specs.Prelude.{◌≡◌, ℕ, ◌≤◌, List, [], ◌∷◌, ◌++◌, length, Some}
use Rattle.usp_conf.specs.Values.{ConfValue}
use Rattle.usp_http.specs.Finding.{Finds, IsHead, Stop}
use Rattle.usp_http.specs.declared.head.Head.{Head}
use Rattle.usp_http.specs.declared.next.Next.{Next}
use Rattle.usp_json.specs.declared.value.Members.{Members}
use Rattle.usp_rules.specs.Judging.{Judges}
use Rattle.usp_rules.specs.declared.judged.Judged.TheVariants as judged
use Rattle.usp_edge.specs.Asks.{ask_of}
use Rattle.usp_edge.specs.Calls.{Placed}
use Rattle.usp_edge.specs.Outcomes.{Calls, Find}
use Rattle.usp_edge.specs.Replies.{closing_text}
use Rattle.usp_edge.specs.Session.{Progress, Goes, end_of, is_full, is_last, worked}
use Rattle.usp_edge.specs.Work.{Work, Works, unreplied_note, work_text}
use Rattle.usp_edge.specs.declared.end.End.{End}
use Rattle.usp_edge.specs.declared.note.Note.{Note}

-- The put of a text failed: of the reply to the last head that was worked, or of the closing one. The progress has the
-- texts before it, and the note of that head.
pub data BrokenSession (conf : ConfValue) (bytes : List ℕ) (stop : Stop) (progress : Progress)
    (text : List ℕ) : Type 0 where
  reply : (before : Progress) (head : Head) (after : List ℕ) (work : Work) → Goes conf bytes before
      → IsHead head before.rest after → Works conf (is_last head (is_full before)) head work
      → progress ≡ record (worked before after work) { text = before.text } → text ≡ work_text work
      → BrokenSession conf bytes stop progress text
  closing : (before : Progress) (result : Next) (after : List ℕ) (ends : End) → Goes conf bytes before
      → Finds result before.rest stop after → end_of result ≡ Some (closing_text, ends)
      → progress ≡ record before { rest = after } → text ≡ closing_text → BrokenSession conf bytes stop progress text

-- what was done for a head before there was no memory
pub record Part : Type 0 where
  pub moments : List ℕ
  pub calls : List Placed
  pub finds : List Find
  pub notes : List Note

-- A head leaves a note where its nonce call was made, with the status 0 and nothing issued, and none else.
pub data Starves (conf : ConfValue) (head : Head) (part : Part) : Type 0 where
  unnoted : length part.moments ≤ 1 → length part.finds ≤ 1 → part.calls ≡ [] → part.notes ≡ []
      → Starves conf head part
  noted : (moment : ℕ) (content token : List ℕ) (members : Members) (key : ℕ) (of : Placed)
      → Judges conf.site.profile (ask_of conf head moment) (judged.Passed content token members key)
      → Calls members content moment (of ∷ []) → part.moments ≡ moment ∷ [] → part.calls ≡ of ∷ []
      → length part.finds ≤ 1
      → part.notes ≡ unreplied_note conf (ask_of conf head moment) (of ∷ []) ∷ [] → Starves conf head part

abbrev pub with_part : Progress → Part → Progress
with_part progress part = record progress {
  notes = progress.notes ++ part.notes;
  moments = progress.moments ++ part.moments;
  calls = progress.calls ++ part.calls;
  finds = progress.finds ++ part.finds;
}

-- There was no memory between two heads, or at one, to which there is no reply.
pub data StarvedSession (conf : ConfValue) (bytes : List ℕ) (progress : Progress) : Type 0 where
  between : Goes conf bytes progress → StarvedSession conf bytes progress
  at_head : (before : Progress) (head : Head) (after : List ℕ) (part : Part) → Goes conf bytes before
      → IsHead head before.rest after → Starves conf head part → progress ≡ with_part before part
      → StarvedSession conf bytes progress
