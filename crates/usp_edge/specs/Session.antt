-- What a connection writes and notes, by the bytes that were read.
use Rattle.std.specs.Prelude.{◌≡◌, ℕ, ◌+◌, ◌==◌, ◌||◌, Bool, List, [], ◌++◌, Option, Some, None, if◌then◌else◌}
use Rattle.usp_conf.specs.Values.{ConfValue}
use Rattle.usp_http.specs.Finding.{Finds, IsHead, Stop}
use Rattle.usp_http.specs.declared.head.Head.{Head}
use Rattle.usp_http.specs.declared.next.Next.{Next}
use Rattle.usp_http.specs.declared.next.Next.TheVariants as next
use Rattle.usp_edge.specs.Calls.{Placed}
use Rattle.usp_edge.specs.Outcomes.{Find}
use Rattle.usp_edge.specs.Replies.{closing_text}
use Rattle.usp_edge.specs.Work.{Work, Works, work_text}
use Rattle.usp_edge.specs.declared.end.End.{End}
use Rattle.usp_edge.specs.declared.end.End.TheVariants as ending
use Rattle.usp_edge.specs.declared.limits.TheConstants.{MAX_HEADS}
use Rattle.usp_edge.specs.declared.note.Note.{Note}

-- How far a connection is: how many heads were worked, the bytes behind them, and what came of them.
pub record Progress : Type 0 where
  pub heads : ℕ
  pub rest : List ℕ
  pub text : List ℕ
  pub notes : List Note
  pub moments : List ℕ
  pub calls : List Placed
  pub finds : List Find

abbrev pub begins : List ℕ → Progress
begins bytes = record { heads = 0; rest = bytes; text = []; notes = []; moments = []; calls = []; finds = [] }

-- the same with one head more, the bytes behind it and its work
abbrev pub worked : Progress → (after : List ℕ) → Work → Progress
worked progress after work = record {
  heads = progress.heads + 1;
  rest = after;
  text = progress.text ++ work_text work;
  notes = progress.notes ++ work.notes;
  moments = progress.moments ++ work.moments;
  calls = progress.calls ++ work.calls;
  finds = progress.finds ++ work.finds;
}

-- With one head more there are as many as a connection may have.
abbrev pub is_full : Progress → Bool
is_full progress = progress.heads + 1 == MAX_HEADS

-- the reply to the head is the connection's last, where it announces no body
abbrev pub is_last : Head → (full : Bool) → Bool
is_last head full = head.last || full

-- the end behind a head, if it is one
abbrev pub end_behind : Head → (full : Bool) → Option End
end_behind head full =
    if head.body then Some ending.Body
    else if head.last then Some ending.Closed
    else if full then Some ending.Enough
    else None

-- The heads so far were worked in their order, and none of them ends the connection.
pub data Goes (conf : ConfValue) (bytes : List ℕ) : Progress → Type 0 where
  start : (progress : Progress) → progress ≡ begins bytes → Goes conf bytes progress
  further : (before progress : Progress) (head : Head) (after : List ℕ) (work : Work) → Goes conf bytes before
      → IsHead head before.rest after → Works conf (is_last head (is_full before)) head work
      → end_behind head (is_full before) ≡ None → progress ≡ worked before after work → Goes conf bytes progress

-- what is written and how it ends where no head is found
abbrev pub end_of : Next → Option (List ℕ × End)
end_of next.Ended = Some ([], ending.Closed)
end_of next.ReadFault = Some ([], ending.ReadFault)
end_of next.CutShort = Some (closing_text, ending.CutShort)
end_of next.BadHead = Some (closing_text, ending.BadHead)
end_of next.HeadTooLong = Some (closing_text, ending.HeadTooLong)
end_of next.ManyHeaders = Some (closing_text, ending.ManyHeaders)
end_of (next.Found head) = None
end_of next.NoMemory = None

-- A whole connection: the bytes that were read, why no more were, what came of them, and the end. It ends behind a
-- head, or at what is left where that has no head.
pub data Session (conf : ConfValue) (bytes : List ℕ) (stop : Stop) (progress : Progress) (ends : End) : Type 0 where
  at_head : (before : Progress) (head : Head) (after : List ℕ) (work : Work) → Goes conf bytes before
      → IsHead head before.rest after → Works conf (is_last head (is_full before)) head work
      → end_behind head (is_full before) ≡ Some ends → progress ≡ worked before after work
      → Session conf bytes stop progress ends
  at_rest : (before : Progress) (result : Next) (after text : List ℕ) → Goes conf bytes before
      → Finds result before.rest stop after → end_of result ≡ Some (text, ends)
      → progress ≡ record before { rest = after; text = before.text ++ text } → Session conf bytes stop progress ends
