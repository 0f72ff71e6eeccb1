-- The work on one head: what is asked outside, what is noted, and the reply.
use Rattle.std.specs.Prelude.{◌≡◌, ◌≢◌, ℕ, Bool, true, false, List, [], ◌∷◌, None}
use Rattle.usp_conf.specs.Values.{ConfValue}
use Rattle.usp_http.specs.Replies.{reply_text}
use Rattle.usp_http.specs.declared.head.Head.{Head}
use Rattle.usp_http.specs.declared.head.Method.TheVariants as method
use Rattle.usp_http.specs.declared.reply.Reply.{Reply}
use Rattle.usp_rules.specs.Asks.{AskValue}
use Rattle.usp_edge.specs.Asks.{ask_of, brought}
use Rattle.usp_edge.specs.Calls.{Placed}
use Rattle.usp_edge.specs.Outcomes.{Decides, Find, Outcome, turn_of, verdict_of}
use Rattle.usp_edge.specs.Replies.{body_reply, method_reply, reply_to}
use Rattle.usp_edge.specs.declared.note.Note.{Note}

-- What the work on a head does: the moments that the clock gave it, its nonce calls, its reads of objects, its notes
-- and its reply.
pub record Work : Type 0 where
  pub moments : List ℕ
  pub calls : List Placed
  pub finds : List Find
  pub notes : List Note
  pub reply : Reply

-- the bytes of its reply
abbrev pub work_text : Work → List ℕ
work_text work = reply_text work.reply

abbrev pub note_of : ConfValue → AskValue → Outcome → Note
note_of conf ask outcome = record {
  uri = ask.uri;
  token = brought conf ask;
  moment = ask.moment;
  verdict = outcome.verdict;
  call = turn_of outcome.calls;
  route = outcome.route;
  issued = outcome.issued;
  status = outcome.status;
}

-- the note of a request whose nonce calls were made, and to which there was no reply
abbrev pub unreplied_note : ConfValue → AskValue → List Placed → Note
unreplied_note conf ask calls = record {
  uri = ask.uri;
  token = brought conf ask;
  moment = ask.moment;
  verdict = verdict_of calls;
  call = turn_of calls;
  route = None;
  issued = None;
  status = 0;
}

abbrev pub reply_of : Head → (last : Bool) → Outcome → Reply
reply_of head last outcome = reply_to head last outcome.status outcome.field outcome.body

-- a reply to what asks nothing
abbrev pub unasked : Reply → Work
unasked reply = record { moments = []; calls = []; finds = []; notes = []; reply = reply }

abbrev pub work_of : ConfValue → Head → (last : Bool) → AskValue → Outcome → Work
work_of conf head last ask outcome = record {
  moments = ask.moment ∷ [];
  calls = outcome.calls;
  finds = outcome.finds;
  notes = note_of conf ask outcome ∷ [];
  reply = reply_of head last outcome;
}

-- The work on a head, which may be the last of its connection. A head that announces a body always is.
pub data Works (conf : ConfValue) (last : Bool) (head : Head) (work : Work) : Type 0 where
  body : head.body ≡ true → work ≡ unasked (body_reply head) → Works conf last head work
  other_method : head.body ≡ false → head.method ≡ method.Other → work ≡ unasked (method_reply head last)
      → Works conf last head work
  request : head.body ≡ false → head.method ≢ method.Other → (moment : ℕ) (outcome : Outcome)
      → Decides conf (ask_of conf head moment) outcome
      → work ≡ work_of conf head last (ask_of conf head moment) outcome → Works conf last head work
