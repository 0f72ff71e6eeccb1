-- What the parts of the work on a request give.
use Rattle.std.specs.Prelude.{◌≡◌, ℕ, ◌≤◌, Bool, List, [], ◌∷◌, length, codes, Option, Some, None, Result, Ok, Err, IfOk}
use Rattle.std.specs.Option.{option_map}
use Rattle.usp_conf.specs.Values.{ConfValue}
use Rattle.usp_http.specs.Replies.{reply_text}
use Rattle.usp_http.specs.declared.head.Head.{Head}
use Rattle.usp_edge.specs.declared.memory.NoMemory.{NoMemory}
use Rattle.usp_http.specs.declared.reply.Field.{Field}
use Rattle.usp_http.specs.declared.reply.Field.TheVariants as field
use Rattle.usp_issue.specs.declared.limits.TheConstants.{MAX_CLAIMS}
use Rattle.usp_json.specs.Canon.{canon_members}
use Rattle.usp_json.specs.declared.value.Members.{Members}
use Rattle.usp_nonce.specs.declared.answer.Turned.{Turned}
use Rattle.usp_rules.specs.Asks.{AskValue}
use Rattle.usp_rules.specs.Judging.{Judges}
use Rattle.usp_rules.specs.declared.judged.Judged.TheVariants as judged
use Rattle.usp_rules.specs.declared.rule.Rule.{Rule}
use Rattle.usp_edge.specs.Asks.{ask_of, brought}
use Rattle.usp_edge.specs.Calls.{Placed, turned_of}
use Rattle.usp_edge.specs.Outcomes.{Calls, Decides, Find, ObjectAnswer, Outcome, RenewsWithOwn, Sends, failed, find, no_memory, object, redirected, renewal_field, shown, turn_of, unshown, verdict_of}
use Rattle.usp_edge.specs.Serving.{Draws, Did, Met, Objects, Supplies, ReadsObjects, RepliesTo, StarvesAt}
use Rattle.usp_edge.specs.Work.{note_of, reply_of}
use Rattle.usp_edge.specs.declared.answer.Answer.{Answer}
use Rattle.usp_edge.specs.declared.answer.Replied.{Replied}
use Rattle.usp_edge.specs.declared.judgement.Judgement.{Judgement}
use Rattle.usp_edge.specs.declared.judgement.Passed.{Passed}
use Rattle.usp_edge.specs.declared.note.Note.{Note}
use Rattle.usp_edge.specs.declared.note.Subject.{Subject}
use Rattle.usp_edge.specs.declared.note.Verdict.{Verdict}
use Rattle.usp_edge.specs.declared.prepared.Prepared.{Prepared}
use Rattle.usp_edge.specs.declared.prepared.Prepared.TheVariants as prepared
use Rattle.usp_edge.specs.declared.prepared.Renewal.{Renewal}

-- ---- judging

-- what a note of an ask begins with
abbrev pub subject_of : ConfValue → AskValue → Subject
subject_of conf ask = record { uri = ask.uri; token = brought conf ask; moment = ask.moment }

-- The ask passes rules 1 to 15 with these claims for this content, at its moment.
pub record IsPassed (conf : ConfValue) (ask : AskValue) (passed : Passed) : Type 0 where
  pub token : List ℕ
  pub key : ℕ
  pub judges : Judges conf.site.profile ask (judged.Passed passed.content token passed.claims key)
  pub moment : passed.moment ≡ ask.moment

abbrev pub IsPassedOrDenied : ConfValue → AskValue → Result Passed Rule → Type 0
IsPassedOrDenied conf ask (Ok passed) = IsPassed conf ask passed
IsPassedOrDenied conf ask (Err rule) = Judges conf.site.profile ask (judged.Denied rule)

pub record IsJudgement (conf : ConfValue) (ask : AskValue) (judgement : Judgement) : Type 0 where
  pub token : judgement.token ≡ brought conf ask
  pub passed : IsPassedOrDenied conf ask judgement.passed

-- the claims are short enough to be renewed and signed again
abbrev pub IsShort : Passed → Type 0
IsShort passed = length (canon_members passed.claims) ≤ MAX_CLAIMS

-- ---- preparing

abbrev pub issued_by : Option Renewal → Option (List ℕ)
issued_by renewal = option_map (λ (r : Renewal). r.token) renewal

abbrev pub field_by : Option Renewal → Field
field_by None = field.Plain
field_by (Some renewal) = field.SetCookie renewal.cookie

-- the renewed token with its cookie, where the claims are renewed
pub record IsRenewal (conf : ConfValue) (members : Members) (content : List ℕ) (moment : ℕ)
    (renewal : Option Renewal) : Type 0 where
  pub renews : RenewsWithOwn conf members content moment (issued_by renewal)
  pub cookie : field_by renewal ≡ renewal_field conf members content (issued_by renewal)

abbrev pub IsPrepared : ConfValue → Members → (content : List ℕ) → (moment : ℕ) → Prepared → Type 0
IsPrepared conf members content moment (prepared.Redirect place signed) =
    Sends conf members content moment (Some (place, signed))
IsPrepared conf members content moment (prepared.Show renewal) =
    Sends conf members content moment None × IsRenewal conf members content moment renewal

-- ---- replying

-- The reply is that of this outcome.
pub record Says (head : Head) (last : Bool) (outcome : Outcome) (replied : Replied) : Type 0 where
  pub status : replied.status ≡ outcome.status
  pub route : replied.route ≡ outcome.route
  pub issued : replied.issued ≡ outcome.issued
  pub text : replied.text ≡ reply_text (reply_of head last outcome)

-- what one read of the objects says
abbrev pub ShowsObject : Head → (last : Bool) → Option Renewal → ObjectAnswer → Replied → Type 0
ShowsObject head last renewal (object (Some bytes)) replied =
    Says head last (shown [] [] (issued_by renewal) (field_by renewal) bytes) replied
ShowsObject head last renewal (object None) replied =
    Says head last (unshown [] [] 404 (codes "no object")) replied
ShowsObject head last renewal failed replied =
    Says head last (unshown [] [] 502 (codes "no answer")) replied
ShowsObject head last renewal no_memory replied = ⊥

-- what was prepared, said with the objects that were read for it
abbrev pub Shows : Head → (last : Bool) → (content : List ℕ) → Prepared → List Find → Replied → Type 0
Shows head last content (prepared.Redirect place signed) finds replied =
    (finds ≡ []) × Says head last (redirected [] place signed) replied
Shows head last content (prepared.Show renewal) finds replied =
    (found : ObjectAnswer) × (finds ≡ find content found) × ShowsObject head last renewal found replied

-- What was prepared is said, with one read of the objects at most, unless there is no memory.
pub record ServesReply (head : Head) (last : Bool) (content : List ℕ) (prepared : Prepared)
    (objects objects_after : Objects) (faults faults_after : ℕ) (result : Result Replied NoMemory) : Type 0 where
  pub finds : List Find
  pub few : length finds ≤ 1
  pub reads : ReadsObjects objects objects_after faults faults_after finds
  pub shows : IfOk result (λ replied. Shows head last content prepared finds replied)

-- the same of a request for which the objects are read
pub record ShowsReply (head : Head) (last : Bool) (content : List ℕ) (renewal : Option Renewal)
    (objects objects_after : Objects) (faults faults_after : ℕ) (result : Result Replied NoMemory) : Type 0 where
  pub found : ObjectAnswer
  pub reads : ReadsObjects objects objects_after faults faults_after (find content found)
  pub shows : IfOk result (λ replied. ShowsObject head last renewal found replied)

-- ---- answering

-- What a request that asks so is answered, and what was asked outside for that. Where there was no memory for a reply,
-- the nonce call was made or not.
pub data AnswersRequest {N : Type 0} (gains : N → N → List Placed → Type 0) (conf : ConfValue) (head : Head)
    (last : Bool) (ask : AskValue) (old new : Supplies N) (answer : Answer) : Type 0 where
  with_reply : (outcome : Outcome) (reply : Replied) → Decides conf ask outcome → answer.verdict ≡ outcome.verdict
      → answer.call ≡ turn_of outcome.calls → answer.reply ≡ Ok reply → Says head last outcome reply
      → Draws gains old new outcome.calls outcome.finds → AnswersRequest gains conf head last ask old new answer
  without_call : (finds : List Find) (want : NoMemory) → length finds ≤ 1 → answer.call ≡ None → answer.reply ≡ Err want
      → Draws gains old new [] finds → AnswersRequest gains conf head last ask old new answer
  with_call : (content token : List ℕ) (members : Members) (key : ℕ) (of : Placed) (finds : List Find) (want : NoMemory)
      → Judges conf.site.profile ask (judged.Passed content token members key)
      → Calls members content ask.moment (of ∷ []) → length finds ≤ 1 → answer.verdict ≡ verdict_of (of ∷ [])
      → answer.call ≡ Some (turned_of of) → answer.reply ≡ Err want → Draws gains old new (of ∷ []) finds
      → AnswersRequest gains conf head last ask old new answer

-- ---- noting

abbrev pub text_by : Result Replied NoMemory → Result (List ℕ) NoMemory
text_by (Ok replied) = Ok replied.text
text_by (Err want) = Err want

-- the note of a request that was replied to
abbrev pub note_with : Subject → Verdict → Option Turned → Replied → Note
note_with subject verdict call replied = record {
  uri = subject.uri;
  token = subject.token;
  moment = subject.moment;
  verdict = verdict;
  call = call;
  route = replied.route;
  issued = replied.issued;
  status = replied.status;
}

-- the note of one that was not
abbrev pub note_without : Subject → Verdict → Option Turned → Note
note_without subject verdict call = record {
  uri = subject.uri;
  token = subject.token;
  moment = subject.moment;
  verdict = verdict;
  call = call;
  route = None;
  issued = None;
  status = 0;
}

abbrev pub notes_by : Subject → Verdict → Option Turned → Result Replied NoMemory → List Note
notes_by subject verdict call (Ok replied) = note_with subject verdict call replied ∷ []
notes_by subject verdict None (Err want) = []
notes_by subject verdict (Some turned) (Err want) = note_without subject verdict (Some turned) ∷ []

-- ---- working

-- What comes of the work on a head: the bytes of its reply, or want of memory.
abbrev pub ComesOfHead : {N : Type 0} → (N → N → List Placed → Type 0) → ConfValue → (last : Bool) → Head → Met N
    → Met N → Result (List ℕ) NoMemory → Type 0
ComesOfHead gains conf last head old new (Ok text) = RepliesTo gains conf last head old new text
ComesOfHead gains conf last head old new (Err want) = StarvesAt gains conf head old new

-- the same of a request: its moment was taken, and all else as it was decided
pub record Requested {N : Type 0} (gains : N → N → List Placed → Type 0) (conf : ConfValue) (last : Bool) (head : Head)
    (old new : Met N) (text : List ℕ) : Type 0 where
  pub moment : ℕ
  pub outcome : Outcome
  pub decides : Decides conf (ask_of conf head moment) outcome
  pub text_is : text ≡ reply_text (reply_of head last outcome)
  pub did : Did gains old new (moment ∷ []) outcome.calls outcome.finds
      (note_of conf (ask_of conf head moment) outcome ∷ [])

abbrev pub ComesOfRequest : {N : Type 0} → (N → N → List Placed → Type 0) → ConfValue → (last : Bool) → Head → Met N
    → Met N → Result (List ℕ) NoMemory → Type 0
ComesOfRequest gains conf last head old new (Ok text) = Requested gains conf last head old new text
ComesOfRequest gains conf last head old new (Err want) = StarvesAt gains conf head old new
