-- What a request is answered that passes rules 1 to 15.
use Rattle.std.proofs.Common.{◌≡◌, refl, sym, ap, ◌∙◌, subst, ℕ, ◌≤◌, List, [], ◌∷◌, length, Bool, Option, Some, None, Result, Ok, Err, IfOk, codes, arith}
use Rattle.usp_conf.specs.Values.{ConfValue}
use Rattle.usp_http.specs.Replies.{reply_text}
use Rattle.usp_http.specs.declared.head.Head.{Head}
use Rattle.usp_http.specs.declared.reply.Field.{Field}
use Rattle.usp_issue.specs.declared.signed.Signed.{Signed}
use Rattle.usp_json.specs.declared.value.Members.{Members}
use Rattle.usp_nonce.specs.declared.answer.Turned.{Turned}
use Rattle.usp_rules.specs.Asks.{AskValue}
use Rattle.usp_rules.specs.Judging.{Judges}
use Rattle.usp_rules.specs.declared.judged.Judged.TheVariants as judged
use Rattle.usp_rules.specs.declared.rule.Rule.{Rule}
use Rattle.usp_edge.specs.Calls.{Placed}
use Rattle.usp_edge.specs.Outcomes.{Calls, Find, ObjectAnswer, absent, by_all, by_judgement, by_nonce, denied, failed, find, no_memory, object, on, redirected, renewal_field, shown, there, turn_of, unanswered, unshown, verdict_by, verdict_of}
use Rattle.usp_edge.specs.Replies.{reply_to}
use Rattle.usp_edge.specs.Requests.{AnswersRequest, IsPassed, IsPrepared, Says, ServesReply, Shows, ShowsObject, ShowsReply, issued_by, with_reply, without_call, with_call}
use Rattle.usp_edge.specs.Serving.{Draws, Objects, Supplies, ReadsObjects}
use Rattle.usp_edge.specs.declared.answer.Answer.{Answer}
use Rattle.usp_edge.specs.declared.answer.Replied.{Replied}
use Rattle.usp_edge.specs.declared.judgement.Passed.{Passed}
use Rattle.usp_edge.specs.declared.memory.NoMemory.{NoMemory}
use Rattle.usp_edge.specs.declared.note.Verdict.{Verdict}
use Rattle.usp_edge.specs.declared.note.Verdict.TheVariants as verdict
use Rattle.usp_edge.specs.declared.prepared.Prepared.{Prepared}
use Rattle.usp_edge.specs.declared.prepared.Prepared.TheVariants as prepared
use Rattle.usp_edge.specs.declared.prepared.Renewal.{Renewal}
use Rattle.usp_edge.proofs.Counting.{calls_few}
use Rattle.usp_edge.proofs.Doing.{reads_none}

abbrev pub out : {N : Type 0} → N → Objects → ℕ → Supplies N
out nonces objects faults = record { nonces = nonces; objects = objects; faults = faults }

abbrev pub answer_with : Verdict → Option Turned → Result Replied NoMemory → Answer
answer_with verdict call reply = record { verdict = verdict; call = call; reply = reply }

verdict_is : (calls : List Placed) (call : Option Turned) → call ≡ turn_of calls → verdict_by call ≡ verdict_of calls
verdict_is [] call is = ap verdict_by is
verdict_is (of ∷ calls) call is = ap verdict_by is

-- which calls were made does not show in the reply
denied_more : (head : Head) (last : Bool) (calls : List Placed) (rule : Rule) (r : Replied) → Says head last (denied [] rule) r → Says head last (denied calls rule) r
denied_more head last calls rule r says = record { status = says.status; route = says.route; issued = says.issued; text = says.text }

redirected_more : (head : Head) (last : Bool) (calls : List Placed) (place : ℕ) (signed : Signed) (r : Replied)
    → Says head last (redirected [] place signed) r → Says head last (redirected calls place signed) r
redirected_more head last calls place signed r says = record { status = says.status; route = says.route; issued = says.issued; text = says.text }

unshown_more : (head : Head) (last : Bool) (calls : List Placed) (finds : List Find) (status : ℕ) (line : List ℕ) (r : Replied)
    → Says head last (unshown [] [] status line) r → Says head last (unshown calls finds status line) r
unshown_more head last calls finds status line r says = record { status = says.status; route = says.route; issued = says.issued; text = says.text }

shown_more : (head : Head) (last : Bool) (calls : List Placed) (finds : List Find) (issued : Option (List ℕ)) (field field2 : Field) (bytes : List ℕ) (r : Replied)
    → field ≡ field2 → Says head last (shown [] [] issued field bytes) r → Says head last (shown calls finds issued field2 bytes) r
shown_more head last calls finds issued field field2 bytes r same says = record {
  status = says.status;
  route = says.route;
  issued = says.issued;
  text = says.text ∙ ap (λ f. reply_text (reply_to head last 200 f bytes)) same;
}

-- ---- replies that were prepared

pub redirects : (head : Head) (last : Bool) (content : List ℕ) (place : ℕ) (signed : Signed) (o : Objects) (f : ℕ) (result : Result Replied NoMemory)
    → IfOk result (λ r. Says head last (redirected [] place signed) r) → ServesReply head last content (prepared.Redirect place signed) o o f f result
redirects head last content place signed o f result says = record {
  finds = [];
  few = omega arith;
  reads = reads_none o f;
  shows = by_cases result says;
}
  where
    by_cases : (result : Result Replied NoMemory) → IfOk result (λ r. Says head last (redirected [] place signed) r)
        → IfOk result (λ r. Shows head last content (prepared.Redirect place signed) [] r)
    by_cases (Ok r) says = (refl, says)
    by_cases (Err want) says = tt

pub shows_prepared : (head : Head) (last : Bool) (content : List ℕ) (renewal : Option Renewal) (o o2 : Objects) (f f2 : ℕ) (result : Result Replied NoMemory)
    → ShowsReply head last content renewal o o2 f f2 result → ServesReply head last content (prepared.Show renewal) o o2 f f2 result
shows_prepared head last content renewal o o2 f f2 result shown = record {
  finds = find content shown.found;
  few = omega arith;
  reads = shown.reads;
  shows = by_cases result shown.shows;
}
  where
    by_cases : (result : Result Replied NoMemory) → IfOk result (λ r. ShowsObject head last renewal shown.found r)
        → IfOk result (λ r. Shows head last content (prepared.Show renewal) (find content shown.found) r)
    by_cases (Ok r) says = (shown.found, refl, says)
    by_cases (Err want) says = tt

-- ---- answers

module _ {N : Type 0} (gains : N → N → List Placed → Type 0) (conf : ConfValue) (head : Head) (last : Bool) (ask : AskValue) where
  -- no memory, and no nonce call
  pub answers_uncalled : (old new : Supplies N) (answer : Answer) (want : NoMemory) → Draws gains old new [] [] → answer.call ≡ None → answer.reply ≡ Err want
      → AnswersRequest gains conf head last ask old new answer
  answers_uncalled old new answer want asks call reply = without_call [] want (omega arith) call reply asks

  unreplied : (content token : List ℕ) (members : Members) (key : ℕ) (calls : List Placed) (finds : List Find) (want : NoMemory) (v : Verdict) (call : Option Turned) (old new : Supplies N)
      → Judges conf.site.profile ask (judged.Passed content token members key) → Calls members content ask.moment calls → length finds ≤ 1
      → call ≡ turn_of calls → v ≡ verdict_of calls → Draws gains old new calls finds → AnswersRequest gains conf head last ask old new (answer_with v call (Err want))
  unreplied content token members key [] finds want v call old new judges made few turned by asks = without_call finds want few turned refl asks
  unreplied content token members key (of ∷ []) finds want v call old new judges made few turned by asks =
      with_call content token members key of finds want judges made few by turned refl asks
  unreplied content token members key (of ∷ of2 ∷ calls) finds want v call old new judges made few turned by asks =
      absurd (omega (arith, calls_few _ members content ask.moment (of ∷ of2 ∷ calls) made))

  -- a rule from 1 to 15 denies
  pub answers_judged : (old : Supplies N) (rule : Rule) (v : Verdict) (call : Option Turned) (reply : Result Replied NoMemory) → gains old.nonces old.nonces []
      → Judges conf.site.profile ask (judged.Denied rule) → v ≡ verdict.Denied rule → call ≡ None → IfOk reply (λ r. Says head last (denied [] rule) r)
      → AnswersRequest gains conf head last ask old old (answer_with v call reply)
  answers_judged old rule v call (Ok r) free judges by none says =
      with_reply (denied [] rule) r (by_judgement rule judges refl) by none refl says (record { gained = free; reads = reads_none old.objects old.faults })
  answers_judged old rule v call (Err want) free judges by none says =
      without_call [] want (omega arith) none refl (record { gained = free; reads = reads_none old.objects old.faults })

  -- a rule from 16 to 18 denies
  pub answers_denied : (a b : N) (o : Objects) (f : ℕ) (passed : Passed) (calls : List Placed) (call : Option Turned) (rule : Rule) (reply : Result Replied NoMemory) → IsPassed conf ask passed
      → Calls passed.claims passed.content passed.moment calls → call ≡ turn_of calls → gains a b calls → verdict_by call ≡ verdict.Denied rule
      → IfOk reply (λ r. Says head last (denied [] rule) r) → AnswersRequest gains conf head last ask (out a o f) (out b o f) (answer_with (verdict.Denied rule) call reply)
  answers_denied a b o f passed calls call rule (Ok r) is made turned gained by says =
      with_reply (denied calls rule) r
      (by_nonce passed.content is.token passed.claims is.key calls rule is.judges (subst (λ m. Calls passed.claims passed.content m calls) is.moment made)
      (sym (verdict_is calls call turned) ∙ by) refl)
      refl turned refl (denied_more head last calls rule r says) (record { gained = gained; reads = reads_none o f })
  answers_denied a b o f passed calls call rule (Err want) is made turned gained by says =
      unreplied passed.content is.token passed.claims is.key calls [] want (verdict.Denied rule) call (out a o f) (out b o f) is.judges
      (subst (λ m. Calls passed.claims passed.content m calls) is.moment made) (omega arith) turned (sym by ∙ verdict_is calls call turned)
      (record { gained = gained; reads = reads_none o f })

  -- the objects were read for a reply
  shows_object : (a b : N) (o o2 : Objects) (f f2 : ℕ) (passed : Passed) (calls : List Placed) (call : Option Turned) (renewal : Option Renewal) (found : ObjectAnswer) (r : Replied)
      → IsPassed conf ask passed → Calls passed.claims passed.content ask.moment calls → call ≡ turn_of calls → gains a b calls → verdict_of calls ≡ verdict.Admitted
      → IsPrepared conf passed.claims passed.content ask.moment (prepared.Show renewal) → ReadsObjects o o2 f f2 (find passed.content found)
      → ShowsObject head last renewal found r → AnswersRequest gains conf head last ask (out a o f) (out b o2 f2) (answer_with verdict.Admitted call (Ok r))
  shows_object a b o o2 f f2 passed calls call renewal (object (Some bytes)) r is made turned gained by (sending, renewed) reads says =
      let finds = find passed.content (object (Some bytes)) in
      with_reply (shown calls finds (issued_by renewal) (renewal_field conf passed.claims passed.content (issued_by renewal)) bytes) r
      (by_all passed.content is.token passed.claims is.key calls is.judges made by (there bytes (issued_by renewal) sending renewed.renews refl))
      refl turned refl (shown_more head last calls finds (issued_by renewal) _ _ bytes r renewed.cookie says) (record { gained = gained; reads = reads })
  shows_object a b o o2 f f2 passed calls call renewal (object None) r is made turned gained by (sending, renewed) reads says =
      let finds = find passed.content (object None) in
      with_reply (unshown calls finds 404 (codes "no object")) r
      (by_all passed.content is.token passed.claims is.key calls is.judges made by (absent sending refl))
      refl turned refl (unshown_more head last calls finds 404 (codes "no object") r says) (record { gained = gained; reads = reads })
  shows_object a b o o2 f f2 passed calls call renewal failed r is made turned gained by (sending, renewed) reads says =
      let finds = find passed.content failed in
      with_reply (unshown calls finds 502 (codes "no answer")) r
      (by_all passed.content is.token passed.claims is.key calls is.judges made by (unanswered sending refl))
      refl turned refl (unshown_more head last calls finds 502 (codes "no answer") r says) (record { gained = gained; reads = reads })
  shows_object a b o o2 f f2 passed calls call renewal no_memory r is made turned gained by (sending, renewed) reads says = absurd says

  serves : (a b : N) (o o2 : Objects) (f f2 : ℕ) (passed : Passed) (calls : List Placed) (call : Option Turned) (ready : Prepared) (reply : Result Replied NoMemory)
      → IsPassed conf ask passed → Calls passed.claims passed.content ask.moment calls → call ≡ turn_of calls → gains a b calls → verdict_of calls ≡ verdict.Admitted
      → IsPrepared conf passed.claims passed.content ask.moment ready → ServesReply head last passed.content ready o o2 f f2 reply
      → AnswersRequest gains conf head last ask (out a o f) (out b o2 f2) (answer_with verdict.Admitted call reply)
  serves a b o o2 f f2 passed calls call ready (Err want) is made turned gained by sending served =
      unreplied passed.content is.token passed.claims is.key calls served.finds want verdict.Admitted call (out a o f) (out b o2 f2) is.judges made served.few turned (sym by)
      (record { gained = gained; reads = served.reads })
  serves a b o o2 f f2 passed calls call (prepared.Redirect place signed) (Ok r) is made turned gained by sending served =
      let shows = served.shows in
      with_reply (redirected calls place signed) r
      (by_all passed.content is.token passed.claims is.key calls is.judges made by (on place signed sending refl))
      refl turned refl (redirected_more head last calls place signed r shows.1)
      (record { gained = gained; reads = subst (ReadsObjects o o2 f f2) shows.0 served.reads })
  serves a b o o2 f f2 passed calls call (prepared.Show renewal) (Ok r) is made turned gained by ready served =
      let shows = served.shows in
      shows_object a b o o2 f f2 passed calls call renewal shows.0 r is made turned gained by ready
      (subst (ReadsObjects o o2 f f2) shows.1 served.reads) shows.2

  -- all rules admit
  pub answers_served : (a b : N) (o o2 : Objects) (f f2 : ℕ) (passed : Passed) (calls : List Placed) (call : Option Turned) (ready : Prepared) (reply : Result Replied NoMemory)
      → IsPassed conf ask passed → Calls passed.claims passed.content passed.moment calls → call ≡ turn_of calls → gains a b calls → verdict_by call ≡ verdict.Admitted
      → IsPrepared conf passed.claims passed.content passed.moment ready → ServesReply head last passed.content ready o o2 f f2 reply
      → AnswersRequest gains conf head last ask (out a o f) (out b o2 f2) (answer_with verdict.Admitted call reply)
  answers_served a b o o2 f f2 passed calls call ready reply is made turned gained by prepared served =
      serves a b o o2 f f2 passed calls call ready reply is (subst (λ m. Calls passed.claims passed.content m calls) is.moment made) turned gained
      (sym (verdict_is calls call turned) ∙ by) (subst (λ m. IsPrepared conf passed.claims passed.content m ready) is.moment prepared) served
