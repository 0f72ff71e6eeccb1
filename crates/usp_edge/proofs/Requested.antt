-- The work on a request, and on a head.
use Rattle.std.proofs.Common.{◌≡◌, ◌≢◌, true, false, refl, sym, ap, ◌∙◌, subst, ℕ, List, [], ◌∷◌, ◌++◌, append-nil, Bool, Option, Result, Ok, Err, IfOk, arith}
use Rattle.std.specs.Io.KnownBytes.{append_known}
use Rattle.usp_conf.specs.Values.{ConfValue}
use Rattle.usp_http.specs.Replies.{reply_text}
use Rattle.usp_http.specs.declared.head.Head.{Head}
use Rattle.usp_http.specs.declared.head.Method.TheVariants as method
use Rattle.usp_nonce.specs.declared.answer.Turned.{Turned}
use Rattle.usp_rules.specs.Asks.{AskValue}
use Rattle.usp_edge.specs.Asks.{ask_of, brought}
use Rattle.usp_edge.specs.Calls.{Placed}
use Rattle.usp_edge.specs.Halts as halts
use Rattle.usp_edge.specs.Outcomes.{Outcome, turn_of}
use Rattle.usp_edge.specs.Replies.{body_reply, method_reply}
use Rattle.usp_edge.specs.Requests.{AnswersRequest, ComesOfHead, ComesOfRequest, IsPassed, IsShort, Says, with_call, notes_by, with_reply, subject_of, text_by, without_call}
use Rattle.usp_edge.specs.Serving.{Met, Supplies, StarvesAt}
use Rattle.usp_edge.specs.Work.{body, note_of, other_method, request, unasked, unreplied_note, work_of}
use Rattle.usp_edge.specs.declared.answer.Answer.{Answer}
use Rattle.usp_edge.specs.declared.answer.Replied.{Replied}
use Rattle.usp_edge.specs.declared.judgement.Passed.{Passed}
use Rattle.usp_edge.specs.declared.memory.NoMemory.{NoMemory}
use Rattle.usp_edge.specs.declared.note.Note.{Note}
use Rattle.usp_edge.specs.declared.note.Subject.{Subject}
use Rattle.usp_edge.specs.declared.note.Verdict.{Verdict}
use Rattle.usp_edge.proofs.Bounds.{claims_short}
use Rattle.usp_edge.proofs.Doing.{asks_none, did_none}

abbrev pub met : {N : Type 0} → Option (List ℕ) → Supplies N → List Note → Met N
met given supplies journal = record { given = given; supplies = supplies; journal = journal }

-- the note of what was replied is that of the outcome
noted_as : (conf : ConfValue) (ask : AskValue) (subject : Subject) (v : Verdict) (call : Option Turned) (reply : Result Replied NoMemory) (outcome : Outcome) (r : Replied) (head : Head) (last : Bool)
    → subject ≡ subject_of conf ask → v ≡ outcome.verdict → call ≡ turn_of outcome.calls → reply ≡ Ok r → Says head last outcome r
    → notes_by subject v call reply ≡ note_of conf ask outcome ∷ []
noted_as conf ask subject v call reply outcome r head last is verdict turned ok says =
    (λ i. notes_by (is i) (verdict i) (turned i) (ok i))
    ∙ (λ i. record {
      uri = ask.uri;
      token = brought conf ask;
      moment = ask.moment;
      verdict = outcome.verdict;
      call = turn_of outcome.calls;
      route = says.route i;
      issued = says.issued i;
      status = says.status i;
    } ∷ [])

-- the claims of what passes are short enough to be changed
pub short_passed : (conf : ConfValue) (ask : AskValue) (passed : Passed) → IsPassed conf ask passed → IsShort passed
short_passed conf ask passed is = claims_short _ passed.claims is.judges.1.tells.claims

module _ {N : Type 0} (gains : N → N → List Placed → Type 0) (conf : ConfValue) (last : Bool) (head : Head) where
  -- no memory before the clock was read
  pub starves_first : (old : Met N) → gains old.supplies.nonces old.supplies.nonces [] → StarvesAt gains conf head old old
  starves_first old free = record {
    part = record { moments = []; calls = []; finds = []; notes = [] };
    starves = halts.unnoted (omega arith) (omega arith) refl refl;
    did = did_none gains old free;
  }

  -- no memory behind that
  pub starves_timed : (t t2 : Option (List ℕ)) (supplies : Supplies N) (j : List Note) (moment : ℕ) → gains supplies.nonces supplies.nonces []
      → t2 ≡ append_known t (moment ∷ []) → StarvesAt gains conf head (met t supplies j) (met t2 supplies j)
  starves_timed t t2 supplies j moment free given = record {
    part = record { moments = moment ∷ []; calls = []; finds = []; notes = [] };
    starves = halts.unnoted (omega arith) (omega arith) refl refl;
    did = record { given = given; draws = asks_none gains supplies free; noted = sym (append-nil j) };
  }

  -- a request was answered, and that was noted
  pub gives_answer : (t t2 : Option (List ℕ)) (old new : Supplies N) (j j2 : List Note) (moment : ℕ) (subject : Subject) (answer : Answer) (result : Result (List ℕ) NoMemory)
      → t2 ≡ append_known t (moment ∷ []) → subject ≡ subject_of conf (ask_of conf head moment) → AnswersRequest gains conf head last (ask_of conf head moment) old new answer
      → result ≡ text_by answer.reply → j2 ≡ j ++ notes_by subject answer.verdict answer.call answer.reply
      → ComesOfRequest gains conf last head (met t old j) (met t2 new j2) result
  gives_answer t t2 old new j j2 moment subject answer result given is (with_reply outcome r decides verdict turned ok says asks) text noted =
      subst (ComesOfRequest gains conf last head (met t old j) (met t2 new j2)) (sym (text ∙ ap text_by ok)) (record {
        moment = moment;
        outcome = outcome;
        decides = decides;
        text_is = says.text;
        did = record {
          given = given;
          draws = asks;
          noted = noted ∙ ap (λ n. j ++ n) (noted_as conf (ask_of conf head moment) subject answer.verdict answer.call answer.reply outcome r head last is verdict turned ok says);
        };
      })
  gives_answer t t2 old new j j2 moment subject answer result given is (without_call finds want few none wants asks) text noted =
      subst (ComesOfRequest gains conf last head (met t old j) (met t2 new j2)) (sym (text ∙ ap text_by wants)) (record {
        part = record { moments = moment ∷ []; calls = []; finds = finds; notes = [] };
        starves = halts.unnoted (omega arith) few refl refl;
        did = record { given = given; draws = asks; noted = noted ∙ (λ i. j ++ notes_by subject answer.verdict (none i) (wants i)) };
      })
  gives_answer t t2 old new j j2 moment subject answer result given is (with_call content token members key of finds want judges made few verdict turned wants asks) text noted =
      subst (ComesOfRequest gains conf last head (met t old j) (met t2 new j2)) (sym (text ∙ ap text_by wants)) (record {
        part = record {
          moments = moment ∷ [];
          calls = of ∷ [];
          finds = finds;
          notes = unreplied_note conf (ask_of conf head moment) (of ∷ []) ∷ [];
        };
        starves = halts.noted moment content token members key of judges made refl refl few refl;
        did = record { given = given; draws = asks; noted = noted ∙ (λ i. j ++ notes_by (is i) (verdict i) (turned i) (wants i)) };
      })

  -- ---- a head

  pub gives_request : (old new : Met N) (result : Result (List ℕ) NoMemory) → head.body ≡ false → head.method ≢ method.Other
      → ComesOfRequest gains conf last head old new result → ComesOfHead gains conf last head old new result
  gives_request old new (Ok text) unannounced other requested = record {
    work = work_of conf head last (ask_of conf head requested.moment) requested.outcome;
    works = request unannounced other requested.moment requested.outcome requested.decides refl;
    text_is = requested.text_is;
    did = requested.did;
  }
  gives_request old new (Err want) unannounced other starves = starves

  pub gives_body : (old : Met N) (result : Result (List ℕ) NoMemory) → gains old.supplies.nonces old.supplies.nonces [] → head.body ≡ true
      → IfOk result (λ text. text ≡ reply_text (body_reply head)) → ComesOfHead gains conf last head old old result
  gives_body old (Ok text) free announced is = record {
    work = unasked (body_reply head);
    works = body announced refl;
    text_is = is;
    did = did_none gains old free;
  }
  gives_body old (Err want) free announced is = starves_first old free

  pub gives_method : (old : Met N) (result : Result (List ℕ) NoMemory) → gains old.supplies.nonces old.supplies.nonces [] → head.body ≡ false → head.method ≡ method.Other
      → IfOk result (λ text. text ≡ reply_text (method_reply head last)) → ComesOfHead gains conf last head old old result
  gives_method old (Ok text) free unannounced other is = record {
    work = unasked (method_reply head last);
    works = other_method unannounced other refl;
    text_is = is;
    did = did_none gains old free;
  }
  gives_method old (Err want) free unannounced other is = starves_first old free
