-- The notes of a connection are honest.
use Rattle.std.proofs.Common.{◌≡◌, refl, sym, ◌∙◌, subst, ℕ, suc, ◌+◌, List, [], ◌∷◌, ◌++◌, Bool, Option, Some, None, IfSome, inl, inr, slice_get, arith}
use Rattle.std.proofs.lemmas.Option.{none-some, same_Some, some_pair_parts}
use Rattle.usp_conf.specs.Values.{ConfValue}
use Rattle.usp_http.specs.Finding.{Stop}
use Rattle.usp_http.specs.declared.head.Head.{Head}
use Rattle.usp_issue.specs.Redirections as redirections
use Rattle.usp_issue.specs.Redirections.{SendsFrom, Signs}
use Rattle.usp_issue.specs.Renewals.{Renews}
use Rattle.usp_issue.specs.Resignings.{IsResigned}
use Rattle.usp_issue.specs.Routes.{RouteValue}
use Rattle.usp_issue.specs.declared.signed.Signed.{Signed}
use Rattle.usp_json.specs.declared.value.Members.{Members}
use Rattle.usp_nonce.specs.declared.answer.Turned.{Turned}
use Rattle.usp_nonce.specs.declared.answer.Answer.{Answer}
use Rattle.usp_nonce.specs.declared.answer.Answer.TheVariants.{Full, Late, Seen, Taken}
use Rattle.usp_rules.proofs.Admitting.{admits}
use Rattle.usp_rules.specs.Asks.{AskValue}
use Rattle.usp_rules.specs.Judging.{Judges}
use Rattle.usp_rules.specs.declared.judged.Judged.TheVariants as judged
use Rattle.usp_rules.specs.declared.rule.Rule.{Rule}
use Rattle.usp_edge.specs.Asks.{ask_of, attribute_of, brought}
use Rattle.usp_edge.specs.Calls.{Placed}
use Rattle.usp_edge.specs.Halts.{Part, Starves, StarvedSession, BrokenSession, at_head, between, closing, noted, reply, unnoted}
use Rattle.usp_edge.specs.Honest.{AreHonest, IsAdmission, HasVerdict, IsHonest, IsIssuedBy}
use Rattle.usp_edge.specs.Outcomes.{Decides, Outcome, RenewsWithOwn, Sends, Serves, absent, answer_verdict, by_all, by_judgement, by_nonce, denied, on, redirected, there, turn_of, unanswered, verdict_by, verdict_of}
use Rattle.usp_edge.specs.Session as session
use Rattle.usp_edge.specs.Session.{Progress, Goes, Session, further, start}
use Rattle.usp_edge.specs.Work.{Work, Works, body, note_of, other_method, request}
use Rattle.usp_edge.specs.declared.end.End.{End}
use Rattle.usp_edge.specs.declared.note.Note.{Note}
use Rattle.usp_edge.specs.declared.note.Verdict.{Verdict}
use Rattle.usp_edge.specs.declared.note.Verdict.TheVariants.{Admitted, Denied}

-- ---- one note

not_denied : (rule : Rule) → Denied rule ≡ Admitted → ⊥
not_denied rule e = absurd (cc)

taken_by : (answer : Answer) → answer_verdict answer ≡ Admitted → answer ≡ Taken
taken_by Taken is = refl
taken_by Late is = absurd (not_denied _ is)
taken_by Seen is = absurd (not_denied _ is)
taken_by Full is = absurd (not_denied _ is)

calls_taken : (calls : List Placed) → verdict_of calls ≡ Admitted → IfSome (turn_of calls) (λ turned. turned.answer ≡ Taken)
calls_taken [] is = tt
calls_taken (of ∷ calls) is = taken_by of.call.answer is

turned_verdict : (calls : List Placed) → verdict_of calls ≡ verdict_by (turn_of calls)
turned_verdict [] = refl
turned_verdict (of ∷ calls) = refl

-- the route at the place that was answered
record Sent (name : List ℕ) (members : Members) (content : List ℕ) (moment from : ℕ) (routes : List RouteValue) (place : ℕ) (signed : Signed) : Type 0 where
  index : ℕ
  route : RouteValue
  place_is : place ≡ from + index
  at : slice_get routes index ≡ Some route
  signs : Signs name members content moment route signed

sent_later : (name : List ℕ) (members : Members) (content : List ℕ) (moment from : ℕ) (first : RouteValue) (routes : List RouteValue) (place : ℕ) (signed : Signed)
    → Sent name members content moment (from + 1) routes place signed → Sent name members content moment from (first ∷ routes) place signed
sent_later name members content moment from first routes place signed sent = record {
  index = suc sent.index;
  route = sent.route;
  place_is = omega (arith, sent.place_is);
  at = sent.at;
  signs = sent.signs;
}

sent_at : (name : List ℕ) (members : Members) (content : List ℕ) (moment from : ℕ) (routes : List RouteValue) (place : ℕ) (signed : Signed) (found : Option (ℕ × Signed))
    → SendsFrom name members content moment from routes found → found ≡ Some (place, signed) → Sent name members content moment from routes place signed
sent_at name members content moment _ _ place signed _ (redirections.none from found is) same = absurd (cc)
sent_at name members content moment _ _ place signed _ (redirections.sends from route routes signed2 found has signs is) same =
    let both = some_pair_parts from place signed2 signed (sym is ∙ same) in
    record {
      index = 0;
      route = route;
      place_is = omega (arith, both.0);
      at = refl;
      signs = subst (Signs name members content moment route) both.1 signs;
    }
sent_at name members content moment _ _ place signed _ (redirections.elsewhere from route routes found has behind) same =
    sent_later name members content moment from route routes place signed (sent_at name members content moment (from + 1) routes place signed found behind same)
sent_at name members content moment _ _ place signed _ (redirections.refused from route routes found why behind) same =
    sent_later name members content moment from route routes place signed (sent_at name members content moment (from + 1) routes place signed found behind same)

-- a place is below the number of routes
pub place_below : (name : List ℕ) (members : Members) (content : List ℕ) (moment : ℕ) (routes : List RouteValue) (place : ℕ) (signed : Signed)
    → SendsFrom name members content moment 0 routes (Some (place, signed)) → (route : RouteValue) × (slice_get routes place ≡ Some route) × Signs name members content moment route signed
place_below name members content moment routes place signed way =
    let sent = sent_at name members content moment 0 routes place signed _ way refl in
    (sent.route, subst (λ k. slice_get routes k ≡ Some sent.route) (omega (arith, sent.place_is)) sent.at, sent.signs)

renewed_by : (conf : ConfValue) (members : Members) (content : List ℕ) (moment : ℕ) (issued : Option (List ℕ)) (token : List ℕ) → RenewsWithOwn conf members content moment issued → issued ≡ Some token
    → IsIssuedBy conf members content moment None token
renewed_by conf members content moment issued token own is = (own.key, own.own, subst (Renews members content moment own.key) is own.renews)

abbrev note_from : ConfValue → AskValue → Verdict → Option Turned → (route : Option ℕ) → (issued : Option (List ℕ)) → (status : ℕ) → Note
note_from conf ask v call route issued status = record {
  uri = ask.uri;
  token = brought conf ask;
  moment = ask.moment;
  verdict = v;
  call = call;
  route = route;
  issued = issued;
  status = status;
}

module _ (conf : ConfValue) (ask : AskValue) where
  decided_behind : (content token : List ℕ) (members : Members) (key : ℕ) (v : Verdict) (calls : List Placed) (route : Option ℕ) (issued : Option (List ℕ)) (status : ℕ)
      → Judges conf.site.profile ask (judged.Passed content token members key) → v ≡ verdict_of calls → HasVerdict conf (note_from conf ask v (turn_of calls) route issued status)
  decided_behind content token members key v calls route issued status judges is = record {
    ask = ask;
    uri = refl;
    token = refl;
    moment = refl;
    verdict = inr (judges.0, is ∙ turned_verdict calls);
  }

  -- what passes rules 1 to 15 was brought, and is valid
  abbrev admission : (content token : List ℕ) (members : Members) (key : ℕ) (v : Verdict) (call : Option Turned) (route : Option ℕ) (issued : Option (List ℕ)) (status : ℕ)
      → Judges conf.site.profile ask (judged.Passed content token members key) → IsAdmission conf (note_from conf ask v call route issued status)
  admission content token members key v call route issued status judges =
      let admitted = admits conf.site.profile ask content token members key judges in
      record {
        token = token;
        content = content;
        members = members;
        brought = admitted.brought;
        of = admitted.of;
        valid = admitted.valid;
        claims = admitted.claims;
      }

  honest_before : (rule : Rule) → Judges conf.site.profile ask (judged.Denied rule) → IsHonest conf (note_of conf ask (denied [] rule))
  honest_before rule judges = record {
    decided = record { ask = ask; uri = refl; token = refl; moment = refl; verdict = inl (rule, judges, refl, refl) };
    admitted = λ is. absurd (not_denied rule is);
    issued = λ token is. absurd (none-some token is);
  }

  honest_denied : (content token : List ℕ) (members : Members) (key : ℕ) (calls : List Placed) (rule : Rule) → Judges conf.site.profile ask (judged.Passed content token members key)
      → verdict_of calls ≡ Denied rule → IsHonest conf (note_of conf ask (denied calls rule))
  honest_denied content token members key calls rule judges by = record {
    decided = decided_behind content token members key (Denied rule) calls None None _ judges (sym by);
    admitted = λ is. absurd (not_denied rule is);
    issued = λ t is. absurd (none-some t is);
  }

  -- admitted, and nothing was issued
  honest_plain : (content token : List ℕ) (members : Members) (key : ℕ) (v : Verdict) (calls : List Placed) (status : ℕ) → Judges conf.site.profile ask (judged.Passed content token members key)
      → v ≡ verdict_of calls → IsHonest conf (note_from conf ask v (turn_of calls) None None status)
  honest_plain content token members key v calls status judges by = record {
    decided = decided_behind content token members key v calls None None status judges by;
    admitted = λ is. admission content token members key v (turn_of calls) None None status judges;
    issued = λ t is. absurd (none-some t is);
  }

  honest_sent : (content token : List ℕ) (members : Members) (key : ℕ) (calls : List Placed) (place : ℕ) (signed : Signed) → Judges conf.site.profile ask (judged.Passed content token members key)
      → verdict_of calls ≡ Admitted → Sends conf members content ask.moment (Some (place, signed)) → IsHonest conf (note_of conf ask (redirected calls place signed))
  honest_sent content token members key calls place signed judges by way = record {
    decided = decided_behind content token members key Admitted calls (Some place) (Some signed.token) 302 judges (sym by);
    admitted = λ is. admission content token members key Admitted (turn_of calls) (Some place) (Some signed.token) 302 judges;
    issued = λ t is. record {
      admission = admission content token members key Admitted (turn_of calls) (Some place) (Some signed.token) 302 judges;
      issued =
          let sent = place_below (attribute_of conf) members content ask.moment conf.site.routes place signed way in
          (sent.0, sent.1, subst (IsResigned members content ask.moment sent.0) (same_Some signed.token t is) sent.2.resigned);
      taken = calls_taken calls by;
    };
  }

  honest_shown : (content token : List ℕ) (members : Members) (key : ℕ) (calls : List Placed) (issued : Option (List ℕ)) → Judges conf.site.profile ask (judged.Passed content token members key)
      → verdict_of calls ≡ Admitted → RenewsWithOwn conf members content ask.moment issued → IsHonest conf (note_from conf ask Admitted (turn_of calls) None issued 200)
  honest_shown content token members key calls issued judges by renews = record {
    decided = decided_behind content token members key Admitted calls None issued 200 judges (sym by);
    admitted = λ is. admission content token members key Admitted (turn_of calls) None issued 200 judges;
    issued = λ t is. record {
      admission = admission content token members key Admitted (turn_of calls) None issued 200 judges;
      issued = renewed_by conf members content ask.moment issued t renews is;
      taken = calls_taken calls by;
    };
  }

  serves_honest : (content token : List ℕ) (members : Members) (key : ℕ) (calls : List Placed) (outcome : Outcome) → Judges conf.site.profile ask (judged.Passed content token members key)
      → verdict_of calls ≡ Admitted → Serves conf members content ask.moment calls outcome → IsHonest conf (note_of conf ask outcome)
  serves_honest content token members key calls outcome judges by (on place signed way is) =
      subst (λ o. IsHonest conf (note_of conf ask o)) (sym is) (honest_sent content token members key calls place signed judges by way)
  serves_honest content token members key calls outcome judges by (there bytes issued way renews is) =
      subst (λ o. IsHonest conf (note_of conf ask o)) (sym is) (honest_shown content token members key calls issued judges by renews)
  serves_honest content token members key calls outcome judges by (absent way is) =
      subst (λ o. IsHonest conf (note_of conf ask o)) (sym is) (honest_plain content token members key Admitted calls 404 judges (sym by))
  serves_honest content token members key calls outcome judges by (unanswered way is) =
      subst (λ o. IsHonest conf (note_of conf ask o)) (sym is) (honest_plain content token members key Admitted calls 502 judges (sym by))

  decides_honest : (outcome : Outcome) → Decides conf ask outcome → IsHonest conf (note_of conf ask outcome)
  decides_honest outcome (by_judgement rule judges is) = subst (λ o. IsHonest conf (note_of conf ask o)) (sym is) (honest_before rule judges)
  decides_honest outcome (by_nonce content token members key calls rule judges made by is) =
      subst (λ o. IsHonest conf (note_of conf ask o)) (sym is) (honest_denied content token members key calls rule judges by)
  decides_honest outcome (by_all content token members key calls judges made by serves) = serves_honest content token members key calls outcome judges by serves

-- ---- the notes of heads

honest_both : (conf : ConfValue) (x y : List Note) → AreHonest conf x → AreHonest conf y → AreHonest conf (x ++ y)
honest_both conf [] y first second = second
honest_both conf (note ∷ x) y (here, first) second = (here, honest_both conf x y first second)

works_honest : (conf : ConfValue) (last : Bool) (head : Head) (work : Work) → Works conf last head work → AreHonest conf work.notes
works_honest conf last head work (body announced is) = subst (λ w. AreHonest conf w.notes) (sym is) tt
works_honest conf last head work (other_method unannounced other is) = subst (λ w. AreHonest conf w.notes) (sym is) tt
works_honest conf last head work (request unannounced method moment outcome decides is) =
    subst (λ w. AreHonest conf w.notes) (sym is) (decides_honest conf (ask_of conf head moment) outcome decides, tt)

starves_honest : (conf : ConfValue) (head : Head) (part : Part) → Starves conf head part → AreHonest conf part.notes
starves_honest conf head part (unnoted moments finds calls notes) = subst (AreHonest conf) (sym notes) tt
starves_honest conf head part (noted moment content token members key of judges made moments calls few notes) =
    subst (AreHonest conf) (sym notes) (honest_plain conf (ask_of conf head moment) content token members key (verdict_of (of ∷ [])) (of ∷ []) 0 judges refl, tt)

goes_honest : (conf : ConfValue) (bytes : List ℕ) (progress : Progress) → Goes conf bytes progress → AreHonest conf progress.notes
goes_honest conf bytes progress (start progress1 is) = subst (λ f. AreHonest conf f.notes) (sym is) tt
goes_honest conf bytes progress (further before progress1 head after work goes head_is works behind is) =
    subst (λ f. AreHonest conf f.notes) (sym is) (honest_both conf before.notes work.notes (goes_honest conf bytes before goes) (works_honest conf _ head work works))

pub session_honest : (conf : ConfValue) (bytes : List ℕ) (stop : Stop) (progress : Progress) (ends : End) → Session conf bytes stop progress ends → AreHonest conf progress.notes
session_honest conf bytes stop progress ends (session.at_head before head after work goes head_is works behind is) =
    subst (λ f. AreHonest conf f.notes) (sym is) (honest_both conf before.notes work.notes (goes_honest conf bytes before goes) (works_honest conf _ head work works))
session_honest conf bytes stop progress ends (session.at_rest before result after text goes finds end_is is) =
    subst (λ f. AreHonest conf f.notes) (sym is) (goes_honest conf bytes before goes)

pub writes_honest : (conf : ConfValue) (bytes : List ℕ) (stop : Stop) (progress : Progress) (text : List ℕ) → BrokenSession conf bytes stop progress text → AreHonest conf progress.notes
writes_honest conf bytes stop progress text (reply before head after work goes head_is works is text_is) =
    subst (λ f. AreHonest conf f.notes) (sym is) (honest_both conf before.notes work.notes (goes_honest conf bytes before goes) (works_honest conf _ head work works))
writes_honest conf bytes stop progress text (closing before result after ends goes finds end_is is text_is) =
    subst (λ f. AreHonest conf f.notes) (sym is) (goes_honest conf bytes before goes)

pub wants_honest : (conf : ConfValue) (bytes : List ℕ) (progress : Progress) → StarvedSession conf bytes progress → AreHonest conf progress.notes
wants_honest conf bytes progress (between goes) = goes_honest conf bytes progress goes
wants_honest conf bytes progress (at_head before head after part goes head_is starves is) =
    subst (λ f. AreHonest conf f.notes) (sym is) (honest_both conf before.notes part.notes (goes_honest conf bytes before goes) (starves_honest conf head part starves))
