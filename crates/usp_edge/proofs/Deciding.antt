-- The notes of a connection are decided by its nonce calls.
use Rattle.std.proofs.Common.{◌≡◌, refl, sym, ◌∙◌, subst, ℕ, List, [], ◌∷◌, ◌++◌, append_assoc, append-nil, Bool}
use Rattle.usp_conf.specs.Values.{ConfValue}
use Rattle.usp_http.specs.Finding.{Stop}
use Rattle.usp_http.specs.declared.head.Head.{Head}
use Rattle.usp_json.specs.declared.value.Members.{Members}
use Rattle.usp_rules.specs.Asks.{AskValue}
use Rattle.usp_rules.specs.Judging.{Judges}
use Rattle.usp_rules.specs.declared.judged.Judged.TheVariants as judged
use Rattle.usp_edge.specs.Calls.{Placed}
use Rattle.usp_edge.specs.Halts.{Part, Starves, StarvedSession, BrokenSession, at_head, between, closing, noted, reply, unnoted}
use Rattle.usp_edge.specs.Outcomes.{Calls, Decides, Outcome, Serves, absent, by_all, by_judgement, by_nonce, on, there, turn_of, unanswered, verdict_of}
use Rattle.usp_edge.specs.Session as session
use Rattle.usp_edge.specs.Session.{Progress, Goes, Session, further, start}
use Rattle.usp_edge.specs.Work.{Work, Works, body, note_of, other_method, request}
use Rattle.usp_edge.specs.declared.end.End.{End}
use Rattle.usp_edge.specs.declared.note.Note.{Note}
use Rattle.usp_edge.specs.declared.note.Verdict.TheVariants.{Admitted}
use Rattle.usp_edge.specs.Decided.{AreDecidedBy, IsDecidedBy, by_calls, by_rules, more, none}

module _ (conf : ConfValue) where
  pub decided_both : (n n2 : List Note) (c c2 : List Placed) → AreDecidedBy conf n c → AreDecidedBy conf n2 c2 → AreDecidedBy conf (n ++ n2) (c ++ c2)
  decided_both _ n2 _ c2 none second = second
  decided_both _ n2 _ c2 (more note notes calls rest by behind) second =
      subst (λ (c : List Placed). AreDecidedBy conf (note ∷ (notes ++ n2)) c) (sym (append_assoc calls rest c2))
      (more note (notes ++ n2) calls (rest ++ c2) by (decided_both notes n2 rest c2 behind second))

  decided_one : (note : Note) (calls : List Placed) → IsDecidedBy conf note calls → AreDecidedBy conf (note ∷ []) calls
  decided_one note calls by = subst (λ (c : List Placed). AreDecidedBy conf (note ∷ []) c) (append-nil calls) (more note [] calls [] by none)

  -- where rules 1 to 15 hold, the calls decide
  passed_by : (ask : AskValue) (content token : List ℕ) (members : Members) (key : ℕ) (calls : List Placed) (outcome : Outcome)
      → Judges conf.site.profile ask (judged.Passed content token members key) → Calls members content ask.moment calls
      → outcome.calls ≡ calls → outcome.verdict ≡ verdict_of calls → IsDecidedBy conf (note_of conf ask outcome) outcome.calls
  passed_by ask content token members key calls outcome judges made same verdict =
      by_calls ask content token members key (record { uri = refl; token = refl; moment = refl }) judges
      (subst (λ (c : List Placed). Calls members content ask.moment c) (sym same) made) (subst (λ (c : List Placed). outcome.verdict ≡ verdict_of c) (sym same) verdict) refl

  served_calls : (members : Members) (content : List ℕ) (moment : ℕ) (calls : List Placed) (outcome : Outcome)
      → Serves conf members content moment calls outcome → (outcome.calls ≡ calls) × (outcome.verdict ≡ Admitted)
  served_calls members content moment calls outcome (on place signed sending is) = ((λ i. (is i).calls), (λ i. (is i).verdict))
  served_calls members content moment calls outcome (there bytes issued sending renews is) = ((λ i. (is i).calls), (λ i. (is i).verdict))
  served_calls members content moment calls outcome (absent sending is) = ((λ i. (is i).calls), (λ i. (is i).verdict))
  served_calls members content moment calls outcome (unanswered sending is) = ((λ i. (is i).calls), (λ i. (is i).verdict))

  decides_by : (ask : AskValue) (outcome : Outcome) → Decides conf ask outcome → IsDecidedBy conf (note_of conf ask outcome) outcome.calls
  decides_by ask outcome (by_judgement rule judges is) =
      by_rules ask rule (record { uri = refl; token = refl; moment = refl }) judges (λ i. (is i).verdict) (λ i. turn_of (is i).calls) (λ i. (is i).calls)
  decides_by ask outcome (by_nonce content token members key calls rule judges made verdict is) =
      passed_by ask content token members key calls outcome judges made (λ i. (is i).calls) ((λ i. (is i).verdict) ∙ sym verdict)
  decides_by ask outcome (by_all content token members key calls judges made verdict serves) =
      let both = served_calls members content ask.moment calls outcome serves in
      passed_by ask content token members key calls outcome judges made both.0 (both.1 ∙ sym verdict)

  works_decided : (last : Bool) (head : Head) (work : Work) → Works conf last head work → AreDecidedBy conf work.notes work.calls
  works_decided last head work (body announced is) = subst (λ (w : Work). AreDecidedBy conf w.notes w.calls) (sym is) none
  works_decided last head work (other_method unannounced other is) = subst (λ (w : Work). AreDecidedBy conf w.notes w.calls) (sym is) none
  works_decided last head work (request unannounced method moment outcome decides is) =
      subst (λ (w : Work). AreDecidedBy conf w.notes w.calls) (sym is) (decided_one _ outcome.calls (decides_by _ outcome decides))

  goes_decided : (bytes : List ℕ) (progress : Progress) → Goes conf bytes progress → AreDecidedBy conf progress.notes progress.calls
  goes_decided bytes progress (start progress1 is) = subst (λ (f : Progress). AreDecidedBy conf f.notes f.calls) (sym is) none
  goes_decided bytes progress (further before progress1 head after work goes head_is works behind is) =
      subst (λ (f : Progress). AreDecidedBy conf f.notes f.calls) (sym is)
      (decided_both before.notes work.notes before.calls work.calls (goes_decided bytes before goes) (works_decided _ head work works))

  pub session_decided : (bytes : List ℕ) (stop : Stop) (progress : Progress) (ends : End) → Session conf bytes stop progress ends → AreDecidedBy conf progress.notes progress.calls
  session_decided bytes stop progress ends (session.at_head before head after work goes head_is works behind is) =
      subst (λ (f : Progress). AreDecidedBy conf f.notes f.calls) (sym is)
      (decided_both before.notes work.notes before.calls work.calls (goes_decided bytes before goes) (works_decided _ head work works))
  session_decided bytes stop progress ends (session.at_rest before result after text goes finds end_is is) =
      subst (λ (f : Progress). AreDecidedBy conf f.notes f.calls) (sym is) (goes_decided bytes before goes)

  pub broken_decided : (bytes : List ℕ) (stop : Stop) (progress : Progress) (text : List ℕ) → BrokenSession conf bytes stop progress text
      → AreDecidedBy conf progress.notes progress.calls
  broken_decided bytes stop progress text (reply before head after work goes head_is works is text_is) =
      subst (λ (f : Progress). AreDecidedBy conf f.notes f.calls) (sym is)
      (decided_both before.notes work.notes before.calls work.calls (goes_decided bytes before goes) (works_decided _ head work works))
  broken_decided bytes stop progress text (closing before result after ends goes finds end_is is text_is) =
      subst (λ (f : Progress). AreDecidedBy conf f.notes f.calls) (sym is) (goes_decided bytes before goes)

  decided_as : (n n2 : List Note) (c c2 : List Placed) → n ≡ n2 → c ≡ c2 → AreDecidedBy conf n2 c2 → AreDecidedBy conf n c
  decided_as n n2 c c2 notes calls so =
      subst (λ (k : List Note). AreDecidedBy conf k c) (sym notes) (subst (λ (k : List Placed). AreDecidedBy conf n2 k) (sym calls) so)

  starves_decided : (head : Head) (part : Part) → Starves conf head part → AreDecidedBy conf part.notes part.calls
  starves_decided head part (unnoted moments finds calls notes) = decided_as part.notes [] part.calls [] notes calls none
  starves_decided head part (noted moment content token members key of judges made moments calls few notes) =
      decided_as part.notes _ part.calls (of ∷ []) notes calls
      (decided_one _ (of ∷ []) (by_calls _ content token members key (record { uri = refl; token = refl; moment = refl }) judges made refl refl))

  pub starved_decided : (bytes : List ℕ) (progress : Progress) → StarvedSession conf bytes progress → AreDecidedBy conf progress.notes progress.calls
  starved_decided bytes progress (between goes) = goes_decided bytes progress goes
  starved_decided bytes progress (at_head before head after part goes head_is starves is) =
      subst (λ (f : Progress). AreDecidedBy conf f.notes f.calls) (sym is)
      (decided_both before.notes part.notes before.calls part.calls (goes_decided bytes before goes) (starves_decided head part starves))
