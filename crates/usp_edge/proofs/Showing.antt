-- The notes of a connection show its nonce calls and its moments.
use Rattle.std.proofs.Common.{◌≡◌, refl, sym, ap, ◌∙◌, subst, ℕ, ◌≤◌, List, [], ◌∷◌, ◌++◌, map, length, option_to_list, append_assoc, Bool, arith}
use Rattle.std.proofs.lemmas.List.{map-append}
use Rattle.usp_conf.specs.Values.{ConfValue}
use Rattle.usp_http.specs.Finding.{Stop}
use Rattle.usp_http.specs.declared.head.Head.{Head}
use Rattle.usp_edge.specs.Calls.{Placed, turned_of}
use Rattle.usp_edge.specs.Halts.{Part, Starves, StarvedSession, BrokenSession, at_head, between, closing, noted, reply, unnoted}
use Rattle.usp_edge.specs.Honest.{AreMoments, AreShown, turns_in}
use Rattle.usp_edge.specs.Outcomes.{turn_of}
use Rattle.usp_edge.specs.Session as session
use Rattle.usp_edge.specs.Session.{Progress, Goes, Session, further, start}
use Rattle.usp_edge.specs.Work.{Work, Works, body, other_method, request}
use Rattle.usp_edge.specs.declared.end.End.{End}
use Rattle.usp_edge.specs.declared.note.Note.{Note}
use Rattle.usp_edge.proofs.Counting.{decides_few}

turns_both : (x y : List Note) → turns_in (x ++ y) ≡ turns_in x ++ turns_in y
turns_both [] y = refl
turns_both (note ∷ x) y = ap (λ t. option_to_list note.call ++ t) (turns_both x y) ∙ sym (append_assoc (option_to_list note.call) (turns_in x) (turns_in y))

shown_both : (c c2 : List Placed) (n n2 : List Note) → AreShown c n → AreShown c2 n2 → AreShown (c ++ c2) (n ++ n2)
shown_both c c2 n n2 first second = map-append turned_of c c2 ∙ ((λ i. first i ++ second i) ∙ sym (turns_both n n2))

moments_both : (m m2 : List ℕ) (n n2 : List Note) → AreMoments m n → AreMoments m2 n2 → AreMoments (m ++ m2) (n ++ n2)
moments_both m m2 n n2 first second = (λ i. first i ++ second i) ∙ sym (map-append (λ (note : Note). note.moment) n n2)

one_shown : (calls : List Placed) → length calls ≤ 1 → map turned_of calls ≡ option_to_list (turn_of calls) ++ []
one_shown [] few = refl
one_shown (of ∷ []) few = refl
one_shown (of ∷ of2 ∷ calls) few = absurd (omega (arith, few))

-- the calls are shown, and the moments are those of the notes
abbrev AreTold : List Placed → List ℕ → List Note → Type 0
AreTold calls moments notes = AreShown calls notes × AreMoments moments notes

told_both : (c c2 : List Placed) (m m2 : List ℕ) (n n2 : List Note) → AreTold c m n → AreTold c2 m2 n2 → AreTold (c ++ c2) (m ++ m2) (n ++ n2)
told_both c c2 m m2 n n2 first second = (shown_both c c2 n n2 first.0 second.0, moments_both m m2 n n2 first.1 second.1)

works_told : (conf : ConfValue) (last : Bool) (head : Head) (work : Work) → Works conf last head work → AreTold work.calls work.moments work.notes
works_told conf last head work (body announced is) = subst (λ w. AreTold w.calls w.moments w.notes) (sym is) (refl, refl)
works_told conf last head work (other_method unannounced other is) = subst (λ w. AreTold w.calls w.moments w.notes) (sym is) (refl, refl)
works_told conf last head work (request unannounced method moment outcome decides is) =
    subst (λ w. AreTold w.calls w.moments w.notes) (sym is) (one_shown outcome.calls (decides_few conf _ outcome decides), refl)

goes_told : (conf : ConfValue) (bytes : List ℕ) (progress : Progress) → Goes conf bytes progress → AreTold progress.calls progress.moments progress.notes
goes_told conf bytes progress (start progress1 is) = subst (λ f. AreTold f.calls f.moments f.notes) (sym is) (refl, refl)
goes_told conf bytes progress (further before progress1 head after work goes head_is works behind is) =
    subst (λ f. AreTold f.calls f.moments f.notes) (sym is)
    (told_both before.calls work.calls before.moments work.moments before.notes work.notes (goes_told conf bytes before goes) (works_told conf _ head work works))

pub session_told : (conf : ConfValue) (bytes : List ℕ) (stop : Stop) (progress : Progress) (ends : End) → Session conf bytes stop progress ends
    → AreShown progress.calls progress.notes × AreMoments progress.moments progress.notes
session_told conf bytes stop progress ends (session.at_head before head after work goes head_is works behind is) =
    subst (λ f. AreTold f.calls f.moments f.notes) (sym is)
    (told_both before.calls work.calls before.moments work.moments before.notes work.notes (goes_told conf bytes before goes) (works_told conf _ head work works))
session_told conf bytes stop progress ends (session.at_rest before result after text goes finds end_is is) =
    subst (λ f. AreTold f.calls f.moments f.notes) (sym is) (goes_told conf bytes before goes)

pub writes_told : (conf : ConfValue) (bytes : List ℕ) (stop : Stop) (progress : Progress) (text : List ℕ) → BrokenSession conf bytes stop progress text
    → AreShown progress.calls progress.notes × AreMoments progress.moments progress.notes
writes_told conf bytes stop progress text (reply before head after work goes head_is works is text_is) =
    subst (λ f. AreTold f.calls f.moments f.notes) (sym is)
    (told_both before.calls work.calls before.moments work.moments before.notes work.notes (goes_told conf bytes before goes) (works_told conf _ head work works))
writes_told conf bytes stop progress text (closing before result after ends goes finds end_is is text_is) =
    subst (λ f. AreTold f.calls f.moments f.notes) (sym is) (goes_told conf bytes before goes)

starves_shown : (conf : ConfValue) (head : Head) (part : Part) → Starves conf head part → AreShown part.calls part.notes
starves_shown conf head part (unnoted moments finds calls notes) = ap (map turned_of) calls ∙ sym (ap turns_in notes)
starves_shown conf head part (noted moment content token members key of judges made moments calls few notes) = ap (map turned_of) calls ∙ sym (ap turns_in notes)

pub wants_shown : (conf : ConfValue) (bytes : List ℕ) (progress : Progress) → StarvedSession conf bytes progress → AreShown progress.calls progress.notes
wants_shown conf bytes progress (between goes) = (goes_told conf bytes progress goes).0
wants_shown conf bytes progress (at_head before head after part goes head_is starves is) =
    subst (λ f. AreShown f.calls f.notes) (sym is)
    (shown_both before.calls part.calls before.notes part.notes (goes_told conf bytes before goes).0 (starves_shown conf head part starves))
