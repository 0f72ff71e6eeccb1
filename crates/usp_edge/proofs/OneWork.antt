-- A head is worked in one way, for the moment, the nonce calls and the finds that it met.
use Rattle.std.proofs.Common.{◌≡◌, refl, sym, ap, ◌∙◌, subst, ℕ, List, [], ◌∷◌, ◌++◌, Bool, true, false, Option, Some, None, codes}
use Rattle.std.proofs.lemmas.Option.{none-some, same_Some, some_pair_parts}
use Rattle.usp_claims.specs.Table.{text_claim}
use Rattle.usp_conf.specs.Values.{ConfValue}
use Rattle.usp_http.specs.declared.head.Head.{Head}
use Rattle.usp_issue.proofs.Single.{one_way}
use Rattle.usp_issue.specs.Renewals.{Renews}
use Rattle.usp_issue.specs.declared.signed.Signed.{Signed}
use Rattle.usp_json.specs.Canon.{canon_members}
use Rattle.usp_json.specs.declared.value.Members.{Members}
use Rattle.usp_jws.specs.Keys.{KeyValue}
use Rattle.usp_jws.specs.Sealed.{sealed}
use Rattle.usp_rules.proofs.Verdicts.{one_verdict}
use Rattle.usp_rules.specs.Asks.{AskValue}
use Rattle.usp_rules.specs.Judging.{Judges}
use Rattle.usp_rules.specs.declared.judged.Judged.{Judged}
use Rattle.usp_rules.specs.declared.judged.Judged.TheVariants as judged
use Rattle.usp_rules.specs.declared.rule.Rule.{Rule}
use Rattle.usp_edge.specs.Asks.{ask_of, attribute_of}
use Rattle.usp_edge.specs.Calls.{Placed}
use Rattle.usp_edge.specs.Outcomes.{Calls, CallsFor, Decides, Find, ObjectAnswer, Outcome, RenewsWithOwn, Sends, Serves, absent, by_all, by_judgement, by_nonce, denied, failed, find, no_memory, object, on, redirected, renewal_field, shown, there, unanswered, unshown, verdict_of}
use Rattle.usp_edge.specs.Work.{Work, Works, body, other_method, request, work_of}
use Rattle.usp_edge.specs.declared.note.Verdict.TheVariants as verdict

same_first : {A : Type 0} (a b : A) (x y : List A) → a ∷ x ≡ b ∷ y → a ≡ b
same_first a b x y e = cc

-- ---- calls

calls_one : (jti : Option (List ℕ)) (members : Members) (content : List ℕ) (moment : ℕ) (x y c d : List Placed) → CallsFor jti members content moment x → CallsFor jti members content moment y
    → x ++ c ≡ y ++ d → x ≡ y
calls_one None members content moment x y c d first second same = first ∙ sym second
calls_one (Some jti) members content moment x y c d (of, call, is) (of2, call2, is2) same =
    is ∙ (ap (λ o. o ∷ []) (same_first of of2 c d (ap (λ l. l ++ c) (sym is) ∙ (same ∙ ap (λ l. l ++ d) is2))) ∙ sym is2)

-- ---- renewal

renewed_one : (members : Members) (content : List ℕ) (moment : ℕ) (key : KeyValue) (a b : Option (List ℕ)) → Renews members content moment key a → Renews members content moment key b → a ≡ b
renewed_one members content moment key None None first second = refl
renewed_one members content moment key None (Some b) first second = absurd (none-some second.claims (sym first ∙ second.renewed))
renewed_one members content moment key (Some a) None first second = absurd (none-some first.claims (sym second ∙ first.renewed))
renewed_one members content moment key (Some a) (Some b) first second =
    let claims = same_Some first.claims second.claims (sym first.renewed ∙ second.renewed) in
    ap Some (first.text ∙ (ap (λ (c : Members). sealed key (canon_members c)) claims ∙ sym second.text))

own_one : (conf : ConfValue) (members : Members) (content : List ℕ) (moment : ℕ) (a b : Option (List ℕ)) → RenewsWithOwn conf members content moment a → RenewsWithOwn conf members content moment b → a ≡ b
own_one conf members content moment a b first second =
    let key = same_Some second.key first.key (sym second.own ∙ first.own) in
    renewed_one members content moment first.key a b first.renews (subst (λ k. Renews members content moment k b) key second.renews)

-- ---- what is served

find_one : (content : List ℕ) (a b : ObjectAnswer) (x y : List Find) → find content a ++ x ≡ find content b ++ y → a ≡ b
find_one content a b x y same = ap (λ (f : Find). f.found) (same_first _ _ x y same)

sent_one : (a b : ℕ) (s t : Signed) (calls : List Placed) → ◌≡◌ {A = Option (ℕ × Signed)} (Some (a, s)) (Some (b, t)) → redirected calls a s ≡ redirected calls b t
sent_one a b s t calls e = let same = some_pair_parts a b s t e in λ i. redirected calls (same.0 i) (same.1 i)

-- the finds of what is served, where it is sent nowhere
module _ (conf : ConfValue) (members : Members) (content : List ℕ) (moment : ℕ) (calls : List Placed) where
  abbrev shows : ObjectAnswer → Outcome → Type 0
  shows (object (Some bytes)) outcome =
      (issued : Option (List ℕ)) × RenewsWithOwn conf members content moment issued
      × (outcome ≡ shown calls (find content (object (Some bytes))) issued (renewal_field conf members content issued) bytes)
  shows (object None) outcome = outcome ≡ unshown calls (find content (object None)) 404 (codes "no object")
  shows failed outcome = outcome ≡ unshown calls (find content failed) 502 (codes "no answer")
  shows no_memory outcome = ⊥

  shows_one : (found : ObjectAnswer) (a b : Outcome) → shows found a → shows found b → a ≡ b
  shows_one (object (Some bytes)) a b (i, own, is) (j, own2, is2) =
      is ∙ (ap (λ (k : Option (List ℕ)). shown calls (find content (object (Some bytes))) k (renewal_field conf members content k) bytes) (own_one conf members content moment i j own own2) ∙ sym is2)
  shows_one (object None) a b is is2 = is ∙ sym is2
  shows_one failed a b is is2 = is ∙ sym is2
  shows_one no_memory a b is is2 = absurd is

  -- sent on, or shown
  pub data Splits (outcome : Outcome) : Type 0 where
    to : (place : ℕ) (signed : Signed) → Sends conf members content moment (Some (place, signed)) → outcome ≡ redirected calls place signed → Splits outcome
    here : (found : ObjectAnswer) → Sends conf members content moment None → shows found outcome → outcome.finds ≡ find content found → Splits outcome

  splits : (outcome : Outcome) → Serves conf members content moment calls outcome → Splits outcome
  splits outcome (on place signed way is) = to place signed way is
  splits outcome (there bytes issued way renews is) = here (object (Some bytes)) way (issued, renews, is) (ap (λ o. o.finds) is)
  splits outcome (absent way is) = here (object None) way is (ap (λ o. o.finds) is)
  splits outcome (unanswered way is) = here failed way is (ap (λ o. o.finds) is)

  splits_one : (a b : Outcome) (x y : List Find) → Splits a → Splits b → a.finds ++ x ≡ b.finds ++ y → a ≡ b
  splits_one a b x y (to place signed way is) (to place2 signed2 way2 is2) same =
      is ∙ (sent_one place place2 signed signed2 calls (one_way (attribute_of conf) members content moment 0 conf.site.routes _ _ way way2) ∙ sym is2)
  splits_one a b x y (to place signed way is) (here found way2 shows2 is2) same =
      absurd (none-some (place, signed) (one_way (attribute_of conf) members content moment 0 conf.site.routes _ _ way2 way))
  splits_one a b x y (here found way shows1 is) (to place2 signed2 way2 is2) same =
      absurd (none-some (place2, signed2) (one_way (attribute_of conf) members content moment 0 conf.site.routes _ _ way way2))
  splits_one a b x y (here found way shows1 is) (here found2 way2 shows2 is2) same =
      shows_one found a b shows1
      (subst (λ f. shows f b) (sym (find_one content found found2 x y (ap (λ l. l ++ x) (sym is) ∙ (same ∙ ap (λ l. l ++ y) is2)))) shows2)

serves_one : (conf : ConfValue) (members : Members) (content : List ℕ) (moment : ℕ) (calls : List Placed) (a b : Outcome) (x y : List Find)
    → Serves conf members content moment calls a → Serves conf members content moment calls b → a.finds ++ x ≡ b.finds ++ y → a ≡ b
serves_one conf members content moment calls a b x y first second same =
    splits_one conf members content moment calls a b x y (splits conf members content moment calls a first) (splits conf members content moment calls b second) same

-- ---- what is decided

-- behind the judgement
data Ends (conf : ConfValue) (members : Members) (content : List ℕ) (moment : ℕ) (calls : List Placed) (outcome : Outcome) : Type 0 where
  refused : (rule : Rule) → verdict_of calls ≡ verdict.Denied rule → outcome ≡ denied calls rule → Ends conf members content moment calls outcome
  served : verdict_of calls ≡ verdict.Admitted → Serves conf members content moment calls outcome → Ends conf members content moment calls outcome

denied_one : (a b : Rule) → verdict.Denied a ≡ verdict.Denied b → a ≡ b
denied_one a b e = cc

denied_admitted : (rule : Rule) → verdict.Denied rule ≡ verdict.Admitted → ⊥
denied_admitted rule e = absurd (cc)

ends_calls : (conf : ConfValue) (members : Members) (content : List ℕ) (moment : ℕ) (calls : List Placed) (outcome : Outcome) → Ends conf members content moment calls outcome → outcome.calls ≡ calls
ends_calls conf members content moment calls outcome (refused rule by is) = ap (λ o. o.calls) is
ends_calls conf members content moment calls outcome (served by (on place signed way is)) = ap (λ o. o.calls) is
ends_calls conf members content moment calls outcome (served by (there bytes issued way renews is)) = ap (λ o. o.calls) is
ends_calls conf members content moment calls outcome (served by (absent way is)) = ap (λ o. o.calls) is
ends_calls conf members content moment calls outcome (served by (unanswered way is)) = ap (λ o. o.calls) is

ends_one : (conf : ConfValue) (members : Members) (content : List ℕ) (moment : ℕ) (calls : List Placed) (a b : Outcome) (x y : List Find)
    → Ends conf members content moment calls a → Ends conf members content moment calls b → a.finds ++ x ≡ b.finds ++ y → a ≡ b
ends_one conf members content moment calls a b x y (refused rule by is) (refused rule2 by2 is2) same = is ∙ (ap (denied calls) (denied_one rule rule2 (sym by ∙ by2)) ∙ sym is2)
ends_one conf members content moment calls a b x y (refused rule by is) (served by2 serves) same = absurd (denied_admitted rule (sym by ∙ by2))
ends_one conf members content moment calls a b x y (served by serves) (refused rule by2 is2) same = absurd (denied_admitted rule (sym by2 ∙ by))
ends_one conf members content moment calls a b x y (served by serves) (served by2 serves2) same = serves_one conf members content moment calls a b x y serves serves2 same

-- what follows a judgement
abbrev Follows : ConfValue → AskValue → Judged → Outcome → Type 0
Follows conf ask (judged.Denied rule) outcome = outcome ≡ denied [] rule
Follows conf ask (judged.Passed content token members key) outcome =
    (calls : List Placed) × Calls members content ask.moment calls × Ends conf members content ask.moment calls outcome

record JudgedAs (conf : ConfValue) (ask : AskValue) (outcome : Outcome) : Type 0 where
  found : Judged
  judges : Judges conf.site.profile ask found
  follows : Follows conf ask found outcome

judged_as : (conf : ConfValue) (ask : AskValue) (outcome : Outcome) → Decides conf ask outcome → JudgedAs conf ask outcome
judged_as conf ask outcome (by_judgement rule judges is) = record { found = judged.Denied rule; judges = judges; follows = is }
judged_as conf ask outcome (by_nonce content token members key calls rule judges made by is) =
    record { found = judged.Passed content token members key; judges = judges; follows = (calls, made, refused rule by is) }
judged_as conf ask outcome (by_all content token members key calls judges made by serves) =
    record { found = judged.Passed content token members key; judges = judges; follows = (calls, made, served by serves) }

follows_one : (conf : ConfValue) (ask : AskValue) (found : Judged) (a b : Outcome) (c d : List Placed) (x y : List Find) → Follows conf ask found a → Follows conf ask found b
    → a.calls ++ c ≡ b.calls ++ d → a.finds ++ x ≡ b.finds ++ y → a ≡ b
follows_one conf ask (judged.Denied rule) a b c d x y is is2 calls finds = is ∙ sym is2
follows_one conf ask (judged.Passed content token members key) a b c d x y (made, are, ends) (made2, are2, ends2) calls finds =
    let same = calls_one (text_claim (codes "jti") members) members content ask.moment made made2 c d are are2
    (ap (λ l. l ++ c) (sym (ends_calls conf members content ask.moment made a ends)) ∙ (calls ∙ ap (λ l. l ++ d) (ends_calls conf members content ask.moment made2 b ends2))) in
    ends_one conf members content ask.moment made a b x y ends (subst (λ k. Ends conf members content ask.moment k b) (sym same) ends2) finds

decides_one : (conf : ConfValue) (ask : AskValue) (a b : Outcome) (c d : List Placed) (x y : List Find) → Decides conf ask a → Decides conf ask b
    → a.calls ++ c ≡ b.calls ++ d → a.finds ++ x ≡ b.finds ++ y → a ≡ b
decides_one conf ask a b c d x y first second calls finds =
    let one = judged_as conf ask a first in
    let two = judged_as conf ask b second in
    follows_one conf ask one.found a b c d x y one.follows
    (subst (λ j. Follows conf ask j b) (one_verdict conf.site.profile ask two.found one.found two.judges one.judges) two.follows) calls finds

true_is_false : true ≡ false → ⊥
true_is_false e = absurd (cc)

work_one_ask : (conf : ConfValue) (last : Bool) (head : Head) (m n : ℕ) (a b : Outcome) (c d : List Placed) (x y : List Find) → m ≡ n
    → Decides conf (ask_of conf head m) a → Decides conf (ask_of conf head n) b → a.calls ++ c ≡ b.calls ++ d → a.finds ++ x ≡ b.finds ++ y
    → work_of conf head last (ask_of conf head m) a ≡ work_of conf head last (ask_of conf head n) b
work_one_ask conf last head m n a b c d x y moment first second calls finds =
    let outcome = decides_one conf (ask_of conf head m) a b c d x y first (subst (λ k. Decides conf (ask_of conf head k) b) (sym moment) second) calls finds in
    λ i. work_of conf head last (ask_of conf head (moment i)) (outcome i)

pub works_one : (conf : ConfValue) (last : Bool) (head : Head) (v w : Work) (m n : List ℕ) (c d : List Placed) (x y : List Find) → Works conf last head v → Works conf last head w
    → v.moments ++ m ≡ w.moments ++ n → v.calls ++ c ≡ w.calls ++ d → v.finds ++ x ≡ w.finds ++ y → v ≡ w
works_one conf last head v w m n c d x y (body announced is) (body announced2 is2) moments calls finds = is ∙ sym is2
works_one conf last head v w m n c d x y (body announced is) (other_method unannounced method is2) moments calls finds = absurd (true_is_false (sym announced ∙ unannounced))
works_one conf last head v w m n c d x y (body announced is) (request unannounced method moment outcome decides is2) moments calls finds = absurd (true_is_false (sym announced ∙ unannounced))
works_one conf last head v w m n c d x y (other_method unannounced method is) (body announced is2) moments calls finds = absurd (true_is_false (sym announced ∙ unannounced))
works_one conf last head v w m n c d x y (other_method unannounced method is) (other_method unannounced2 method2 is2) moments calls finds = is ∙ sym is2
works_one conf last head v w m n c d x y (other_method unannounced method is) (request unannounced2 asked moment outcome decides is2) moments calls finds = absurd (asked method)
works_one conf last head v w m n c d x y (request unannounced asked moment outcome decides is) (body announced is2) moments calls finds = absurd (true_is_false (sym announced ∙ unannounced))
works_one conf last head v w m n c d x y (request unannounced asked moment outcome decides is) (other_method unannounced2 method is2) moments calls finds = absurd (asked method)
works_one conf last head v w m n c d x y (request unannounced asked moment outcome decides is) (request unannounced2 asked2 moment2 outcome2 decides2 is2) moments calls finds =
    is
    ∙ (work_one_ask conf last head moment moment2 outcome outcome2 c d x y
    (same_first moment moment2 m n (ap (λ k. k.moments ++ m) (sym is) ∙ (moments ∙ ap (λ k. k.moments ++ n) is2))) decides decides2
    (ap (λ k. k.calls ++ c) (sym is) ∙ (calls ∙ ap (λ k. k.calls ++ d) is2)) (ap (λ k. k.finds ++ x) (sym is) ∙ (finds ∙ ap (λ k. k.finds ++ y) is2))
    ∙ sym is2)
