-- What is decided by rules and by a nonce call is admitted exactly if every rule holds, and denied by the first that
-- fails.
use Rattle.std.proofs.Common.{◌≡◌, ◌<◌, ◌↔◌, refl, sym, ap, ◌∙◌, subst, ℕ, zero, suc, Bool, true, false, List, [], ◌∷◌, ◌++◌, append_assoc, length, take, codes, Option, Some, None, nat_le, if◌then◌else◌, arith}
use Rattle.std.specs.List.{list_any, slice_get}
use Rattle.std.proofs.lemmas.Bool.{true≢false}
use Rattle.std.proofs.lemmas.Bool.Decides.{nat_tests}
use Rattle.std.proofs.lemmas.Option.{same_Some}
use Rattle.usp_claims.specs.Table.{text_claim}
use Rattle.usp_conf.specs.Values.{ConfValue}
use Rattle.usp_edge.specs.Calls.{Placed}
use Rattle.usp_edge.specs.Decided.{IsDecidedBy, by_calls, by_rules}
use Rattle.usp_edge.specs.Outcomes.{Calls, CallsFor, answer_verdict, turn_of, verdict_of}
use Rattle.usp_edge.specs.Seats.{StandIn}
use Rattle.usp_edge.specs.declared.note.Note.{Note}
use Rattle.usp_edge.specs.declared.note.Verdict.{Verdict}
use Rattle.usp_edge.specs.declared.note.Verdict.TheVariants.{Admitted, Denied}
use Rattle.usp_json.specs.declared.value.Members.{Members}
use Rattle.usp_nonce.specs.History.{Call, IsLegal, IsNext, calls_in_force}
use Rattle.usp_nonce.specs.Nonces.{is_same_nonce}
use Rattle.usp_nonce.specs.declared.answer.Answer.{Answer}
use Rattle.usp_nonce.specs.declared.answer.Answer.TheVariants.{Late, Seen, Full, Taken}
use Rattle.usp_rules.proofs.Verdicts.{breaks, broken_first, first_once, passes}
use Rattle.usp_rules.specs.Asks.{AskValue}
use Rattle.usp_rules.specs.Judging.{Judges}
use Rattle.usp_rules.specs.Rules.{AllHold, Breaks, First, rules_of_ask}
use Rattle.usp_rules.specs.declared.judged.Judged.TheVariants as judged
use Rattle.usp_rules.specs.declared.rule.Rule.{Rule}
use Rattle.usp_rules.specs.declared.rule.Rule.TheVariants as rule
use Rattle.usp_tool.specs.Headline.Requests.{AdmitsExactly, NotesExactly, RuleHolds, due, every_rule, none}

-- ---- lists of rules

module _ (P : Rule → Type 0) where
  all_both : (front rest : List Rule) → AllHold P front → AllHold P rest → AllHold P (front ++ rest)
  all_both [] rest first second = second
  all_both (r ∷ front) rest first second = (first.0, all_both front rest first.1 second)

  all_at : (front : List Rule) (r : Rule) (rest : List Rule) → AllHold P (front ++ r ∷ rest) → P r
  all_at [] r rest all = all.0
  all_at (other ∷ front) r rest all = all_at front r rest all.1

  unbroken : (rules : List Rule) (r : Rule) → AllHold P rules → Breaks P rules r → ⊥
  unbroken rules r all b = b.fails (all_at b.before r b.after (subst (AllHold P) b.listed all))

  one_broken : (rules : List Rule) (a b : Rule) → Breaks P rules a → Breaks P rules b → a ≡ b
  one_broken rules a b first second =
      same_Some a b (first_once P rules (Some a) (Some b) (broken_first P rules a first) (broken_first P rules b second))

  breaks_front : (front rest : List Rule) (r : Rule) → Breaks P front r → Breaks P (front ++ rest) r
  breaks_front front rest r b = record {
    before = b.before;
    after = b.after ++ rest;
    listed = ap (λ (l : List Rule). l ++ rest) b.listed ∙ append_assoc b.before (r ∷ b.after) rest;
    hold = b.hold;
    fails = b.fails;
  }

  breaks_rest : (front rest : List Rule) (r : Rule) → AllHold P front → Breaks P rest r → Breaks P (front ++ rest) r
  breaks_rest front rest r all b = record {
    before = front ++ b.before;
    after = b.after;
    listed = ap (λ (l : List Rule). front ++ l) b.listed ∙ sym (append_assoc front b.before (r ∷ b.after));
    hold = all_both front b.before all b.hold;
    fails = b.fails;
  }

-- ---- verdicts

-- All rules hold and the verdict is to admit, or one is the first that fails and the verdict denies by it.
pub data Says (P : Rule → Type 0) (rules : List Rule) (verdict : Verdict) : Type 0 where
  all_hold : verdict ≡ Admitted → AllHold P rules → Says P rules verdict
  one_fails : (r : Rule) → verdict ≡ Denied r → Breaks P rules r → Says P rules verdict

-- The verdict is to admit exactly if all rules hold, and denies exactly by the first that fails.
pub record Exactly (P : Rule → Type 0) (rules : List Rule) (verdict : Verdict) : Type 0 where
  pub admitted : (verdict ≡ Admitted) ↔ AllHold P rules
  pub denied : (broken : Rule) → (verdict ≡ Denied broken) ↔ Breaks P rules broken

not_both : (r : Rule) → Admitted ≡ Denied r → ⊥
not_both r e = cc

same_rule : (a b : Rule) → Denied a ≡ Denied b → a ≡ b
same_rule a b e = cc

exactly : (P : Rule → Type 0) (rules : List Rule) (verdict : Verdict) → Says P rules verdict → Exactly P rules verdict
exactly P rules verdict (all_hold is all) = record {
  admitted = (λ e. all, λ h. is);
  denied = λ broken. (λ e. absurd (not_both broken (sym is ∙ e)), λ b. absurd (unbroken P rules broken all b));
}
exactly P rules verdict (one_fails r is b) = record {
  admitted = (λ e. absurd (not_both r (sym e ∙ is)), λ all. absurd (unbroken P rules r all b));
  denied = λ broken. (
    λ e. subst (Breaks P rules) (same_rule r broken (sym is ∙ e)) b,
    λ other. is ∙ ap Denied (one_broken P rules r broken b other),
  );
}

-- behind rules that hold
says_behind : (P : Rule → Type 0) (front rest : List Rule) (verdict : Verdict) → AllHold P front → Says P rest verdict
    → Says P (front ++ rest) verdict
says_behind P front rest verdict all (all_hold is hold) = all_hold is (all_both P front rest all hold)
says_behind P front rest verdict all (one_fails r is b) = one_fails r is (breaks_rest P front rest r all b)

-- ---- the nonce call

abbrev nonce_rules : List Rule
nonce_rules = rule.Late ∷ rule.Seen ∷ rule.Room ∷ []

-- the answer by what is tested
abbrev answer_by : (late seen full : Bool) → Answer
answer_by late seen full = if late then Late else if seen then Seen else if full then Full else Taken

says_by : (P : Rule → Type 0) (late seen full : Bool) (answer : Answer) → answer ≡ answer_by late seen full
    → P rule.Late ↔ (late ≡ false) → P rule.Seen ↔ (seen ≡ false) → P rule.Room ↔ (full ≡ false)
    → Says P nonce_rules (answer_verdict answer)
says_by P true seen full answer is l s f =
    one_fails rule.Late (ap answer_verdict is) (record {
      before = [];
      after = rule.Seen ∷ rule.Room ∷ [];
      listed = refl;
      hold = tt;
      fails = λ h. true≢false (l.0 h);
    })
says_by P false true full answer is l s f =
    one_fails rule.Seen (ap answer_verdict is) (record {
      before = rule.Late ∷ [];
      after = rule.Room ∷ [];
      listed = refl;
      hold = (l.1 refl, tt);
      fails = λ h. true≢false (s.0 h);
    })
says_by P false false true answer is l s f =
    one_fails rule.Room (ap answer_verdict is) (record {
      before = rule.Late ∷ rule.Seen ∷ [];
      after = [];
      listed = refl;
      hold = (l.1 refl, (s.1 refl, tt));
      fails = λ h. true≢false (f.0 h);
    })
says_by P false false false answer is l s f =
    all_hold (ap answer_verdict is) (l.1 refl, (s.1 refl, (f.1 refl, tt)))

below_exactly : (a b : ℕ) → (a < b) ↔ (nat_le b a ≡ false)
below_exactly a b = (λ h. grind (arith, nat_tests), λ e. grind (arith, nat_tests))

call_at : (history : List Call) (place : ℕ) (call : Call) → slice_get history place ≡ Some call
    → (rest : List Call) × (history ≡ take place history ++ call ∷ rest)
call_at [] place call at = cc
call_at (first ∷ history) zero call at = (history, ap (λ (c : Call). c ∷ history) (same_Some first call at))
call_at (first ∷ history) (suc place) call at =
    let h = call_at history place call at in (h.0, ap (λ (l : List Call). first ∷ l) h.1)

-- each call of a legal history is the next of those before it
next_at : (room : ℕ) (history : List Call) (place : ℕ) (call : Call) → IsLegal room history
    → slice_get history place ≡ Some call → IsNext room (take place history) call
next_at room history place call legal at =
    let split = call_at history place call at in legal.each (take place history) split.0 call split.1

module _ (conf : ConfValue) (history : List Call) (legal : IsLegal conf.room history) (ask : AskValue) where
  says_with : (of : Placed) → slice_get history of.place ≡ Some of.call
      → Says (RuleHolds conf history ask (of ∷ [])) nonce_rules (verdict_of (of ∷ []))
  says_with of at =
      let call = of.call in
      let before = take of.place history in
      let next = next_at conf.room history of.place call legal at in
      says_by (RuleHolds conf history ask (of ∷ []))
      (nat_le call.until call.moment)
      (list_any (λ (held : Call). is_same_nonce call.nonce held.nonce) (calls_in_force call.moment before))
      (nat_le conf.room (length (calls_in_force call.moment before)))
      call.answer next.answer (below_exactly call.moment call.until) (λ h. h, λ h. h)
      (below_exactly (length (calls_in_force call.moment before)) conf.room)

  says_for : (jti : Option (List ℕ)) (members : Members) (content : List ℕ) (moment : ℕ) (calls : List Placed)
      → CallsFor jti members content moment calls → StandIn history calls
      → Says (RuleHolds conf history ask calls) nonce_rules (verdict_of calls)
  says_for None members content moment calls made stand =
      subst (λ (c : List Placed). Says (RuleHolds conf history ask c) nonce_rules (verdict_of c)) (sym made)
      (all_hold refl (tt, (tt, (tt, tt))))
  says_for (Some jti) members content moment calls made stand =
      subst (λ (c : List Placed). Says (RuleHolds conf history ask c) nonce_rules (verdict_of c)) (sym made.2)
      (says_with made.0 (subst (StandIn history) made.2 stand).0)

  -- one of rules 1 to 15 fails
  pub denied_exactly : (calls : List Placed) (verdict : Verdict) (broken : Rule) → First conf.site.profile ask (Some broken)
      → verdict ≡ Denied broken → calls ≡ [] → StandIn history calls → AdmitsExactly conf history ask calls verdict
  denied_exactly calls verdict broken first is no_calls stand =
      let P = RuleHolds conf history ask calls in
      let e : Exactly P every_rule verdict =
      exactly P every_rule verdict
      (one_fails broken is (breaks_front P rules_of_ask nonce_rules broken (breaks P rules_of_ask broken first))) in
      record { has = none broken first no_calls; stand = stand; admitted = e.admitted; denied = e.denied }

  -- they hold
  pub passed_exactly : (calls : List Placed) (verdict : Verdict) (content token : List ℕ) (members : Members) (key : ℕ)
      → Judges conf.site.profile ask (judged.Passed content token members key) → Calls members content ask.moment calls
      → verdict ≡ verdict_of calls → StandIn history calls → AdmitsExactly conf history ask calls verdict
  passed_exactly calls verdict content token members key judges made is stand =
      let P = RuleHolds conf history ask calls in
      let by_nonce : Says P nonce_rules verdict =
      subst (Says P nonce_rules) (sym is)
      (says_for (text_claim (codes "jti") members) members content ask.moment calls made stand) in
      let e : Exactly P every_rule verdict =
      exactly P every_rule verdict
      (says_behind P rules_of_ask nonce_rules verdict (passes conf.site.profile ask judges.0) by_nonce) in
      record {
        has = due content token members key judges made;
        stand = stand;
        admitted = e.admitted;
        denied = e.denied;
      }

-- what decides a note
pub notes_exactly : (conf : ConfValue) (history : List Call) (note : Note) (calls : List Placed)
    → IsLegal conf.room history → StandIn history calls → IsDecidedBy conf note calls
    → NotesExactly conf history note calls
notes_exactly conf history note calls legal stand (by_rules ask broken of judges verdict call is) = record {
  ask = ask;
  of = of;
  shown = call ∙ ap turn_of (sym is);
  exactly = denied_exactly conf history legal ask calls note.verdict broken judges verdict is stand;
}
notes_exactly conf history note calls legal stand (by_calls ask content token members key of judges made verdict call) =
    record {
      ask = ask;
      of = of;
      shown = call;
      exactly = passed_exactly conf history legal ask calls note.verdict content token members key judges made verdict stand;
    }
