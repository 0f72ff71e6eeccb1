-- What the lines of `check` come to.
use Rattle.std.proofs.Common.{◌≡◌, refl, sym, ap, ◌∙◌, subst, ℕ, zero, suc, ◌+◌, List, [], ◌∷◌, ◌++◌, append_assoc, append-nil, length, length-append, Option, Some, arith}
use Rattle.std.specs.List.{slice_get}
use Rattle.std.proofs.lemmas.List.{length-map, map-append}
use Rattle.std.proofs.lemmas.Option.{same_Some}
use Rattle.usp_base.specs.Lines.{line_feed, lines_of}
use Rattle.usp_base.specs.declared.fault.Status.{Status}
use Rattle.usp_base.specs.declared.fault.Status.TheVariants.{Done, Denials, Words, Refused, Outside, Memory}
use Rattle.usp_conf.specs.Values.{ConfValue}
use Rattle.usp_edge.specs.Calls.{ArePlaces, Placed, calls_of}
use Rattle.usp_edge.specs.Outcomes.{Calls, CallsFor, answer_verdict}
use Rattle.usp_edge.specs.Seats.{StandIn}
use Rattle.usp_lab.specs.Rounds.{all_of}
use Rattle.usp_nonce.proofs.Legal.{no_nonce_twice}
use Rattle.usp_nonce.specs.History.{Call, IsLegal}
use Rattle.usp_nonce.specs.declared.answer.Answer.{Answer}
use Rattle.usp_nonce.specs.declared.answer.Answer.TheVariants.{Late, Seen, Full, Taken}
use Rattle.usp_rules.specs.Asks.{AskValue}
use Rattle.usp_rules.specs.Names.{number_of}
use Rattle.usp_rules.specs.declared.rule.Rule.TheVariants as rules
use Rattle.usp_tool.proofs.Headlines.Places.{all_places, places_both, stand_all, stand_front}
use Rattle.usp_tool.proofs.Headlines.Rules.{denied_exactly, passed_exactly}
use Rattle.usp_tool.proofs.Headlines.Texts.{ArePrinted, IsLine, admitted_line, content_printed, denied_line, lines_first}
use Rattle.usp_tool.specs.Check.{Checks, ChecksAsk, IsChecked, decides, done, line, stops}
use Rattle.usp_tool.specs.Check.Line.{ask_of}
use Rattle.usp_tool.specs.Check.Verdicts.{Decides, called, denied, free, status_with, verdict_by, verdict_line}
use Rattle.usp_tool.specs.Headline.{CheckHeadline, TellsVerdict, plain_verdict}
use Rattle.usp_tool.specs.Headline.Requests.{AdmitsExactly}
use Rattle.usp_tool.specs.Outcome.{Outcome}
use Rattle.usp_tool.specs.declared.check.verdict.Verdict.{Verdict}
use Rattle.usp_tool.specs.declared.check.verdict.Verdict.TheVariants.{Admitted, Denied}

-- ---- statuses

-- the status comes behind the whole text
abbrev pub IsPrinted : Status → Type 0
IsPrinted Done = Unit {0}
IsPrinted Denials = Unit {0}
IsPrinted Words = ⊥
IsPrinted Refused = ⊥
IsPrinted Outside = ⊥
IsPrinted Memory = ⊥

printed_more : (verdict : Verdict) (status : Status) → IsPrinted (status_with verdict status) → IsPrinted status
printed_more (Admitted content) status p = p
printed_more (Denied rule) Done p = tt
printed_more (Denied rule) Denials p = p
printed_more (Denied rule) Words p = p
printed_more (Denied rule) Refused p = p
printed_more (Denied rule) Outside p = p
printed_more (Denied rule) Memory p = p

-- ---- one line

verdict_of_answer : (content : List ℕ) (answer : Answer) → plain_verdict (verdict_by content answer) ≡ answer_verdict answer
verdict_of_answer content Taken = refl
verdict_of_answer content Late = refl
verdict_of_answer content Seen = refl
verdict_of_answer content Full = refl

answered_line : (number : ℕ) (content : List ℕ) (answer : Answer) → ArePrinted content
    → IsLine (verdict_line number (verdict_by content answer))
answered_line number content Taken are = admitted_line number content are
answered_line number content Late are = denied_line number 16 rules.Late
answered_line number content Seen are = denied_line number 17 rules.Seen
answered_line number content Full are = denied_line number 18 rules.Room

-- the nonce calls of an ask, behind those before it, decide it, and its line is one
record Own (conf : ConfValue) (history : List Call) (number : ℕ) (ask : AskValue)
    (before between : List Call) (verdict : Verdict) : Type 0 where
  own : List Placed
  grows : between ≡ before ++ calls_of own
  places : ArePlaces (length before) own
  exactly : StandIn history own → AdmitsExactly conf history ask own (plain_verdict verdict)
  is_line : IsLine (verdict_line number verdict)

-- the line at a place tells the verdict on its ask
record Tells (conf : ConfValue) (history : List Call) (number place : ℕ) (input : List ℕ) (own : List Placed)
    (text : List ℕ) : Type 0 where
  ask : AskValue
  asks : ask_of input ≡ Some ask
  verdict : Verdict
  exactly : AdmitsExactly conf history ask own (plain_verdict verdict)
  told : List ℕ
  at : slice_get (lines_of text) place ≡ Some told
  is : told ++ line_feed ∷ [] ≡ verdict_line (number + place) verdict

record Follows (conf : ConfValue) (history : List Call) (number : ℕ) (before : List Call) (lines : List (List ℕ))
    (text : List ℕ) : Type 0 where
  calls : List (List Placed)
  many : length calls ≡ length lines
  grows : history ≡ before ++ calls_of (all_of calls)
  places : ArePlaces (length before) (all_of calls)
  tells : (place : ℕ) (input : List ℕ) (own : List Placed) → slice_get lines place ≡ Some input
      → slice_get calls place ≡ Some own → Tells conf history number place input own text

module _ (conf : ConfValue) (history : List Call) (legal : IsLegal conf.room history) where
  own_of : (number : ℕ) (ask : AskValue) (before between : List Call) (verdict : Verdict)
      → Decides conf.site.profile conf.room ask before verdict between → Own conf history number ask before between verdict
  own_of number ask before _ _ (denied verdict after rule judges is same) = record {
    own = [];
    grows = same ∙ sym (append-nil before);
    places = tt;
    exactly = denied_exactly conf history legal ask [] (plain_verdict verdict) rule judges (ap plain_verdict is) refl;
    is_line = subst (λ (v : Verdict). IsLine (verdict_line number v)) (sym is) (denied_line number (number_of rule) rule);
  }
  own_of number ask before _ _ (free verdict after content token members key judges none is same) =
      let made : Calls members content ask.moment [] =
      subst (λ (jti : Option (List ℕ)). CallsFor jti members content ask.moment []) (sym none) refl in
      record {
        own = [];
        grows = same ∙ sym (append-nil before);
        places = tt;
        exactly = passed_exactly conf history legal ask [] (plain_verdict verdict) content token members key judges made
            (ap plain_verdict is);
        is_line = subst (λ (v : Verdict). IsLine (verdict_line number v)) (sym is)
            (admitted_line number content (content_printed conf.site.profile ask content token members key judges));
      }
  own_of number ask before _ _ (called verdict after content token jti members key call judges some asked next is same) =
      let of : Placed = record { place = length before; call = call } in
      let made : Calls members content ask.moment (of ∷ []) =
      subst (λ (jti : Option (List ℕ)). CallsFor jti members content ask.moment (of ∷ [])) (sym some)
      (of, record { nonce = asked.nonce; now = asked.now; until = asked.until }, refl) in
      record {
        own = of ∷ [];
        grows = same;
        places = (refl, tt);
        exactly = passed_exactly conf history legal ask (of ∷ []) (plain_verdict verdict) content token members key judges
            made (ap plain_verdict is ∙ verdict_of_answer content call.answer);
        is_line = subst (λ (v : Verdict). IsLine (verdict_line number v)) (sym is)
            (answered_line number content call.answer
            (content_printed conf.site.profile ask content token members key judges));
      }

  -- ---- all lines

  follows_none : (number : ℕ) (before : List Call) (text : List ℕ) → history ≡ before → Follows conf history number before [] text
  follows_none number before text is = record {
    calls = [];
    many = refl;
    grows = is ∙ sym (append-nil before);
    places = tt;
    tells = λ place input own at mine. cc at;
  }

  tells_next : (number place : ℕ) (input : List ℕ) (own : List Placed) (first text more : List ℕ)
      → lines_of text ≡ first ∷ lines_of more → Tells conf history (number + 1) place input own more
      → Tells conf history number (suc place) input own text
  tells_next number place input own first text more cut t =
      let next : (number + 1) + place ≡ number + suc place = omega arith in
      record {
        ask = t.ask;
        asks = t.asks;
        verdict = t.verdict;
        exactly = t.exactly;
        told = t.told;
        at = ap (λ (l : List (List ℕ)). slice_get l (suc place)) cut ∙ t.at;
        is = t.is ∙ ap (λ n. verdict_line n t.verdict) next;
      }

  tells_each : (number : ℕ) (ask : AskValue) (input : List ℕ) (lines : List (List ℕ)) (verdict : Verdict)
      (text more : List ℕ) (own : List Placed) (calls : List (List Placed)) → ask_of input ≡ Some ask
      → (is_line : IsLine (verdict_line number verdict)) → lines_of text ≡ is_line.front ∷ lines_of more
      → AdmitsExactly conf history ask own (plain_verdict verdict)
      → ((place : ℕ) (input : List ℕ) (own : List Placed) → slice_get lines place ≡ Some input
      → slice_get calls place ≡ Some own → Tells conf history (number + 1) place input own more)
      → (place : ℕ) (other : List ℕ) (mine : List Placed) → slice_get (input ∷ lines) place ≡ Some other
      → slice_get (own ∷ calls) place ≡ Some mine → Tells conf history number place other mine text
  tells_each number ask input lines verdict text more own calls asks is_line cut exactly rest zero other mine at there =
      subst (λ (i : List ℕ). Tells conf history number 0 i mine text) (same_Some input other at)
      (subst (λ (m : List Placed). Tells conf history number 0 input m text) (same_Some own mine there) (record {
        ask = ask;
        asks = asks;
        verdict = verdict;
        exactly = exactly;
        told = is_line.front;
        at = ap (λ (l : List (List ℕ)). slice_get l 0) cut;
        is = let e : number ≡ number + 0 = omega arith in is_line.is ∙ ap (λ n. verdict_line n verdict) e;
      }))
  tells_each number ask input lines verdict text more own calls asks is_line cut exactly rest (suc place) other mine at there =
      tells_next number place other mine is_line.front text more cut (rest place other mine at there)

  follows_more : (number : ℕ) (before between : List Call) (ask : AskValue) (input : List ℕ) (lines : List (List ℕ))
      (verdict : Verdict) (text more : List ℕ) → ask_of input ≡ Some ask → text ≡ verdict_line number verdict ++ more
      → Own conf history number ask before between verdict → Follows conf history (number + 1) between lines more
      → Follows conf history number before (input ∷ lines) text
  follows_more number before between ask input lines verdict text more asks is o f =
      let rest = all_of f.calls in
      let cut : lines_of text ≡ o.is_line.front ∷ lines_of more =
      ap lines_of is ∙ lines_first (verdict_line number verdict) more o.is_line in
      let grows : history ≡ before ++ calls_of (o.own ++ rest) =
      f.grows ∙ (ap (λ (h : List Call). h ++ calls_of rest) o.grows
      ∙ (append_assoc before (calls_of o.own) (calls_of rest)
      ∙ ap (λ (h : List Call). before ++ h) (sym (map-append (λ (of : Placed). of.call) o.own rest)))) in
      let long : length between ≡ length before + length o.own =
      ap length o.grows ∙ (length-append before (calls_of o.own)
      ∙ ap (λ n. length before + n) (length-map o.own (λ (of : Placed). of.call))) in
      let places : ArePlaces (length before) (o.own ++ rest) =
      places_both (length before) o.own rest o.places (subst (λ n. ArePlaces n rest) long f.places) in
      let stand : StandIn history o.own =
      stand_front history o.own rest (stand_all history before (o.own ++ rest) grows places) in
      record {
        calls = o.own ∷ f.calls;
        many = ap suc f.many;
        grows = grows;
        places = places;
        tells = tells_each number ask input lines verdict text more o.own f.calls asks o.is_line cut (o.exactly stand) f.tells;
      }

  mutual
    follows : (number : ℕ) (before : List Call) (lines : List (List ℕ)) (outcome : Outcome) (after : List Call)
        → Checks conf.site.profile conf.room number before lines outcome after → after ≡ history
        → IsPrinted outcome.status → Follows conf history number before lines outcome.text
    follows _ _ _ _ _ (done number before after outcome is same) whole printed =
        follows_none number before outcome.text (sym whole ∙ same)
    follows _ _ _ _ _ (line number before after input lines outcome asks) whole printed =
        follows_ask number before input lines (ask_of input) outcome after refl asks whole printed

    follows_ask : (number : ℕ) (before : List Call) (input : List ℕ) (lines : List (List ℕ)) (asked : Option AskValue)
        (outcome : Outcome) (after : List Call) → ask_of input ≡ asked
        → ChecksAsk conf.site.profile conf.room number before asked lines outcome after → after ≡ history
        → IsPrinted outcome.status → Follows conf history number before (input ∷ lines) outcome.text
    follows_ask _ _ input _ _ _ _ asked (stops number before after lines outcome is same) whole printed =
        absurd (subst IsPrinted (ap (λ (o : Outcome). o.status) is) printed)
    follows_ask _ _ input _ _ _ _ asked (decides number before between after ask lines outcome more verdict decided rest is) whole printed =
        let rest_printed : IsPrinted more.status =
        printed_more verdict more.status (subst IsPrinted (ap (λ (o : Outcome). o.status) is) printed) in
        follows_more number before between ask input lines verdict outcome.text more.text asked
        (ap (λ (o : Outcome). o.text) is) (own_of number ask before between verdict decided)
        (follows (number + 1) between lines more after rest whole rest_printed)

-- the verdicts on the lines of an input
pub check_headline : (conf : ConfValue) (input : List ℕ) (outcome : Outcome) → IsPrinted outcome.status
    → IsChecked conf (lines_of input) outcome → CheckHeadline conf input outcome.text
check_headline conf input outcome printed c =
    let f = follows conf c.history c.legal 1 [] (lines_of input) outcome c.history c.checks refl printed in
    let all = all_of f.calls in
    let many : length c.history ≡ length all = ap length f.grows ∙ length-map all (λ (of : Placed). of.call) in
    record {
      calls = f.calls;
      many = f.many;
      one = record {
        history = c.history;
        legal = c.legal;
        counted = many;
        all = all_places all (length all) f.places refl;
        each = λ place input own at mine. of_line place input own (f.tells place input own at mine);
        once = no_nonce_twice conf.room c.history c.legal;
      };
    }
  where
    of_line : (place : ℕ) (input : List ℕ) (own : List Placed) → Tells conf c.history 1 place input own outcome.text
        → TellsVerdict conf c.history place input own outcome.text
    of_line place input own t =
        let next : 1 + place ≡ place + 1 = omega arith in
        record {
          ask = t.ask;
          asks = t.asks;
          verdict = t.verdict;
          exactly = t.exactly;
          told = t.told;
          at = t.at;
          is = t.is ∙ ap (λ n. verdict_line n t.verdict) next;
        }
