-- Connections that are one session over all their bytes, and the ends by faults.
use Rattle.std.proofs.Common.{◌≡◌, ◌≢◌, refl, sym, ap, ◌∙◌, subst, ℕ, ◌<◌, List, [], ◌++◌, append-nil, Option, Some, None, IfSome, Bool, true, false, if◌then◌else◌, arith}
use Rattle.std.specs.Io.KnownBytes.{append_known, prepend_known}
use Rattle.usp_base.specs.Outside.{Rose}
use Rattle.usp_conf.specs.Values.{ConfValue}
use Rattle.usp_http.specs.Finding.{Finds, IsSettled, Stop, Stops, broken, enough, over}
use Rattle.usp_http.specs.declared.next.Next.{Next}
use Rattle.usp_http.specs.declared.next.Next.TheVariants as next
use Rattle.usp_http.proofs.Finding.{goes_on}
use Rattle.usp_edge.specs.Calls.{Placed}
use Rattle.usp_edge.specs.Replies.{closing_text}
use Rattle.usp_edge.specs.Serving.{Line, Met, Served, Whole}
use Rattle.usp_edge.specs.Session.{Progress, Session, at_head, at_rest, end_of}
use Rattle.usp_edge.specs.declared.end.End.{End}
use Rattle.usp_edge.specs.declared.end.End.TheVariants as ending
use Rattle.usp_edge.proofs.Going.{goes_more}
use Rattle.usp_tool.specs.Edge.AtDoor.{Post, Visited, gone_line}
use Rattle.usp_tool.specs.Edge.Sums.{DidSession, HasNoFault}

-- ---- a session over some bytes is one over those with more behind them

abbrev with_rest : Progress → List ℕ → Progress
with_rest progress rest = record progress { rest = rest }

-- where bytes enough were read, more of them change nothing
settled : (result : Next) (rest after text : List ℕ) (ends : End) → Finds result rest enough after
    → end_of result ≡ Some (text, ends) → IsSettled result
settled (next.Found head) rest after text ends finds said = tt
settled next.BadHead rest after text ends finds said = tt
settled next.HeadTooLong rest after text ends finds said = tt
settled next.ManyHeaders rest after text ends finds said = tt
settled next.Ended rest after text ends finds said = absurd (cc (finds.1))
settled next.CutShort rest after text ends finds said = absurd (cc (finds.2))
settled next.ReadFault rest after text ends finds said = absurd (cc (finds.1))
settled next.NoMemory rest after text ends finds said = absurd (cc said)

session_more : (conf : ConfValue) (bytes more : List ℕ) (progress : Progress) (ends : End)
    → Session conf bytes enough progress ends
    → Session conf (bytes ++ more) over (with_rest progress (progress.rest ++ more)) ends
session_more conf bytes more progress ends (at_head before head after work goes head_is works behind is) =
    at_head (with_rest before (before.rest ++ more)) head (after ++ more) work (goes_more conf bytes more before goes)
    (goes_on (next.Found head) before.rest after more enough over tt head_is) works behind
    (ap (λ p. with_rest p (p.rest ++ more)) is)
session_more conf bytes more progress ends (at_rest before result after text goes finds said is) =
    at_rest (with_rest before (before.rest ++ more)) result (after ++ more) text (goes_more conf bytes more before goes)
    (goes_on result before.rest after more enough over (settled result before.rest after text ends finds said) finds)
    said (ap (λ p. with_rest p (p.rest ++ more)) is)

-- ---- all bytes

-- a session over the bytes, whatever is left behind its heads
record OverAll (conf : ConfValue) (bytes : List ℕ) (progress : Progress) (ends : End) : Type 0 where
  pub rest : List ℕ
  pub session : Session conf bytes over (with_rest progress rest) ends

same_some : {A : Type 0} (a b : A) → Some a ≡ Some b → a ≡ b
same_some a b is = cc

over_all : (conf : ConfValue) (read bytes : List ℕ) (stop : Stop) (progress : Progress) (ends : End)
    (left_after : Option (List ℕ)) (ended : Bool) (faults faults_after : ℕ) → faults ≡ 0 → faults_after ≡ 0
    → Some bytes ≡ prepend_known read left_after → Stops stop ended left_after faults faults_after
    → Session conf read stop progress ends → OverAll conf bytes progress ends
over_all conf read bytes stop progress ends None ended faults faults_after none still lost stops session =
    absurd (cc lost)
over_all conf read bytes enough progress ends (Some left) ended faults faults_after none still lost stops session =
    record {
      rest = progress.rest ++ left;
      session = subst (λ b. Session conf b over (with_rest progress (progress.rest ++ left)) ends)
          (sym (same_some bytes (read ++ left) lost)) (session_more conf read left progress ends session);
    }
over_all conf read bytes over progress ends (Some left) ended faults faults_after none still lost stops session =
    record {
      rest = progress.rest;
      session = subst (λ b. Session conf b over progress ends)
          (sym (same_some bytes (read ++ left) lost ∙ (ap (λ l. read ++ l) stops.1 ∙ append-nil read))) session;
    }
over_all conf read bytes broken progress ends (Some left) ended faults faults_after none still lost stops session =
    let rose : Rose faults faults_after = stops in absurd (omega (arith, none, still, rose))

put_all : (told told_after : Option (List ℕ)) (text : List ℕ) → IfSome told (λ bytes. bytes ≡ [])
    → told_after ≡ append_known told text → IfSome told_after (λ put. put ≡ text)
put_all None told_after text empty is = subst (λ o. IfSome o (λ put. put ≡ text)) (sym is) tt
put_all (Some told) told_after text empty is =
    subst (λ o. IfSome o (λ put. put ≡ text)) (sym is) (ap (λ (l : List ℕ). l ++ text) empty)

-- ---- ends by faults

no_fault_behind : (body last full : Bool)
    → (if body then Some ending.Body
    else if last then Some ending.Closed
    else if full then Some ending.Enough
    else None) ≡ Some ending.ReadFault → ⊥
no_fault_behind true last full is = absurd (cc is)
no_fault_behind false true full is = absurd (cc is)
no_fault_behind false false true is = absurd (cc is)
no_fault_behind false false false is = absurd (cc is)

same_end : (text other : List ℕ) (ends : End)
    → ◌≡◌ {A = Option (List ℕ × End)} (Some (text, ends)) (Some (other, ending.ReadFault)) → ends ≡ ending.ReadFault
same_end text other ends is =
    ap (λ (p : List ℕ × End). p.1) (same_some {A = List ℕ × End} (text, ends) (other, ending.ReadFault) is)

broken_rest : (result : Next) (rest after text : List ℕ) (stop : Stop) → Finds result rest stop after
    → end_of result ≡ Some (text, ending.ReadFault) → stop ≡ broken
broken_rest next.ReadFault rest after text stop finds said = finds.1
broken_rest next.Ended rest after text stop finds said = absurd (cc (same_end [] text ending.Closed said))
broken_rest next.CutShort rest after text stop finds said =
    absurd (cc (same_end closing_text text ending.CutShort said))
broken_rest next.BadHead rest after text stop finds said = absurd (cc (same_end closing_text text ending.BadHead said))
broken_rest next.HeadTooLong rest after text stop finds said =
    absurd (cc (same_end closing_text text ending.HeadTooLong said))
broken_rest next.ManyHeaders rest after text stop finds said =
    absurd (cc (same_end closing_text text ending.ManyHeaders said))
broken_rest (next.Found head) rest after text stop finds said = absurd (cc said)
broken_rest next.NoMemory rest after text stop finds said = absurd (cc said)

broken_session : (conf : ConfValue) (bytes : List ℕ) (stop : Stop) (progress : Progress)
    → Session conf bytes stop progress ending.ReadFault → stop ≡ broken
broken_session conf bytes stop progress (at_head before head after work goes head_is works behind is) =
    absurd (no_fault_behind head.body head.last _ behind)
broken_session conf bytes stop progress (at_rest before result after text goes finds said is) =
    broken_rest result before.rest after text stop finds said

module _ {N : Type 0} (gains : N → N → List Placed → Type 0) (conf : ConfValue) where
  whole_session : (line : Line) (old new : Met N) (ends : End) (bytes : List ℕ) → line.around.left ≡ Some bytes
      → line.around.faults ≡ 0 → IfSome line.told (λ put. put ≡ []) → HasNoFault (gone_line line)
      → Whole gains conf line old new ends → DidSession gains conf bytes line.told_after old new ends
  whole_session line old new ends bytes left none empty calm whole =
      let all = over_all conf whole.bytes bytes whole.stop whole.progress ends line.around.left_after line.around.ended
      line.around.faults line.around.faults_after none calm.0 (sym left ∙ whole.reading.lost) whole.reading.stops
      whole.session in
      record {
        progress = with_rest whole.progress all.rest;
        session = all.session;
        put_is = put_all line.told line.told_after whole.progress.text empty whole.written;
        did = whole.did;
      }

  served_session : (line : Line) (old new : Met N) (ends : End) (bytes : List ℕ) → line.around.left ≡ Some bytes
      → line.around.faults ≡ 0 → line.put_faults ≡ 0 → IfSome line.told (λ put. put ≡ []) → HasNoFault (gone_line line)
      → ends ≢ ending.NoMemory → Served gains conf line old new ends
      → DidSession gains conf bytes line.told_after old new ends
  served_session line old new ending.WriteFault bytes left none unput empty calm other served =
      absurd (omega (arith, unput, calm.1, served.rose))
  served_session line old new ending.NoMemory bytes left none unput empty calm other served = absurd (other refl)
  served_session line old new ending.Closed bytes left none unput empty calm other served =
      whole_session line old new ending.Closed bytes left none empty calm served
  served_session line old new ending.CutShort bytes left none unput empty calm other served =
      whole_session line old new ending.CutShort bytes left none empty calm served
  served_session line old new ending.BadHead bytes left none unput empty calm other served =
      whole_session line old new ending.BadHead bytes left none empty calm served
  served_session line old new ending.HeadTooLong bytes left none unput empty calm other served =
      whole_session line old new ending.HeadTooLong bytes left none empty calm served
  served_session line old new ending.ManyHeaders bytes left none unput empty calm other served =
      whole_session line old new ending.ManyHeaders bytes left none empty calm served
  served_session line old new ending.ReadFault bytes left none unput empty calm other served =
      whole_session line old new ending.ReadFault bytes left none empty calm served
  served_session line old new ending.Body bytes left none unput empty calm other served =
      whole_session line old new ending.Body bytes left none empty calm served
  served_session line old new ending.Enough bytes left none unput empty calm other served =
      whole_session line old new ending.Enough bytes left none empty calm served

  pub visited_session : (old new : Post N) (visited : Visited gains conf old new) (bytes : List ℕ)
      → visited.line.around.left ≡ Some bytes → HasNoFault (gone_line visited.line) → visited.ends ≢ ending.NoMemory
      → DidSession gains conf bytes (gone_line visited.line).told old.met new.met visited.ends
  visited_session old new visited bytes left calm other =
      served_session visited.line old.met new.met visited.ends bytes left visited.fresh.reads visited.fresh.puts
      visited.fresh.empty calm other visited.served

  rose_of_read : (line : Line) (old new : Met N) → Whole gains conf line old new ending.ReadFault
      → Rose line.around.faults line.around.faults_after
  rose_of_read line old new whole =
      subst (λ stop. Stops stop line.around.ended line.around.left_after line.around.faults line.around.faults_after)
      (broken_session conf whole.bytes whole.stop whole.progress whole.session) whole.reading.stops

  pub visited_read : (old new : Post N) (visited : Visited gains conf old new) → visited.ends ≡ ending.ReadFault
      → 0 < (gone_line visited.line).read_faults
  visited_read old new visited is =
      let rose : Rose visited.line.around.faults visited.line.around.faults_after =
      rose_of_read visited.line old.met new.met
      (subst (λ ends. Served gains conf visited.line old.met new.met ends) is visited.served) in
      omega (arith, rose)

  rose_of_put : (line : Line) (old new : Met N) → Served gains conf line old new ending.WriteFault
      → Rose line.put_faults line.put_faults_after
  rose_of_put line old new broke = broke.rose

  pub visited_put : (old new : Post N) (visited : Visited gains conf old new) → visited.ends ≡ ending.WriteFault
      → 0 < (gone_line visited.line).put_faults
  visited_put old new visited is =
      let rose : Rose visited.line.put_faults visited.line.put_faults_after =
      rose_of_put visited.line old.met new.met
      (subst (λ ends. Served gains conf visited.line old.met new.met ends) is visited.served) in
      omega (arith, rose)
