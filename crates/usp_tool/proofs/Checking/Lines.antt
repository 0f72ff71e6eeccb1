-- The lines of `check`, one after the other.
use Rattle.std.proofs.Common.{◌≡◌, ℕ, ◌+◌, ◌<◌, ◌≤◌, ◌==◌, true, List, [], ◌∷◌, ◌++◌, length, Some, None, refl, sym, ◌∙◌, subst, arith, append_assoc, append-nil}
use Rattle.std.proofs.lemmas.Bool.Decides.{nat_tests}
use Rattle.std.proofs.lemmas.List.{nil_from_length}
use Rattle.usp_base.specs.declared.fault.Status.{Status}
use Rattle.usp_base.specs.declared.fault.Status.TheVariants.{Done, Denials, Words, Refused, Outside, Memory}
use Rattle.usp_conf.specs.Values.{ConfValue}
use Rattle.usp_nonce.specs.History.{Call, IsLegal}
use Rattle.usp_nonce.specs.Stands.{StandsFor}
use Rattle.usp_nonce.specs.Table.{Table}
use Rattle.usp_rules.specs.Asks.{AskValue}
use Rattle.usp_rules.specs.declared.profile.Profile.{Profile}
use Rattle.usp_tool.proofs.Texts.{made, same_made}
use Rattle.usp_tool.specs.Check.{Checks, ChecksAsk, IsChecked, decides, done, line, stops, with_verdict}
use Rattle.usp_tool.specs.Check.Line.{ask_of}
use Rattle.usp_tool.specs.Check.Verdicts.{IsDecided, status_with, verdict_line}
use Rattle.usp_base.specs.Lines.{lines_of}
use Rattle.usp_tool.specs.Outcome.{IsOwn, Outcome, empty, line_refusal}
use Rattle.usp_tool.specs.declared.check.verdict.Verdict.{Verdict}
use Rattle.usp_tool.specs.declared.check.verdict.Verdict.TheVariants.{Admitted, Denied}

-- the status of a run that has this one so far, and ends with that
abbrev pub behind_status : Status → Status → Status
behind_status Denials Done = Denials
behind_status before after = after

abbrev pub behind : List ℕ → Status → Outcome → Outcome
behind text status more = record { text = text ++ more.text; status = behind_status status more.status }

-- a run so far: it is done, or has denials
abbrev pub GoesOn : Status → Type 0
GoesOn Done = Unit {0}
GoesOn Denials = Unit {0}
GoesOn other = ⊥

-- The lines so far: what the rest gives is put behind their text.
pub record Kept (conf : ConfValue) (input : List ℕ) (table : Table) (number : ℕ) (text : List ℕ) (status : Status) (rest : List ℕ) : Type 0 where
  pub calls : List Call
  pub stands : StandsFor table calls
  pub legal : IsLegal conf.room calls
  pub goes_on : GoesOn status
  pub carries : (more : Outcome) (after : List Call) → Checks conf.site.profile conf.room number calls (lines_of rest) more after
      → Checks conf.site.profile conf.room 1 [] (lines_of input) (behind text status more) after

pub kept_first : (conf : ConfValue) (input : List ℕ) (table : Table) → StandsFor table [] → IsLegal conf.room []
    → Kept conf input table 1 [] Done input
kept_first conf input table stands legal =
    record { calls = []; stands = stands; legal = legal; goes_on = tt; carries = λ more after checks. checks }

behind_status_twice : (status : Status) (verdict : Verdict) (more : Status) → GoesOn status
    → behind_status (status_with verdict status) more ≡ behind_status status (status_with verdict more)
behind_status_twice Done (Admitted content) more g = refl
behind_status_twice Done (Denied rule) Done g = refl
behind_status_twice Done (Denied rule) Denials g = refl
behind_status_twice Done (Denied rule) Words g = refl
behind_status_twice Done (Denied rule) Refused g = refl
behind_status_twice Done (Denied rule) Outside g = refl
behind_status_twice Done (Denied rule) Memory g = refl
behind_status_twice Denials (Admitted content) more g = refl
behind_status_twice Denials (Denied rule) Done g = refl
behind_status_twice Denials (Denied rule) Denials g = refl
behind_status_twice Denials (Denied rule) Words g = refl
behind_status_twice Denials (Denied rule) Refused g = refl
behind_status_twice Denials (Denied rule) Outside g = refl
behind_status_twice Denials (Denied rule) Memory g = refl
behind_status_twice Words verdict more g = absurd g
behind_status_twice Refused verdict more g = absurd g
behind_status_twice Outside verdict more g = absurd g
behind_status_twice Memory verdict more g = absurd g

goes_on_with : (verdict : Verdict) (status : Status) → GoesOn status → GoesOn (status_with verdict status)
goes_on_with (Admitted content) status g = g
goes_on_with (Denied rule) Done g = tt
goes_on_with (Denied rule) Denials g = tt
goes_on_with (Denied rule) Words g = g
goes_on_with (Denied rule) Refused g = g
goes_on_with (Denied rule) Outside g = g
goes_on_with (Denied rule) Memory g = g

behind_twice : (text : List ℕ) (status : Status) (number : ℕ) (verdict : Verdict) (more : Outcome) → GoesOn status
    → behind text status (with_verdict number verdict more) ≡ behind (text ++ verdict_line number verdict) (status_with verdict status) more
behind_twice text status number verdict more g =
    same_made _ _ _ _ (sym (append_assoc text (verdict_line number verdict) more.text)) (sym (behind_status_twice status verdict more.status g))

-- one line more
pub kept_more : (conf : ConfValue) (input : List ℕ) (table after : Table) (number : ℕ) (text : List ℕ) (status : Status) (rest first more : List ℕ) (ask : AskValue)
    (verdict : Verdict) (k : Kept conf input table number text status rest) → lines_of rest ≡ first ∷ lines_of more → ask_of first ≡ Some ask
    → IsDecided conf.site.profile conf.room ask k.calls verdict after
    → Kept conf input after (number + 1) (text ++ verdict_line number verdict) (status_with verdict status) more
kept_more conf input table after number text status rest first more ask verdict k cut is decided =
    record {
      calls = decided.after;
      stands = decided.stands;
      legal = decided.legal;
      goes_on = goes_on_with verdict status k.goes_on;
      carries = λ o end checks.
          let here : ChecksAsk conf.site.profile conf.room number k.calls (Some ask) (lines_of more) (with_verdict number verdict o) end =
          decides number k.calls decided.after end ask (lines_of more) (with_verdict number verdict o) o verdict decided.decides checks refl in
          let there : Checks conf.site.profile conf.room number k.calls (first ∷ lines_of more) (with_verdict number verdict o) end =
          line number k.calls end first (lines_of more) (with_verdict number verdict o)
          (subst (λ a. ChecksAsk conf.site.profile conf.room number k.calls a (lines_of more) (with_verdict number verdict o) end) (sym is) here) in
          subst (λ p. Checks conf.site.profile conf.room 1 [] (lines_of input) p end) (behind_twice text status number verdict o k.goes_on)
          (k.carries (with_verdict number verdict o) end
          (subst (λ ls. Checks conf.site.profile conf.room number k.calls ls (with_verdict number verdict o) end) (sym cut) there));
    }

refused_behind : (status : Status) → GoesOn status → behind_status status Refused ≡ Refused
refused_behind Done g = refl
refused_behind Denials g = refl
refused_behind Words g = absurd g
refused_behind Refused g = absurd g
refused_behind Outside g = absurd g
refused_behind Memory g = absurd g

done_behind : (status : Status) → GoesOn status → behind_status status Done ≡ status
done_behind Done g = refl
done_behind Denials g = refl
done_behind Words g = absurd g
done_behind Refused g = absurd g
done_behind Outside g = absurd g
done_behind Memory g = absurd g

-- a line that is refused ends the run
pub kept_refused : (conf : ConfValue) (input : List ℕ) (table : Table) (number : ℕ) (text : List ℕ) (status : Status) (rest first more : List ℕ) (whole : List ℕ)
    → Kept conf input table number text status rest → lines_of rest ≡ first ∷ lines_of more → ask_of first ≡ None
    → whole ≡ text ++ (line_refusal number).text → IsChecked conf (lines_of input) (record { text = whole; status = Refused })
kept_refused conf input table number text status rest first more whole k cut none is =
    let here : Checks conf.site.profile conf.room number k.calls (first ∷ lines_of more) (line_refusal number) k.calls =
    line number k.calls k.calls first (lines_of more) (line_refusal number)
    (subst (λ a. ChecksAsk conf.site.profile conf.room number k.calls a (lines_of more) (line_refusal number) k.calls) (sym none)
    (stops number k.calls k.calls (lines_of more) (line_refusal number) refl refl)) in
    let there = k.carries (line_refusal number) k.calls
    (subst (λ ls. Checks conf.site.profile conf.room number k.calls ls (line_refusal number) k.calls) (sym cut) here) in
    record {
      history = k.calls;
      legal = k.legal;
      checks = subst (λ o. Checks conf.site.profile conf.room 1 [] (lines_of input) o k.calls)
          (same_made _ _ _ _ (sym is) (refused_behind status k.goes_on)) there;
    }

-- the end of the lines
pub kept_done : (conf : ConfValue) (input : List ℕ) (table : Table) (number : ℕ) (text : List ℕ) (status : Status) (rest : List ℕ)
    → Kept conf input table number text status rest → rest ≡ [] → IsChecked conf (lines_of input) (record { text = text; status = status })
kept_done conf input table number text status rest k none =
    let here : Checks conf.site.profile conf.room number k.calls (lines_of rest) empty k.calls =
    subst (λ r. Checks conf.site.profile conf.room number k.calls (lines_of r) empty k.calls) (sym none) (done number k.calls k.calls empty refl refl) in
    record {
      history = k.calls;
      legal = k.legal;
      checks = subst (λ o. Checks conf.site.profile conf.room 1 [] (lines_of input) o k.calls)
          (same_made _ _ _ _ (append-nil text) (done_behind status k.goes_on)) (k.carries empty k.calls here);
    }

-- What the loop keeps: the lines so far, and enough bytes left for the numbers.
pub record Loop (conf : ConfValue) (input : List ℕ) (table : Table) (number : ℕ) (text : List ℕ) (status : Status) (rest : List ℕ) : Type 0 where
  pub kept : Kept conf input table number text status rest
  pub room : table.room ≡ conf.room
  pub calls : table.calls + length rest ≤ length input
  pub count : number + length rest ≤ length input + 1

pub loop_more : (conf : ConfValue) (profile : Profile) (input : List ℕ) (table after : Table) (number : ℕ) (text whole : List ℕ) (status then_status : Status)
    (rest first more : List ℕ) (ask : AskValue) (verdict : Verdict) → Loop conf input table number text status rest → lines_of rest ≡ first ∷ lines_of more
    → length more < length rest → ask_of first ≡ Some ask → profile ≡ conf.site.profile
    → ((before : List Call) → StandsFor table before → IsLegal table.room before → IsDecided profile table.room ask before verdict after)
    → after.room ≡ table.room → after.calls ≤ table.calls + 1 → whole ≡ text ++ verdict_line number verdict → then_status ≡ status_with verdict status
    → Loop conf input after (number + 1) whole then_status more
loop_more conf profile input table after number text whole status then_status rest first more ask verdict k cut shorter is same decided room calls w s =
    let legal : IsLegal table.room k.kept.calls = subst (λ r. IsLegal r k.kept.calls) (sym k.room) k.kept.legal in
    let here : IsDecided conf.site.profile conf.room ask k.kept.calls verdict after =
    subst (λ r. IsDecided conf.site.profile r ask k.kept.calls verdict after) k.room
    (subst (λ p. IsDecided p table.room ask k.kept.calls verdict after) same (decided k.kept.calls k.kept.stands legal)) in
    record {
      kept = subst (λ s. Kept conf input after (number + 1) whole s more) (sym s)
          (subst (λ t. Kept conf input after (number + 1) t (status_with verdict status) more) (sym w)
          (kept_more conf input table after number text status rest first more ask verdict k.kept cut is here));
      room = room ∙ k.room;
      calls = omega (arith, k.calls, shorter, calls);
      count = omega (arith, k.count, shorter);
    }

pub loop_refused : (conf : ConfValue) (input : List ℕ) (table : Table) (number : ℕ) (text whole : List ℕ) (status : Status) (rest first more : List ℕ)
    → Loop conf input table number text status rest → lines_of rest ≡ first ∷ lines_of more → ask_of first ≡ None
    → whole ≡ text ++ (line_refusal number).text → IsChecked conf (lines_of input) (made whole Refused)
loop_refused conf input table number text whole status rest first more k cut none is =
    kept_refused conf input table number text status rest first more whole k.kept cut none is

pub loop_first : (conf : ConfValue) (input : List ℕ) (table : Table) (text : List ℕ) → StandsFor table [] → table.room ≡ conf.room → text ≡ [] → table.calls ≡ 0 → IsLegal conf.room []
    → Loop conf input table 1 text Done input
loop_first conf input table text stands room none calls legal =
    record {
      kept = subst (λ t. Kept conf input table 1 t Done input) (sym none) (kept_first conf input table stands legal);
      room = room;
      calls = omega (arith, calls);
      count = omega arith;
    }

pub loop_done : (conf : ConfValue) (input : List ℕ) (table : Table) (number : ℕ) (text : List ℕ) (status : Status) (rest : List ℕ)
    → Loop conf input table number text status rest → rest ≡ [] → IsChecked conf (lines_of input) (record { text = text; status = status })
loop_done conf input table number text status rest k none = kept_done conf input table number text status rest k.kept none

cut_nothing : (before : List Call) (call : Call) (after : List Call) → [] ≡ before ++ call ∷ after → ⊥
cut_nothing [] call after e = cc
cut_nothing (first ∷ before) call after e = cc

pub empty_legal : (room : ℕ) → IsLegal room []
empty_legal room = record { each = λ before after call e. absurd (cut_nothing before call after e) }

own_of : (status : Status) → GoesOn status → IsOwn status
own_of Done g = tt
own_of Denials g = tt
own_of Words g = absurd g
own_of Refused g = absurd g
own_of Outside g = absurd g
own_of Memory g = absurd g

pub loop_own : (conf : ConfValue) (input : List ℕ) (table : Table) (number : ℕ) (text : List ℕ) (status : Status) (rest : List ℕ)
    → Loop conf input table number text status rest → IsOwn status
loop_own conf input table number text status rest k = own_of status k.kept.goes_on

-- a text that is tested to be empty is
pub empty_is : (text : List ℕ) → (length text == 0) ≡ true → text ≡ []
empty_is text e = nil_from_length text (grind (arith, nat_tests))
