-- What runs of the lab leave.
use Rattle.std.proofs.Common.{◌≡◌, ℕ, ◌<◌, ◌≤◌, Bool, true, false, List, [], ◌++◌, length, take, Option, Some, None, Result, Ok, Err, IfOk, IfSome, refl, sym, ap, ◌∙◌, subst, arith, inl, inr, length-append, append-nil}
use Rattle.std.specs.Io.KnownBytes.{prepend_known, append_known, IsAtEnd}
use Rattle.std.proofs.lemmas.Bool.{cases_lt}
use Rattle.usp_base.specs.Lines.{lines_of}
use Rattle.usp_base.specs.Outside.{Rose}
use Rattle.usp_base.specs.declared.files.MemoryFile.{MemoryFile}
use Rattle.usp_base.specs.declared.fault.Status.{Status}
use Rattle.usp_base.specs.declared.fault.Status.TheVariants.{Done, Denials, Words, Refused, Outside, Memory}
use Rattle.usp_lab.proofs.Tracing.{has_provenance}
use Rattle.usp_lab.proofs.Upheld.{upholds}
use Rattle.usp_lab.specs.Benches.{Used}
use Rattle.usp_lab.specs.Entries.{Run}
use Rattle.usp_lab.specs.LabText.{IsLabText, has_denial}
use Rattle.usp_lab.specs.Reports.{HasRun, IsReport}
use Rattle.usp_lab.specs.Summary.{summary_text}
use Rattle.usp_lab.specs.Turns.{IsRun}
use Rattle.usp_lab.specs.declared.report.Report.{Report}
use Rattle.usp_script.proofs.Progress.{asks_nothing}
use Rattle.usp_script.specs.Generator.{IsGenerated}
use Rattle.usp_script.specs.Reading.{AreFiles, AsksInOrder, Loaded, Unloads}
use Rattle.usp_script.specs.Script.{IsScript, ScriptValue}
use Rattle.usp_tool.proofs.Running.{long_is}
use Rattle.usp_tool.specs.Input.{is_long_input}
use Rattle.usp_tool.specs.Lab.Run.{AsksFiles, HasOutcome, IsAnswered, IsSummed, PutsWhole, Shows, StopsLoading, TellsRun, Written, no_script, runs, too_long}
use Rattle.usp_tool.specs.Lab.Runs.{Ran, status_by}
use Rattle.usp_tool.specs.Outcome.{IsOwn, Outcome}
use Rattle.usp_tool.specs.Run.{ReadsWhole, Wrote}
use Rattle.usp_tool.specs.declared.limits.TheConstants.{MAX_INPUT}

-- what is true of each run is true of one that is reported
pub has_ran : (script : ScriptValue) (workers : ℕ) (before after : Option (List Used)) (report : Report) → IsScript script
    → HasRun script workers before after report
    → (ran : Ran script workers before after) × IsReport (length script.edges) ran.run report
has_ran script workers before after report fits has = (
  record {
    fits = fits;
    run = has.run;
    is = has.is;
    lines = has.lines;
    upholds = λ place edge at. upholds script workers has.run fits has.is place edge at;
    provenance = has_provenance script has.run fits has.is.runs;
  },
  has.reports,
)

-- the text of the run, and the status behind it
pub tells_run : (script : ScriptValue) (workers : ℕ) (before after : Option (List Used)) (report : Report) (text : List ℕ) (status : Status)
    → (ran : Ran script workers before after) × IsReport (length script.edges) ran.run report
    → ((workers : ℕ) (run : Run) → IsRun script workers run → IsReport (length script.edges) run report → IsLabText script.edges run text)
    → ((edges : ℕ) (run : Run) → IsReport edges run report → status ≡ status_by (has_denial run))
    → TellsRun script workers before after (record { text = text; status = status })
tells_run script workers before after report text status ran tells denies =
    record {
      ran = ran.0;
      text = tells workers ran.0.run ran.0.is ran.1;
      status = denies (length script.edges) ran.0.run ran.1;
    }

own_by : (denies : Bool) → IsOwn (status_by denies)
own_by true = tt
own_by false = tt

pub own_of : (edges : ℕ) (report : Report) (run : Run) (status : Status) → IsReport edges run report
    → ((edges : ℕ) (run : Run) → IsReport edges run report → status ≡ status_by (has_denial run)) → IsOwn status
own_of edges report run status is denies = subst IsOwn (sym (denies edges run is)) (own_by (has_denial run))

two_edges : (groups : ℕ) (script : ScriptValue) → IsGenerated groups script → length script.edges ≡ 2
two_edges groups script made = ap (λ (s : ScriptValue). length s.edges) made.is

pub sums_run : (groups : ℕ) (script : ScriptValue) (workers : ℕ) (before after : Option (List Used)) (report : Report) (text : List ℕ) (status : Status)
    → workers ≡ 1 → IsGenerated groups script → (ran : Ran script workers before after) × IsReport (length script.edges) ran.run report
    → ((run : Run) → IsReport 2 run report → text ≡ summary_text groups run)
    → ((edges : ℕ) (run : Run) → IsReport edges run report → status ≡ status_by (has_denial run))
    → IsSummed groups before after (record { text = text; status = status })
sums_run groups script workers before after report text status one made ran tells denies =
    let alone : (ran : Ran script 1 before after) × IsReport (length script.edges) ran.run report =
    subst (λ n. (ran : Ran script n before after) × IsReport (length script.edges) ran.run report) one ran in
    record {
      script = script;
      generated = made;
      ran = alone.0;
      text = tells alone.0.run (subst (λ n. IsReport n alone.0.run report) (two_edges groups script made) alone.1);
      status = denies (length script.edges) alone.0.run alone.1;
    }

-- ---- the input, where it is told

not_short : (b : Bool) → b ≡ true → b ≡ false → ⊥
not_short b long short = let differ : true ≡ false = sym long ∙ short in cc

-- an input that is too long has the outcome of what was read of it, where that is too long
longer : (workers : ℕ) (read all : List ℕ) (loads : List Loaded) (before now : Option (List Used)) (o : Outcome) → MAX_INPUT < length read
    → MAX_INPUT < length all → HasOutcome workers read loads before now o → HasOutcome workers all loads before now o
longer workers read all loads before now o p q (too_long long none is same) = too_long (long_is all q) none is same
longer workers read all loads before now o p q (no_script number short reads is same) = absurd (not_short (is_long_input read) (long_is read p) short)
longer workers read all loads before now o p q (runs script short reads tells) = absurd (not_short (is_long_input read) (long_is read p) short)

-- the whole input, where it is told, and else what was read
known : (workers : ℕ) (read : List ℕ) (left after : Option (List ℕ)) (loads : List Loaded) (before now : Option (List Used)) (o : Outcome)
    → left ≡ prepend_known read after → (length read ≤ MAX_INPUT → IsAtEnd after) → HasOutcome workers read loads before now o
    → (input : List ℕ) × IfSome left (λ all. all ≡ input) × HasOutcome workers input loads before now o
known workers read None after loads before now o e h has = (read, tt, has)
known workers read (Some all) None loads before now o e h has = cc
known workers read (Some all) (Some rest) loads before now o e h has =
    let whole : all ≡ read ++ rest = cc in
    elim (cases_lt MAX_INPUT (length read)) [
      | inl long ↦ (all, refl, longer workers read all loads before now o long (omega (arith, ap length whole, length-append read rest)) has)
      | inr short ↦ (all, refl, subst (λ l. HasOutcome workers l loads before now o) (sym (whole ∙ (ap (λ l. read ++ l) (h short) ∙ append-nil read))) has)
    ]

pub is_answered : (workers : ℕ) (files : Option (List MemoryFile)) (read : List ℕ) (left after : Option (List ℕ)) (loads : List Loaded)
    (before now : Option (List Used)) (o : Outcome) → left ≡ prepend_known read after → (length read ≤ MAX_INPUT → IsAtEnd after)
    → AreFiles files loads → HasOutcome workers read loads before now o → IsAnswered workers files left before now o
is_answered workers files read left after loads before now o e h loaded has =
    let k = known workers read left after loads before now o e h has in
    record { input = k.0; read = k.1; loads = loads; loaded = loaded; has = k.2 }

pub if_answered : {E : Type 0} (workers : ℕ) (files : Option (List MemoryFile)) (read : List ℕ) (left after : Option (List ℕ))
    (before now : Option (List Used)) (r : Result Outcome E) → left ≡ prepend_known read after → (length read ≤ MAX_INPUT → IsAtEnd after)
    → IfOk r (λ o. (loads : List Loaded) × AreFiles files loads × HasOutcome workers read loads before now o)
    → IfOk r (λ o. IsAnswered workers files left before now o)
if_answered workers files read left after before now (Ok o) e h has = is_answered workers files read left after has.0 before now o e h has.1 has.2
if_answered workers files read left after before now (Err fault) e h has = tt

-- ---- the files that are asked for

some_input : (left : Option (List ℕ)) → (input : List ℕ) × IfSome left (λ all. all ≡ input)
some_input None = ([], tt)
some_input (Some all) = (all, refl)

pub asks_none : (left : Option (List ℕ)) (asked : Option (List (List ℕ))) → AsksFiles left asked asked
asks_none left asked =
    let some = some_input left in
    record {
      input = some.0;
      read = some.1;
      asked = asks_nothing (lines_of some.0) asked asked refl;
    }

pub asks_read : (read : List ℕ) (left rest : Option (List ℕ)) (before after : Option (List (List ℕ))) → left ≡ prepend_known read rest
    → IsAtEnd rest → AsksInOrder (lines_of read) before after → AsksFiles left before after
asks_read read None rest before after e h asks = record { input = read; read = tt; asked = asks }
asks_read read (Some all) None before after e h asks = cc
asks_read read (Some all) (Some rest) before after e h asks =
    let whole : all ≡ read ++ rest = cc in
    record { input = read; read = whole ∙ (ap (λ l. read ++ l) h ∙ append-nil read); asked = asks }

-- ---- the file at which lines stop

pub stops_read : (files : Option (List MemoryFile)) (read : List ℕ) (left rest : Option (List ℕ)) (before after : Option (List (List ℕ)))
    → left ≡ prepend_known read rest → (length read ≤ MAX_INPUT → IsAtEnd rest) → is_long_input read ≡ false
    → Unloads files (lines_of read) before after → StopsLoading files left before after
stops_read files read None rest before after e h short unloads = record { input = read; read = tt; unloads = unloads }
stops_read files read (Some all) None before after e h short unloads = cc
stops_read files read (Some all) (Some rest) before after e h short unloads =
    let whole : all ≡ read ++ rest = cc in
    elim (cases_lt MAX_INPUT (length read)) [
      | inl long ↦ absurd (not_short (is_long_input read) (long_is read long) short)
      | inr few ↦ record { input = read; read = whole ∙ (ap (λ l. read ++ l) (h few) ∙ append-nil read); unloads = unloads }
    ]

-- ---- the end of the input

pub whole_by : (status : Status) (ended : Bool) → ended ≡ true → IsOwn status → ReadsWhole status ended
whole_by Done ended e own = e
whole_by Denials ended e own = e
whole_by Words ended e own = absurd own
whole_by Refused ended e own = tt
whole_by Outside ended e own = absurd own
whole_by Memory ended e own = absurd own

pub if_whole : {E : Type 0} (r : Result Outcome E) (ended : Bool) → ended ≡ true → IfOk r (λ o. IsOwn o.status) → IfOk r (λ o. ReadsWhole o.status ended)
if_whole (Ok o) ended e own = whole_by o.status ended e own
if_whole (Err fault) ended e own = tt

-- ---- the last put

shows_own : (IsOne : Outcome → Type 0) (Unbegun : Type 0) (before after : Written) (status : Status) → IsOwn status → PutsWhole IsOne before after status
    → Shows IsOne Unbegun before after status
shows_own IsOne Unbegun before after Done own puts = puts
shows_own IsOne Unbegun before after Denials own puts = puts
shows_own IsOne Unbegun before after Refused own puts = puts
shows_own IsOne Unbegun before after Words own puts = absurd own
shows_own IsOne Unbegun before after Outside own puts = absurd own
shows_own IsOne Unbegun before after Memory own puts = absurd own

-- what a put of an outcome leaves
pub shows_put : (IsOne : Outcome → Type 0) (Unbegun : Type 0) (before after : Written) (text : List ℕ) (status result : Status) (o : Outcome) → IsOne o → IsOwn o.status
    → text ≡ o.text → status ≡ o.status → Wrote before.told after.told before.put_faults after.put_faults text status result
    → Shows IsOne Unbegun before after result
shows_put IsOne Unbegun before after text status result o one own t s (inl wrote) =
    let ends : result ≡ o.status = wrote.0 ∙ s in
    subst (λ r. Shows IsOne Unbegun before after r) (sym ends) (shows_own IsOne Unbegun before after o.status own
    (record { outcome = o; one = one; written = wrote.1 ∙ ap (append_known before.told) t; ends = refl }))
shows_put IsOne Unbegun before after text status result o one own t s (inr failed) =
    subst (λ r. Shows IsOne Unbegun before after r) (sym failed.0)
    (inr (record { outcome = o; one = one; count = failed.2; written = failed.3 ∙ ap (λ x. append_known before.told (take failed.2 x)) t; rose = failed.1 }))

not_outside : (status : Status) → IsOwn status → status ≡ Outside → ⊥
not_outside Done own e = cc
not_outside Denials own e = cc
not_outside Refused own e = cc
not_outside Words own e = absurd own
not_outside Outside own e = absurd own
not_outside Memory own e = absurd own

-- a fault behind a put is one of the put
pub put_rose : (before now : Option (List ℕ)) (faults faults_after : ℕ) (text : List ℕ) (status result : Status) → IsOwn status
    → Wrote before now faults faults_after text status result → result ≡ Outside → Rose faults faults_after
put_rose before now faults faults_after text status result own (inl wrote) e = absurd (not_outside status own (sym wrote.0 ∙ e))
put_rose before now faults faults_after text status result own (inr failed) e = failed.1

pub put_whole : (before now : Option (List ℕ)) (faults faults_after : ℕ) (text : List ℕ) (status result : Status) (ended : Bool)
    → ReadsWhole status ended → Wrote before now faults faults_after text status result → ReadsWhole result ended
put_whole before now faults faults_after text status result ended whole (inl wrote) = subst (λ r. ReadsWhole r ended) (sym wrote.0) whole
put_whole before now faults faults_after text status result ended whole (inr failed) = subst (λ r. ReadsWhole r ended) (sym failed.0) tt
