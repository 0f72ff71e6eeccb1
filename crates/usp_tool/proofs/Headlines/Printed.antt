-- What each command printed.
use Rattle.std.proofs.Common.{◌≡◌, refl, sym, ap, ◌∙◌, subst, ℕ, Bool, true, false, if◌then◌else◌, List, [], ◌∷◌, ◌++◌, codes, Option, Some, None, IfSome, IfNone}
use Rattle.std.specs.Fmt.{decimal}
use Rattle.std.specs.Io.KnownBytes.{append_known}
use Rattle.std.specs.Str.{bytes_eq}
use Rattle.std.proofs.lemmas.Slice.Eq.{bytes_eq-Decides}
use Rattle.usp_base.specs.Lines.{lines_of}
use Rattle.usp_base.specs.declared.fault.Status.{Status}
use Rattle.usp_base.specs.declared.fault.Status.TheVariants.{Done, Denials, Words, Refused, Outside, Memory}
use Rattle.usp_conf.specs.Values.{ConfValue}
use Rattle.usp_lab.specs.Benches.{Used}
use Rattle.usp_lab.specs.declared.limits.TheConstants.{MAX_WORKERS}
use Rattle.usp_script.specs.declared.limits.TheConstants.{MAX_GROUPS}
use Rattle.usp_tool.proofs.Headlines.Asks.{lab_headline}
use Rattle.usp_tool.proofs.Headlines.Check.{IsPrinted, check_headline}
use Rattle.usp_tool.proofs.Headlines.Edge.{edge_headline}
use Rattle.usp_tool.proofs.Headlines.Lab.{run_headline}
use Rattle.usp_tool.specs.Answers as check
use Rattle.usp_tool.specs.Answers.{WorksInput}
use Rattle.usp_tool.specs.Check.{IsChecked}
use Rattle.usp_tool.specs.Edge.Desks.{all_notes}
use Rattle.usp_tool.specs.Edge.Run as edge
use Rattle.usp_tool.specs.Edge.Words.{EdgeWords, count_of, edge_of}
use Rattle.usp_tool.specs.Headline.{Headline, PrintsChecks, PrintsNotes, PrintsRun, PrintsSums, WherePrinted}
use Rattle.usp_tool.specs.Input.{is_long_input}
use Rattle.usp_tool.specs.Job.{JobValue, checking}
use Rattle.usp_tool.specs.Lab.Run as lab
use Rattle.usp_tool.specs.Lab.Words.{groups_of, workers_of}
use Rattle.usp_tool.specs.Outcome.{Outcome, refusal}
use Rattle.usp_tool.specs.Play.Words.{play_of}
use Rattle.usp_tool.specs.Program.{IsProgramRun, Scene, edge_scene, lab_scene, output_of}
use Rattle.usp_tool.specs.Run.{IsRun, PutsWhole, World}
use Rattle.usp_tool.specs.Run as lines
use Rattle.usp_tool.specs.Words.{Command, command_of, sign}
use Rattle.usp_tool.specs.Words as words

-- ---- statuses

-- a refusal is not printed where the status is another
not_refused : (status : Status) (outcome : Outcome) (what : List ℕ) → (status ≡ Refused → ⊥) → status ≡ outcome.status
    → outcome ≡ refusal what → ⊥
not_refused status outcome what other ends is = other (ends ∙ ap (λ (o : Outcome). o.status) is)

printed_other : (status : Status) → IsPrinted status → status ≡ Refused → ⊥
printed_other status p e = subst IsPrinted e p

-- where the whole text was printed, under one status or the other
where_printed : (status : Status) (Tells : Type 0) → (IsPrinted status → Tells) → WherePrinted status Tells
where_printed Done Tells h = h tt
where_printed Denials Tells h = h tt
where_printed Words Tells h = tt
where_printed Refused Tells h = tt
where_printed Outside Tells h = tt
where_printed Memory Tells h = tt

-- ---- `check`

checked_by : (conf : ConfValue) (input : List ℕ) (outcome : Outcome) (status : Status) (long : Bool)
    → is_long_input input ≡ long → IsPrinted status → status ≡ outcome.status → WorksInput (checking conf) input outcome
    → IsChecked conf (lines_of input) outcome
checked_by conf input outcome status true e printed ends works =
    absurd (not_refused status outcome (codes "input") (printed_other status printed) ends (rw e at works))
checked_by conf input outcome status false e printed ends works = rw e at works

same_job : (conf : ConfValue) (job : JobValue) → Some (checking conf) ≡ Some job → checking conf ≡ job
same_job conf job e = cc

prints_checks : {S : Type 0} (name : List ℕ) (before after : World S) (status : Status) → IsPrinted status
    → PutsWhole (words.check name) before after status → PrintsChecks name before after
prints_checks name before after status printed w = from w.answered.answers
  where
    from : check.HasOutcome (words.check name) w.answered.conf before.left w.outcome → PrintsChecks name before after
    from (check.no_conf found refuses is) =
        absurd (not_refused status w.outcome (codes "conf " ++ is.0) (printed_other status printed) w.ends is.2)
    from (check.no_key value configures none is) =
        absurd (not_refused status w.outcome (codes "key") (printed_other status printed) w.ends is)
    from (check.works value job input configures job_is read works) =
        let checks : IsChecked value (lines_of input) w.outcome =
        checked_by value input w.outcome status (is_long_input input) refl printed w.ends
        (subst (λ (j : JobValue). WorksInput j input w.outcome) (sym (same_job value job job_is)) works) in
        record {
          file = w.answered.conf;
          loaded = w.answered.loaded;
          conf = value;
          configures = configures;
          input = input;
          read = read;
          text = w.outcome.text;
          written = w.written;
          headline = check_headline value input w.outcome (subst IsPrinted w.ends printed) checks;
        }

pub shown_checks : {S : Type 0} (name : List ℕ) (before after : World S) (status : Status)
    → lines.Shows (words.check name) before after status → WherePrinted status (PrintsChecks name before after)
shown_checks name before after Done shows = prints_checks name before after Done tt shows
shown_checks name before after Denials shows = prints_checks name before after Denials tt shows
shown_checks name before after Words shows = tt
shown_checks name before after Refused shows = tt
shown_checks name before after Outside shows = tt
shown_checks name before after Memory shows = tt

-- ---- `edge`

pub prints_notes : (of : EdgeWords) (before after : edge.Scene) (status : Status) → (status ≡ Refused → ⊥)
    → edge.PutsWhole of before after status → PrintsNotes of before after
prints_notes of before after status other w = from w.answered.has
  where
    from : edge.HasOutcome of w.answered.conf before.desks after.desks w.outcome → PrintsNotes of before after
    from (edge.no_conf found refuses is over) = absurd (not_refused status w.outcome (codes "conf " ++ is.0) other w.ends is.2)
    from (edge.serves value configures serves) = record {
      file = w.answered.conf;
      loaded = w.answered.loaded;
      conf = value;
      configures = configures;
      all = serves.all;
      written = w.written ∙ ap (append_known before.told) serves.tells.text;
      headline = edge_headline value serves.all.calls (all_notes serves.all.served) serves.all.upholds;
    }

pub shown_notes : (of : EdgeWords) (before after : edge.Scene) (status : Status) → edge.Shows of before after status
    → WherePrinted status (PrintsNotes of before after)
shown_notes of before after Done shows = prints_notes of before after Done (λ e. cc e) shows
shown_notes of before after Denials shows = prints_notes of before after Denials (λ e. cc e) shows
shown_notes of before after Words shows = tt
shown_notes of before after Refused shows = tt
shown_notes of before after Outside shows = tt
shown_notes of before after Memory shows = tt

-- ---- `lab` and `lab-from`

prints_run : {B : Type 0} (workers : ℕ) (before after : lab.Scene B) (status : Status) → (status ≡ Refused → ⊥)
    → lab.PutsWhole (lab.IsAnswered workers before.files before.left before.used after.used) before.output after.output status
    → PrintsRun workers before after
prints_run workers before after status other w = from w.one.has
  where
    from : lab.HasOutcome workers w.one.input w.one.loads before.used after.used w.outcome → PrintsRun workers before after
    from (lab.too_long long none is same) = absurd (not_refused status w.outcome (codes "input") other w.ends is)
    from (lab.no_script number short reads is same) =
        absurd (not_refused status w.outcome (codes "line " ++ decimal number) other w.ends is)
    from (lab.runs script short reads tells) = record {
      input = w.one.input;
      read = w.one.read;
      loads = w.one.loads;
      loaded = w.one.loaded;
      script = script;
      reads = reads;
      run = tells.ran.run;
      is = tells.ran.is;
      text = w.outcome.text;
      written = w.written;
      headline = lab_headline script workers tells.ran.run w.outcome.text tells.ran.fits tells.ran.is tells.ran.provenance tells.text;
    }

pub shown_run : {B : Type 0} (workers : ℕ) (before after : lab.Scene B) (status : Status)
    → lab.Shows (lab.IsAnswered workers before.files before.left before.used after.used) (after.bench ≡ before.bench)
    before.output after.output status
    → WherePrinted status (PrintsRun workers before after)
shown_run workers before after Done shows = prints_run workers before after Done (λ e. cc e) shows
shown_run workers before after Denials shows = prints_run workers before after Denials (λ e. cc e) shows
shown_run workers before after Words shows = tt
shown_run workers before after Refused shows = tt
shown_run workers before after Outside shows = tt
shown_run workers before after Memory shows = tt

prints_sums : (groups : ℕ) (old new : Option (List Used)) (before after : lab.Written) (status : Status)
    → lab.PutsWhole (lab.IsSummed groups old new) before after status → PrintsSums groups before after
prints_sums groups old new before after status w =
    let sums = w.one in
    record {
      script = sums.script;
      generated = sums.generated;
      run = sums.ran.run;
      is = sums.ran.is;
      written = w.written ∙ ap (append_known before.told) sums.text;
      headline = run_headline sums.script 1 sums.ran.run sums.ran.fits sums.ran.is sums.ran.provenance;
    }

pub shown_sums : (groups : ℕ) (old new : Option (List Used)) (before after : lab.Written) (status : Status)
    → lab.Shows (lab.IsSummed groups old new) ⊥ before after status → WherePrinted status (PrintsSums groups before after)
shown_sums groups old new before after Done shows = prints_sums groups old new before after Done shows
shown_sums groups old new before after Denials shows = prints_sums groups old new before after Denials shows
shown_sums groups old new before after Words shows = tt
shown_sums groups old new before after Refused shows = tt
shown_sums groups old new before after Outside shows = tt
shown_sums groups old new before after Memory shows = tt

-- ---- words

if_each : {X : Type 0} (o : Option X) (P : X → Type 0) → ((x : X) → P x) → IfSome o P
if_each None P h = tt
if_each (Some x) P h = h x

if_same : {X : Type 0} (o : Option X) (P Q : X → Type 0) → ((x : X) → P x → Q x) → IfSome o P → IfSome o Q
if_same None P Q h p = tt
if_same (Some x) P Q h p = h x p

-- words of `check` are these two
check_by : (hit : Bool) (conf name : List ℕ) → (if hit then Some (words.check conf) else None) ≡ Some (words.check name)
    → (hit ≡ true) × (conf ≡ name)
check_by true conf name e = (refl, cc e)
check_by false conf name e = cc e

sign_by : (hit : Bool) (conf kid name : List ℕ) → (if hit then Some (sign conf kid) else None) ≡ Some (words.check name) → ⊥
sign_by true conf kid name e = cc e
sign_by false conf kid name e = cc e

check_words : (all : List (List ℕ)) (name : List ℕ) → command_of all ≡ Some (words.check name)
    → all ≡ codes "check" ∷ name ∷ []
check_words [] name e = cc e
check_words (word ∷ []) name e = cc e
check_words (word ∷ conf ∷ []) name e =
    let is = check_by (bytes_eq word (codes "check")) conf name e in
    ap (λ (w : List ℕ). w ∷ conf ∷ []) ((bytes_eq-Decides word (codes "check")).0 is.0)
    ∙ ap (λ (n : List ℕ). codes "check" ∷ n ∷ []) is.1
check_words (word ∷ conf ∷ kid ∷ []) name e = absurd (sign_by (bytes_eq word (codes "sign")) conf kid name e)
check_words (word ∷ conf ∷ kid ∷ more ∷ others) name e = cc e

-- they are words of no other command
check_part : (all : List (List ℕ)) (name : List ℕ) (P : Type 0) → command_of all ≡ Some (words.check name)
    → IfNone (edge_of all) (IfNone (play_of all) (IfNone (workers_of all) (IfNone (groups_of all) P))) → P
check_part all name P e h =
    subst (λ (w : List (List ℕ)). IfNone (edge_of w) (IfNone (play_of w) (IfNone (workers_of w) (IfNone (groups_of w) P))))
    (check_words all name e) h

lab_part : (all : List (List ℕ)) (P : ℕ → Type 0) → IfNone (edge_of all) (IfNone (play_of all) (IfSome (workers_of all) P))
    → IfSome (workers_of all) P
lab_part [] P h = tt
lab_part (word ∷ []) P h = tt
lab_part (word ∷ workers ∷ []) P h = h
lab_part (word ∷ workers ∷ third ∷ others) P h = tt

groups_by : (from plain : Bool) (workers groups : Option ℕ) (P : ℕ → Type 0) → (from ≡ true → plain ≡ false)
    → IfNone (if plain then workers else None) (IfSome (if from then groups else None) P)
    → IfSome (if from then groups else None) P
groups_by false plain workers groups P never h = tt
groups_by true false workers groups P never h = h
groups_by true true workers groups P never h = let e : true ≡ false = never refl in cc e

groups_part : (all : List (List ℕ)) (P : ℕ → Type 0)
    → IfNone (edge_of all) (IfNone (play_of all) (IfNone (workers_of all) (IfSome (groups_of all) P)))
    → IfSome (groups_of all) P
groups_part [] P h = tt
groups_part (word ∷ []) P h = tt
groups_part (word ∷ number ∷ []) P h =
    groups_by (bytes_eq word (codes "lab-from")) (bytes_eq word (codes "lab")) (count_of MAX_WORKERS number)
    (count_of MAX_GROUPS number) P
    (λ hit. subst (λ (w : List ℕ). bytes_eq w (codes "lab") ≡ false) (sym ((bytes_eq-Decides word (codes "lab-from")).0 hit)) refl)
    h
groups_part (word ∷ number ∷ third ∷ others) P h = tt

-- ---- the program

-- what a run of the program does keeps the headline
pub headline_of : {S W L B : Type 0} (all : List (List ℕ)) (before after : Scene S W L B) (status : Status)
    → IsProgramRun all before after status → Headline all before after status
headline_of all before after status run = record {
  check = λ name is.
      let of : IsRun all before.lines after.lines status = (check_part all name _ is run.lines).0 in
      shown_checks name before.lines after.lines status
      (subst (λ (o : Option Command). IfSome o (λ command. lines.Shows command before.lines after.lines status)) is of.shows);
  edge = if_same (edge_of all) _ (λ of. WherePrinted status (PrintsNotes of (edge_scene before) (edge_scene after)))
      (λ of h. shown_notes of (edge_scene before) (edge_scene after) status h.0.shows) run.edge;
  door = if_each (edge_of all) (λ of. edge.PutsWhole of (edge_scene before) (edge_scene after) Outside
      → PrintsNotes of (edge_scene before) (edge_scene after))
      (λ of w. prints_notes of (edge_scene before) (edge_scene after) Outside (λ e. cc e) w);
  lab = if_same (workers_of all) _ (λ workers. WherePrinted status (PrintsRun workers (lab_scene before) (lab_scene after)))
      (λ workers h. shown_run workers (lab_scene before) (lab_scene after) status h.0.shows) (lab_part all _ run.lab);
  groups = if_same (groups_of all) _ (λ groups. WherePrinted status (PrintsSums groups (output_of before) (output_of after)))
      (λ groups h. shown_sums groups before.used after.used (output_of before) (output_of after) status h.0.shows)
      (groups_part all _ run.groups);
}
