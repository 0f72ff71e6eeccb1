-- What a run leaves: an input that is told, against what was read of it, and what the last put leaves.
use Rattle.std.proofs.Common.{◌≡◌, ℕ, ◌<◌, ◌≤◌, ◌⊎◌, Bool, true, false, ◌||◌, nat_lt, codes, List, ◌++◌, length, take, Option, Some, None, Result, Ok, Err, IfOk, IfSome, MatchBool, refl, sym, ap, ◌∙◌, subst, arith, inl, inr, length-append, append-nil}
use Rattle.std.specs.Io.KnownBytes.{prepend_known, append_known, IsAtEnd}
use Rattle.std.specs.List.{list_any}
use Rattle.std.proofs.lemmas.Bool.{cases_lt}
use borrow.Author.Tests.{lt-ltb, ltb-false}
use Rattle.usp_base.proofs.Facts.{never_both, same_some}
use Rattle.usp_base.specs.Outside.{file_of}
use Rattle.usp_base.specs.declared.files.MemoryFile.{MemoryFile}
use Rattle.usp_base.specs.declared.fault.Status.{Status}
use Rattle.usp_base.specs.declared.fault.Status.TheVariants.{Done, Denials, Words, Refused, Outside, Memory}
use Rattle.usp_conf.proofs.Refused as rows
use Rattle.usp_conf.specs.Readings.{Configures}
use Rattle.usp_conf.specs.Values.{ConfValue}
use Rattle.usp_tool.specs.Answers.{HasOutcome, IsRefusedUnread, Works, WorksInput, works}
use Rattle.usp_base.specs.Lines.{lines_of}
use Rattle.usp_tool.specs.Input.{is_long_input, is_long_line}
use Rattle.usp_tool.specs.Job.{JobValue, job_of}
use Rattle.usp_tool.specs.Outcome.{IsOwn, Outcome, refusal}
use Rattle.usp_tool.specs.Run.{IsAnswered, PutsWhole, ReadsWhole, Shows, World, Wrote}
use Rattle.usp_tool.specs.Words.{Command, conf_name}
use Rattle.usp_tool.specs.declared.limits.TheConstants.{MAX_INPUT}

pub long_is : (input : List ℕ) → MAX_INPUT < length input → is_long_input input ≡ true
long_is input lt = ap (λ b. b || list_any is_long_line (lines_of input)) (lt-ltb _ _ lt)

-- two inputs that are too long have one outcome
both_long : (job : JobValue) (a b : List ℕ) (o : Outcome) → MAX_INPUT < length a → MAX_INPUT < length b → WorksInput job a o → WorksInput job b o
both_long job a b o p q h =
    let refuses : o ≡ refusal (codes "input") = subst (λ t. MatchBool t (o ≡ refusal (codes "input")) (Works job (lines_of a) o)) (long_is a p) h in
    subst (λ t. MatchBool t (o ≡ refusal (codes "input")) (Works job (lines_of b) o)) (sym (long_is b q)) refuses

-- the whole input, where it is told, and else what was read
known : (job : JobValue) (read : List ℕ) (left after : Option (List ℕ)) (o : Outcome) → left ≡ prepend_known read after
    → (length read ≤ MAX_INPUT → IsAtEnd after) → WorksInput job read o → (input : List ℕ) × IfSome left (λ all. all ≡ input) × WorksInput job input o
known job read None after o e h work = (read, tt, work)
known job read (Some all) None o e h work = cc
known job read (Some all) (Some rest) o e h work =
    let whole : all ≡ read ++ rest = cc in
    elim (cases_lt MAX_INPUT (length read)) [
      | inl long ↦ (all, refl, both_long job read all o long (omega (arith, ap length whole, length-append read rest)) work)
      | inr short ↦ (all, refl, subst (λ l. WorksInput job l o) (sym (whole ∙ (ap (λ l. read ++ l) (h short) ∙ append-nil read))) work)
    ]

pub answers_read : (command : Command) (text : List ℕ) (conf : ConfValue) (job : JobValue) (read : List ℕ) (left after : Option (List ℕ)) (o : Outcome)
    → Configures text conf → job_of command conf ≡ Some job → left ≡ prepend_known read after → (length read ≤ MAX_INPUT → IsAtEnd after)
    → WorksInput job read o → HasOutcome command text left o
answers_read command text conf job read left after o configures has e h work =
    let k = known job read left after o e h work in works conf job k.0 configures has k.1 k.2

long_or_works : (b : Bool) (P Q : Type 0) (o : Outcome) → (P → o.status ≡ Refused) → MatchBool b P Q → (o.status ≡ Refused) ⊎ (b ≡ false)
long_or_works true P Q o f h = inl (f h)
long_or_works false P Q o f h = inr refl

pub short_by : (b c : Bool) (n : ℕ) → nat_lt MAX_INPUT n ≡ b → (b || c) ≡ false → n ≤ MAX_INPUT
short_by true c n e f = let differ : true ≡ false = f in cc
short_by false c n e f = ltb-false MAX_INPUT n e

-- what is not refused was read to its end
refused_or_whole : (job : JobValue) (read : List ℕ) (o : Outcome) (ended : Bool) → (length read ≤ MAX_INPUT → ended ≡ true)
    → WorksInput job read o → (o.status ≡ Refused) ⊎ (ended ≡ true)
refused_or_whole job read o ended over work =
    elim (long_or_works (is_long_input read) (o ≡ refusal (codes "input")) (Works job (lines_of read) o) o (λ e. ap (λ o. o.status) e) work) [
      | inl refuses ↦ inl refuses
      | inr short ↦ inr (over (short_by (nat_lt MAX_INPUT (length read)) (list_any is_long_line (lines_of read)) (length read) refl short))
    ]

reads_unless : (status : Status) (ended : Bool) → (status ≡ Refused) ⊎ (ended ≡ true) → IsOwn status → ReadsWhole status ended
reads_unless Done ended (inl e) i = let differ : Done ≡ Refused = e in cc
reads_unless Done ended (inr e) i = e
reads_unless Denials ended (inl e) i = let differ : Denials ≡ Refused = e in cc
reads_unless Denials ended (inr e) i = e
reads_unless Refused ended e i = tt
reads_unless Words ended e i = absurd i
reads_unless Outside ended e i = absurd i
reads_unless Memory ended e i = absurd i

pub work_whole : (job : JobValue) (read : List ℕ) (o : Outcome) (ended : Bool) → (length read ≤ MAX_INPUT → ended ≡ true) → IsOwn o.status
    → WorksInput job read o → ReadsWhole o.status ended
work_whole job read o ended over own work = reads_unless o.status ended (refused_or_whole job read o ended over work) own

-- a configuration with a job is not refused
pub accepted : (command : Command) (text : List ℕ) (conf : ConfValue) (job : JobValue) → Configures text conf → job_of command conf ≡ Some job
    → IsRefusedUnread command text → ⊥
accepted command text conf job configures has (inl refused) = rows.refused refused.0 text conf refused.1 refused.2 configures
accepted command text conf job configures has (inr lacks) =
    never_both (job_of command conf) job (ap (job_of command) (sym (rows.only text lacks.0 conf lacks.1 configures)) ∙ lacks.2) has

-- the text that was loaded is the told one
pub same_file : (files : Option (List MemoryFile)) (all : List MemoryFile) (name conf text : List ℕ) → files ≡ Some all → file_of all name ≡ Some conf
    → IfSome files (λ files. file_of files name ≡ Some text) → text ≡ conf
same_file None all name conf text e f h = let differ : ◌≡◌ {A = Option (List MemoryFile)} None (Some all) = e in cc
same_file (Some these) all name conf text e f h =
    let same : these ≡ all = cc in same_some text conf (sym h ∙ (ap (λ l. file_of l name) same ∙ f))

-- ---- the last put

shows_own : {S : Type 0} (command : Command) (before after : World S) (status : Status) → IsOwn status → PutsWhole command before after status
    → Shows command before after status
shows_own command before after Done i w = w
shows_own command before after Denials i w = w
shows_own command before after Refused i w = w
shows_own command before after Words i w = absurd i
shows_own command before after Outside i w = absurd i
shows_own command before after Memory i w = absurd i

-- what a put of an outcome leaves
shows_put : {S : Type 0} (command : Command) (before after : World S) (text : List ℕ) (status result : Status) (o : Outcome)
    → IsAnswered command before.files before.left o → IsOwn o.status → text ≡ o.text → status ≡ o.status
    → Wrote before.told after.told before.put_faults after.put_faults text status result → Shows command before after result
shows_put command before after text status result o answered own t s (inl wrote) =
    let ends : result ≡ o.status = wrote.0 ∙ s in
    subst (λ r. Shows command before after r) (sym ends) (shows_own command before after o.status own
    (record { outcome = o; answered = answered; written = wrote.1 ∙ ap (append_known before.told) t; ends = refl }))
shows_put command before after text status result o answered own t s (inr failed) =
    subst (λ r. Shows command before after r) (sym failed.0)
    (inr (record { outcome = o; answered = answered; count = failed.2; written = failed.3 ∙ ap (λ x. append_known before.told (take failed.2 x)) t; rose = failed.1 }))

pub not_outside : (status : Status) → IsOwn status → status ≡ Outside → ⊥
not_outside Done i e = cc
not_outside Denials i e = cc
not_outside Refused i e = cc
not_outside Words i e = absurd i
not_outside Outside i e = absurd i
not_outside Memory i e = absurd i

-- the outcome under the text that was loaded
pub if_answered : {E : Type 0} (command : Command) (files : Option (List MemoryFile)) (left : Option (List ℕ)) (conf : List ℕ) (r : Result Outcome E)
    → IfSome files (λ all. file_of all (conf_name command) ≡ Some conf) → IfOk r (λ o. HasOutcome command conf left o)
    → IfOk r (λ o. IsAnswered command files left o)
if_answered command files left conf (Ok o) loaded answers = record { conf = conf; loaded = loaded; answers = answers }
if_answered command files left conf (Err e) loaded answers = tt
