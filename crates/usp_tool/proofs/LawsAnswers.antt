-- What the outcome of a command under a configuration says of the lines.
use Rattle.std.proofs.Common.{◌≡◌, ◌⊎◌, ℕ, ◌+◌, ◌≤◌, Bool, true, false, codes, List, [], ◌∷◌, length, Option, Some, refl, sym, ap, ◌∙◌, subst}
use Rattle.std.specs.Prelude.{MatchBool}
use Rattle.std.specs.List.{All}
use Rattle.std.specs.Option.{is_some, option_map}
use Rattle.usp_base.specs.declared.fault.Status.TheVariants.{Done, Denials, Refused}
use Rattle.usp_claims.specs.declared.limits.TheConstants.{MAX_PAYLOAD}
use Rattle.usp_base.proofs.Facts.{one_some}
use Rattle.usp_conf.proofs.Refused as conf
use Rattle.usp_conf.proofs.Sound as sound
use Rattle.usp_conf.specs.Readings.{Configures}
use Rattle.usp_conf.specs.Values.{ConfValue}
use Rattle.usp_jws.specs.Keys.{KeyValue, key_named}
use Rattle.usp_package.specs.Package.{package_of}
use Rattle.usp_rules.specs.Asks.{content_in}
use Rattle.usp_rules.specs.Rules.{AllHold, Holds}
use Rattle.usp_tool.proofs.LawsLines.{all_judged, all_signed}
use Rattle.usp_tool.proofs.LawsOnce.{lacks_none, named_not_memory}
use Rattle.usp_tool.proofs.LawsPassing as passing
use Rattle.usp_tool.specs.Answers.{HasOutcome, Works, WorksInput, no_conf, no_key, works}
use Rattle.usp_tool.specs.Check.Line.{ask_of}
use Rattle.usp_base.specs.Lines.{lines_of}
use Rattle.usp_tool.specs.Input.{is_long_input}
use Rattle.usp_tool.specs.Job.{JobValue, checking, job_of, signing}
use Rattle.usp_tool.specs.Outcome.{Outcome, refusal}
use Rattle.usp_tool.specs.Sign.{SignsAll, SignsEach, done, more, none, signs, stops}
use Rattle.usp_tool.specs.Sign.Line.{SignsLine, payload_for}
use Rattle.usp_tool.specs.Words.{Command, check, sign}

-- under a configuration that has a job, the outcome is that job's
answered_work : (command : Command) (text input : List ℕ) (value : ConfValue) (job : JobValue) (o : Outcome) → Configures text value
    → job_of command value ≡ Some job → HasOutcome command text (Some input) o → WorksInput job input o
answered_work command text input value job o configures has (no_conf found h is) =
    absurd (conf.refused found text value h (named_not_memory found is.0 is.1) configures)
answered_work command text input value job o configures has (no_key v h lacks is) = absurd (lacks_none command text v value job h configures lacks has)
answered_work command text input value job o configures has (works v j i h own e work) =
    let same : j ≡ job = one_some (job_of command value) j job (ap (job_of command) (sym (conf.only text v value h configures)) ∙ own) has in
    subst (λ j. WorksInput j input o) same (subst (λ i. WorksInput j i o) (sym e) work)

by_short : (b : Bool) (P Q : Type 0) → b ≡ false → MatchBool b P Q → Q
by_short true P Q short h = let differ : true ≡ false = short in cc
by_short false P Q short h = h

by_done : (b : Bool) (Q : Type 0) (o : Outcome) → o.status ≡ Done → MatchBool b (o ≡ refusal (codes "input")) Q → Q
by_done true Q o is h = let differ : Refused ≡ Done = sym (ap (λ (o : Outcome). o.status) h) ∙ is in cc
by_done false Q o is h = h

signing_job : (name kid : List ℕ) (value : ConfValue) (key : KeyValue) → key_named value.site.profile.ring kid ≡ Some key
    → job_of (sign name kid) value ≡ Some (signing value.site.profile.attribute key)
signing_job name kid value key found = ap (option_map (λ k. signing value.site.profile.attribute k)) found

pub judged : (name text input : List ℕ) (value : ConfValue) (o : Outcome) → Configures text value → HasOutcome (check name) text (Some input) o
    → is_long_input input ≡ false → All (λ line. is_some (ask_of line) ≡ true) (lines_of input) → (o.status ≡ Done) ⊎ (o.status ≡ Denials)
judged name text input value o configures answers short all =
    let work = by_short (is_long_input input) (o ≡ refusal (codes "input")) (Works (checking value) (lines_of input) o) short
    (answered_work (check name) text input value (checking value) o configures refl answers) in
    all_judged value.site.profile value.room 1 [] work.history (lines_of input) o all work.checks

pub signed : (name kid text input : List ℕ) (value : ConfValue) (key : KeyValue) (o : Outcome) → Configures text value
    → key_named value.site.profile.ring kid ≡ Some key → HasOutcome (sign name kid) text (Some input) o → is_long_input input ≡ false
    → All (λ line. (printed : List ℕ) × SignsLine value.site.profile.attribute key line printed) (lines_of input) → o.status ≡ Done
signed name kid text input value key o configures found answers short all =
    let job = signing value.site.profile.attribute key in
    all_signed value.site.profile.attribute key 1 (lines_of input) o all
    (by_short (is_long_input input) (o ≡ refusal (codes "input")) (Works job (lines_of input) o) short
    (answered_work (sign name kid) text input value job o configures (signing_job name kid value key found) answers))

-- a text for each line, where the run is done
each_of : (attribute : List ℕ) (key : KeyValue) (number : ℕ) (lines : List (List ℕ)) (o : Outcome) → SignsAll attribute key number lines o → o.status ≡ Done
    → (texts : List (List ℕ)) × SignsEach attribute key lines texts o.text
each_of attribute key _ _ _ (done number o is) ends = ([], subst (SignsEach attribute key [] []) (sym (ap (λ (o : Outcome). o.text) is)) none)
each_of attribute key _ _ _ (stops number first lines o never is) ends =
    let differ : Refused ≡ Done = sym (ap (λ (o : Outcome). o.status) is) ∙ ends in cc
each_of attribute key _ _ _ (signs number first text lines o rest s all is) ends =
    let behind = each_of attribute key (number + 1) lines rest all (sym (ap (λ (o : Outcome). o.status) is) ∙ ends) in (
      text ∷ behind.0,
      subst (SignsEach attribute key (first ∷ lines) (text ∷ behind.0)) (sym (ap (λ (o : Outcome). o.text) is))
          (more first text lines behind.0 rest.text s behind.1),
    )

pub each : (name kid text input : List ℕ) (value : ConfValue) (key : KeyValue) (o : Outcome) → Configures text value
    → key_named value.site.profile.ring kid ≡ Some key → HasOutcome (sign name kid) text (Some input) o → o.status ≡ Done
    → (texts : List (List ℕ)) × SignsEach value.site.profile.attribute key (lines_of input) texts o.text
each name kid text input value key o configures found answers ends =
    let job = signing value.site.profile.attribute key in
    each_of value.site.profile.attribute key 1 (lines_of input) o
    (by_done (is_long_input input) (Works job (lines_of input) o) o ends
    (answered_work (sign name kid) text input value job o configures (signing_job name kid value key found) answers)) ends

pub rules_kept : (text kid line printed : List ℕ) (value : ConfValue) (key : KeyValue) (cookie : Option (List ℕ)) (moment : ℕ)
    (s : SignsLine value.site.profile.attribute key line printed) → Configures text value → key_named value.site.profile.ring kid ≡ Some key
    → length (payload_for s.uri s.members) ≤ MAX_PAYLOAD
    → AllHold (λ r. Holds r value.site.profile (record { uri = printed; cookie = cookie; moment = moment })) passing.first_six
rules_kept text kid line printed value key cookie moment s configures found short =
    passing.signed_passes value.site.profile kid line printed key cookie moment s (sound.attribute text value configures) (sound.apart text value configures) found
    (sound.found text kid value key configures found) short

pub content_is : (text kid line printed : List ℕ) (value : ConfValue) (key : KeyValue) (s : SignsLine value.site.profile.attribute key line printed)
    → Configures text value → key_named value.site.profile.ring kid ≡ Some key
    → content_in printed (package_of value.site.profile.attribute printed) ≡ Some s.uri
content_is text kid line printed value key s configures found =
    passing.signed_content value.site.profile.attribute key line printed s (sound.attribute text value configures) (sound.found text kid value key configures found)
