-- The normal form, from the parts of a reading.
use Rattle.std.proofs.Common.{◌≡◌, ℕ, ◌+◌, ◌<◌, ◌≤◌, Bool, true, false, cond, ◌||◌, List, [], ◌∷◌, length, Ok, Err, Result, Some, None, Option, sym, refl, ap, subst, ◌∙◌, arith}
use Rattle.std.specs.Prelude.{codes, nat_lt, IsErrAnd, IfErr}
use Rattle.std.proofs.lemmas.Bool.{le-ltb, lt-ltb}
use Rattle.std.proofs.lemmas.Bool.Decides.{nat_tests}
use Rattle.usp_uri.specs.declared.limits.TheConstants.{MAX_LEN}
use Rattle.usp_uri.specs.declared.fault.UriFault.{UriFault}
use Rattle.usp_uri.specs.declared.fault.UriFault.TheVariants as fault
use Rattle.usp_uri.specs.Letters.{is_colon}
use Rattle.usp_uri.specs.Delimited.{until}
use Rattle.usp_uri.specs.Faults.{normal_of, unless, first_fault, fault_of, text_fault, length_fault, normal_text, scheme_fault, begins_in_any_case}
use Rattle.usp_uri.specs.Answers.{Refuses, Gives}
use Rattle.usp_uri.proofs.SchemeLemmas.{http_scheme, https_scheme, http_room, https_room}

-- a definition that is this fault refuses so
refuses : (found : UriFault) (defined : Result (List ℕ) UriFault) → defined ≡ Err found → Refuses found defined
refuses fault.TooLong defined e = e
refuses fault.Scheme defined e = e
refuses fault.Userinfo defined e = e
refuses (fault.Syntax at) defined e = e
refuses fault.Port defined e = e
refuses (fault.Escape at) defined e = e
refuses fault.Fragment defined e = e
refuses fault.NoMemory defined e = tt

-- a refusal that a `?` hands on
pub handed_on : {A : Type 0} → (result : Result A UriFault) (found : UriFault) (defined : Result A UriFault) → IsErrAnd result (λ e. e ≡ found) → Refuses found defined → Gives result defined
handed_on (Ok value) found defined e refused = absurd e
handed_on (Err other) found defined e refused = subst (λ x. Refuses x defined) (sym e) refused

pub handed_on_refused : {A : Type 0} → (result : Result A UriFault) (found : UriFault) (defined : Result (List ℕ) UriFault) → IsErrAnd result (λ e. e ≡ found) → Refuses found defined
    → IfErr result (λ e. Refuses e defined)
handed_on_refused (Ok value) found defined e refused = tt
handed_on_refused (Err other) found defined e refused = subst (λ x. Refuses x defined) (sym e) refused

pub faulty : (text : List ℕ) (found : UriFault) → text_fault text ≡ Some found → normal_of text ≡ Err found
unfolding normal_of
faulty text found e = rw e refl

pub handed_on_fault : {A : Type 0} → (result : Result A UriFault) (found : UriFault) (defined : Result (List ℕ) UriFault) → IsErrAnd result (λ e. e ≡ found) → defined ≡ Err found
    → IfErr result (λ e. defined ≡ Err e)
handed_on_fault (Ok value) found defined e is = tt
handed_on_fault (Err other) found defined e is = is ∙ ap Err (sym e)

pub refused : (text : List ℕ) (found : UriFault) → text_fault text ≡ Some found → Refuses found (normal_of text)
refused text found e = refuses found (normal_of text) (faulty text found e)

pub too_long : (text normal : List ℕ) → text_fault text ≡ None → normal ≡ normal_text text → MAX_LEN < length normal → normal_of text ≡ Err fault.TooLong
unfolding normal_of
too_long text normal e same long = rw (e, lt-ltb MAX_LEN (length (normal_text text)) (omega (arith, ap length same))) refl

pub reads : (text normal : List ℕ) → text_fault text ≡ None → normal ≡ normal_text text → length normal ≤ MAX_LEN → normal_of text ≡ Ok normal
unfolding normal_of
reads text normal e same short = rw (e, le-ltb MAX_LEN (length (normal_text text)) (omega (arith, ap length same)), same) refl

-- the same by the test of the length
pub reads_long : (text normal : List ℕ) → text_fault text ≡ None → normal ≡ normal_text text → nat_lt MAX_LEN (length normal) ≡ true → normal_of text ≡ Err fault.TooLong
reads_long text normal e same long = too_long text normal e same (grind (arith, nat_tests))

pub reads_short : (text normal : List ℕ) → text_fault text ≡ None → normal ≡ normal_text text → nat_lt MAX_LEN (length normal) ≡ false → normal_of text ≡ Ok normal
reads_short text normal e same short = reads text normal e same (grind (arith, nat_tests))

-- ---- what an accepted text begins with

start_case : (a b : Bool) (text : List ℕ) → begins_in_any_case (codes "http://") text ≡ a → begins_in_any_case (codes "https://") text ≡ b
    → cond (a || b) None (Some fault.Scheme) ≡ None → length (until is_colon text) + 3 ≤ length text
start_case true b text http https e = omega (arith, http_scheme text http, http_room text http)
start_case false true text http https e = omega (arith, https_scheme text https, https_room text https)
start_case false false text http https e = absurd cc

pub scheme_within : (text : List ℕ) → scheme_fault text ≡ None → length (until is_colon text) + 3 ≤ length text
scheme_within text e = start_case _ _ text refl refl e

pub second : (first : Option UriFault) (others : List (Option UriFault)) → first_fault (first ∷ others) ≡ None → (first ≡ None) × (first_fault others ≡ None)
second None others e = (refl, e)
second (Some found) others e = absurd cc

unless_ok : (found : Option UriFault) (text normal : List ℕ) → unless found text ≡ Ok normal → (found ≡ None) × (text ≡ normal)
unless_ok None text normal e = (refl, cc)
unless_ok (Some found) text normal e = absurd cc

-- an accepted text has no fault, and its normal form is that of its parts
pub accepted : (text normal : List ℕ) → normal_of text ≡ Ok normal → (text_fault text ≡ None) × (length_fault normal ≡ None) × (normal_text text ≡ normal)
unfolding normal_of
accepted text normal e =
    let u = unless_ok (fault_of text) (normal_text text) normal e in
    let a = second (text_fault text) (length_fault (normal_text text) ∷ []) u.0 in
    let b = second (length_fault (normal_text text)) [] a.1 in
    (a.0, ap length_fault (sym u.1) ∙ b.0, u.1)

pub start_within : (text normal : List ℕ) → normal_of text ≡ Ok normal → length (until is_colon text) + 3 ≤ length text
start_within text normal e =
    let a = accepted text normal e in
    let b = second (length_fault text) _ a.0 in
    let c = second (scheme_fault text) _ b.1 in
    scheme_within text c.0
