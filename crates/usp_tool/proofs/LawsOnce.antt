-- An input has one outcome.
use Rattle.std.proofs.Common.{◌≡◌, ◌⊎◌, inl, inr, ℕ, ◌+◌, max, Bool, true, false, codes, List, [], ◌∷◌, ◌++◌, Option, Some, None, refl, sym, ap, ◌∙◌, subst}
use Rattle.std.specs.Prelude.{MatchBool}
use Rattle.usp_base.proofs.Facts.{never_both, one_some, same_err, same_ok}
use Rattle.usp_claims.specs.Table.{text_claim}
use Rattle.usp_conf.proofs.Refused as conf
use Rattle.usp_conf.specs.Conf.{conf_of}
use Rattle.usp_conf.specs.Readings.{Configures, Fails, RefusesConf}
use Rattle.usp_conf.specs.Values.{ConfValue}
use Rattle.usp_conf.specs.declared.fault.ConfFault.{ConfFault}
use Rattle.usp_conf.specs.declared.fault.ConfFault.TheVariants as fault
use Rattle.usp_json.proofs.FaultLaws.{reads_once}
use Rattle.usp_json.specs.Spells.{given}
use Rattle.usp_json.specs.declared.value.Members.{Members}
use Rattle.usp_jws.specs.Keys.{KeyValue}
use Rattle.usp_nonce.specs.History.{Call, IsNext, answer_to, moment_of}
use Rattle.usp_nonce.specs.Nonces.{Nonce}
use Rattle.usp_nonce.specs.declared.answer.Answer.{Answer}
use Rattle.usp_rules.proofs.Verdicts.{one_verdict}
use Rattle.usp_rules.specs.Asks.{AskValue}
use Rattle.usp_rules.specs.Tokens.{SpellsClaims}
use Rattle.usp_rules.specs.declared.judged.Judged.TheVariants as judged
use Rattle.usp_rules.specs.declared.profile.Profile.{Profile}
use Rattle.usp_rules.specs.declared.rule.Rule.{Rule}
use Rattle.usp_tool.proofs.Signing.Line.{of_these}
use Rattle.usp_tool.specs.Answers.{HasOutcome, Works, WorksInput, no_conf, no_key, works}
use Rattle.usp_tool.specs.Check.{Checks, ChecksAsk, decides, done, line, stops, with_verdict}
use Rattle.usp_tool.specs.Check.Line.{ask_of}
use Rattle.usp_tool.specs.Check.Verdicts.{Decides, IsCall, called, denied, free, verdict_by}
use Rattle.usp_base.specs.Lines.{lines_of}
use Rattle.usp_tool.specs.Input.{is_long_input}
use Rattle.usp_tool.specs.Job.{JobValue, checking, job_of, signing}
use Rattle.usp_tool.specs.Outcome.{IsConfRefusal, Outcome, empty, fault_name, line_refusal, refusal}
use Rattle.usp_tool.specs.Sign.{SignsAll, done as signed_done, signs, stops as signed_stops, with_signed}
use Rattle.usp_tool.specs.Sign.Line.{SignsLine, signed_uri}
use Rattle.usp_tool.specs.Words.{Command}
use Rattle.usp_tool.specs.declared.check.verdict.Verdict.{Verdict}
use Rattle.usp_tool.specs.declared.check.verdict.Verdict.TheVariants.{Admitted, Denied}
use Rattle.usp_uri.specs.Faults.{normal_of}

-- ---- the nonce call

moment_same : (before : List Call) (a b : Call) → a.now ≡ b.now → moment_of (before ++ a ∷ []) ≡ moment_of (before ++ b ∷ [])
moment_same [] a b e = ap (λ n. max n 0) e
moment_same (first ∷ before) a b e = ap (λ n. max first.now n) (moment_same before a b e)

abbrev made : Nonce → ℕ → ℕ → ℕ → Answer → Call
made nonce now until moment answer = record { nonce = nonce; now = now; until = until; moment = moment; answer = answer }

same_made : (n m : Nonce) (a b c d e f : ℕ) (p q : Answer) → n ≡ m → a ≡ b → c ≡ d → e ≡ f → p ≡ q → made n a c e p ≡ made m b d f q
same_made n m a b c d e f p q h i j k l = cc

same_answer : (room : ℕ) (before : List Call) (n m : Nonce) (a b c d : ℕ) → n ≡ m → a ≡ b → c ≡ d → answer_to room before n a c ≡ answer_to room before m b d
same_answer room before n m a b c d h i j = rw (h, i, j) refl

one_call : (room : ℕ) (ask : AskValue) (m : Members) (content jti : List ℕ) (before : List Call) (a b : Call)
    → IsCall ask m content jti a → IsNext room before a → IsCall ask m content jti b → IsNext room before b → a ≡ b
one_call room ask m content jti before a b h n k o =
    let nonce : a.nonce ≡ b.nonce = h.nonce ∙ sym k.nonce in
    let now : a.now ≡ b.now = h.now ∙ sym k.now in
    let until : a.until ≡ b.until = h.until ∙ sym k.until in
    let moment : a.moment ≡ b.moment = n.moment ∙ (moment_same before a b now ∙ sym o.moment) in
    let answer : a.answer ≡ b.answer = n.answer ∙ (same_answer room before a.nonce b.nonce a.until b.until a.moment b.moment nonce until moment ∙ sym o.answer) in
    same_made a.nonce b.nonce a.now b.now a.until b.until a.moment b.moment a.answer b.answer nonce now until moment answer

-- ---- the verdict

record Passing (content : List ℕ) (members : Members) (other : List ℕ) (others : Members) : Type 0 where
  pub content_same : content ≡ other
  pub members_same : members ≡ others

passed_same : (c d t u : List ℕ) (m n : Members) (i j : ℕ) → judged.Passed c t m i ≡ judged.Passed d u n j → Passing c m d n
passed_same c d t u m n i j e = record { content_same = cc; members_same = cc }

denied_same : (r s : Rule) → judged.Denied r ≡ judged.Denied s → r ≡ s
denied_same r s e = cc

denied_passed : (r : Rule) (c t : List ℕ) (m : Members) (i : ℕ) → judged.Denied r ≡ judged.Passed c t m i → ⊥
denied_passed r c t m i e = cc

-- one verdict and the same calls behind it
record IsOne (v w : Verdict) (x y : List Call) : Type 0 where
  pub verdict : v ≡ w
  pub calls : x ≡ y

none_called : (m n : Members) (jti : List ℕ) → m ≡ n → text_claim (codes "jti") m ≡ None → text_claim (codes "jti") n ≡ Some jti → ⊥
none_called m n jti same none some = never_both (text_claim (codes "jti") n) jti (ap (text_claim (codes "jti")) (sym same) ∙ none) some

called_once : (room : ℕ) (ask : AskValue) (before : List Call) (c d j k : List ℕ) (m n : Members) (a b : Call) (v w : Verdict) (x y : List Call) → Passing c m d n
    → text_claim (codes "jti") m ≡ Some j → IsCall ask m c j a → IsNext room before a → v ≡ verdict_by c a.answer → x ≡ before ++ a ∷ []
    → text_claim (codes "jti") n ≡ Some k → IsCall ask n d k b → IsNext room before b → w ≡ verdict_by d b.answer → y ≡ before ++ b ∷ [] → IsOne v w x y
called_once room ask before c d j k m n a b v w x y p some h next vi xi other g then wi yi =
    let names : j ≡ k = one_some (text_claim (codes "jti") n) j k (ap (text_claim (codes "jti")) (sym p.members_same) ∙ some) other in
    let here : IsCall ask n d k a =
    subst (λ k. IsCall ask n d k a) names (subst (λ c. IsCall ask n c j a) p.content_same (subst (λ m. IsCall ask m c j a) p.members_same h)) in
    let same : a ≡ b = one_call room ask n d k before a b here next g then in
    record {
      verdict = vi ∙ (ap (λ t. verdict_by t a.answer) p.content_same ∙ (ap (λ (q : Call). verdict_by d q.answer) same ∙ sym wi));
      calls = xi ∙ (ap (λ (q : Call). before ++ q ∷ []) same ∙ sym yi);
    }

decides_once : (profile : Profile) (room : ℕ) (ask : AskValue) (before : List Call) (v w : Verdict) (x y : List Call)
    → Decides profile room ask before v x → Decides profile room ask before w y → IsOne v w x y
decides_once profile room ask before _ _ _ _ (denied v x r h vi xi) (denied w y s k wi yi) =
    let same = denied_same r s (one_verdict profile ask (judged.Denied r) (judged.Denied s) h k) in
    record { verdict = vi ∙ (ap Denied same ∙ sym wi); calls = xi ∙ sym yi }
decides_once profile room ask before _ _ _ _ (denied v x r h vi xi) (free w y c t m i k none wi yi) =
    absurd (denied_passed r c t m i (one_verdict profile ask (judged.Denied r) (judged.Passed c t m i) h k))
decides_once profile room ask before _ _ _ _ (denied v x r h vi xi) (called w y c t j m i call k some is next wi yi) =
    absurd (denied_passed r c t m i (one_verdict profile ask (judged.Denied r) (judged.Passed c t m i) h k))
decides_once profile room ask before _ _ _ _ (free v x c t m i h none vi xi) (denied w y r k wi yi) =
    absurd (denied_passed r c t m i (one_verdict profile ask (judged.Denied r) (judged.Passed c t m i) k h))
decides_once profile room ask before _ _ _ _ (free v x c t m i h none vi xi) (free w y d u n j k other wi yi) =
    let p = passed_same c d t u m n i j (one_verdict profile ask (judged.Passed c t m i) (judged.Passed d u n j) h k) in
    record { verdict = vi ∙ (ap Admitted p.content_same ∙ sym wi); calls = xi ∙ sym yi }
decides_once profile room ask before _ _ _ _ (free v x c t m i h none vi xi) (called w y d u jti n j call k some is next wi yi) =
    let p = passed_same c d t u m n i j (one_verdict profile ask (judged.Passed c t m i) (judged.Passed d u n j) h k) in
    absurd (none_called m n jti p.members_same none some)
decides_once profile room ask before _ _ _ _ (called v x c t jti m i call h some is next vi xi) (denied w y r k wi yi) =
    absurd (denied_passed r c t m i (one_verdict profile ask (judged.Denied r) (judged.Passed c t m i) k h))
decides_once profile room ask before _ _ _ _ (called v x c t jti m i call h some is next vi xi) (free w y d u n j k none wi yi) =
    let p = passed_same d c u t n m j i (one_verdict profile ask (judged.Passed d u n j) (judged.Passed c t m i) k h) in
    absurd (none_called n m jti p.members_same none some)
decides_once profile room ask before _ _ _ _ (called v x c t jti m i call h some is next vi xi) (called w y d u other n j again k also also_is then wi yi) =
    let p = passed_same c d t u m n i j (one_verdict profile ask (judged.Passed c t m i) (judged.Passed d u n j) h k) in
    called_once room ask before c d jti other m n call again v w x y p some is next vi xi also also_is then wi yi

-- ---- the lines of `check`

-- the line with this ask, and those behind it
record AskWorked (profile : Profile) (room number : ℕ) (calls : List Call) (ask : AskValue) (lines : List (List ℕ)) (outcome : Outcome) (after : List Call) : Type 0 where
  pub verdict : Verdict
  pub between : List Call
  pub more : Outcome
  pub decided : Decides profile room ask calls verdict between
  pub rest : Checks profile room (number + 1) between lines more after
  pub is : outcome ≡ with_verdict number verdict more

abbrev AskBy : Profile → (room number : ℕ) → List Call → Option AskValue → List (List ℕ) → Outcome → List Call → Type 0
AskBy profile room number calls None lines outcome after = (outcome ≡ line_refusal number) × (after ≡ calls)
AskBy profile room number calls (Some ask) lines outcome after = AskWorked profile room number calls ask lines outcome after

abbrev ChecksBy : Profile → (room number : ℕ) → List Call → List (List ℕ) → Outcome → List Call → Type 0
ChecksBy profile room number calls [] outcome after = (outcome ≡ empty) × (after ≡ calls)
ChecksBy profile room number calls (first ∷ lines) outcome after = ChecksAsk profile room number calls (ask_of first) lines outcome after

by_ask : (profile : Profile) (room number : ℕ) (calls : List Call) (ask : Option AskValue) (lines : List (List ℕ)) (outcome : Outcome) (after : List Call)
    → ChecksAsk profile room number calls ask lines outcome after → AskBy profile room number calls ask lines outcome after
by_ask profile room _ _ _ _ _ _ (stops number calls after lines outcome is same) = (is, same)
by_ask profile room _ _ _ _ _ _ (decides number calls between after ask lines outcome more verdict decided checks is) =
    record { verdict = verdict; between = between; more = more; decided = decided; rest = checks; is = is }

by_lines : (profile : Profile) (room number : ℕ) (calls : List Call) (lines : List (List ℕ)) (outcome : Outcome) (after : List Call)
    → Checks profile room number calls lines outcome after → ChecksBy profile room number calls lines outcome after
by_lines profile room _ _ _ _ _ (done number calls after outcome is same) = (is, same)
by_lines profile room _ _ _ _ _ (line number calls after first lines outcome checks) = checks

-- one outcome and the same calls behind it
record IsSame (o p : Outcome) (a b : List Call) : Type 0 where
  pub outcome : o ≡ p
  pub calls : a ≡ b

abbrev Once : Profile → ℕ → List (List ℕ) → Type 0
Once profile room lines =
    (number : ℕ) (calls : List Call) (o p : Outcome) (a b : List Call) → Checks profile room number calls lines o a → Checks profile room number calls lines p b → IsSame o p a b

same_with : (number : ℕ) (v w : Verdict) (o p : Outcome) → v ≡ w → o ≡ p → with_verdict number v o ≡ with_verdict number w p
same_with number v w o p h k = rw (h, k) refl

ask_once : (profile : Profile) (room : ℕ) (lines : List (List ℕ)) → Once profile room lines → (ask : Option AskValue) (number : ℕ) (calls : List Call) (o p : Outcome) (a b : List Call)
    → AskBy profile room number calls ask lines o a → AskBy profile room number calls ask lines p b → IsSame o p a b
ask_once profile room lines rest None number calls o p a b h k = record { outcome = h.0 ∙ sym k.0; calls = h.1 ∙ sym k.1 }
ask_once profile room lines rest (Some ask) number calls o p a b h k =
    let one = decides_once profile room ask calls h.verdict k.verdict h.between k.between h.decided k.decided in
    let other : Checks profile room (number + 1) h.between lines k.more b = subst (λ c. Checks profile room (number + 1) c lines k.more b) (sym one.calls) k.rest in
    let more = rest (number + 1) h.between h.more k.more a b h.rest other in
    record { outcome = h.is ∙ (same_with number h.verdict k.verdict h.more k.more one.verdict more.outcome ∙ sym k.is); calls = more.calls }

checks_once : (profile : Profile) (room : ℕ) (lines : List (List ℕ)) → Once profile room lines
checks_once profile room [] number calls o p a b h k =
    let x = by_lines profile room number calls [] o a h in
    let y = by_lines profile room number calls [] p b k in
    record { outcome = x.0 ∙ sym y.0; calls = x.1 ∙ sym y.1 }
checks_once profile room (first ∷ lines) number calls o p a b h k =
    ask_once profile room lines (checks_once profile room lines) (ask_of first) number calls o p a b
    (by_ask profile room number calls (ask_of first) lines o a (by_lines profile room number calls (first ∷ lines) o a h))
    (by_ask profile room number calls (ask_of first) lines p b (by_lines profile room number calls (first ∷ lines) p b k))

pub one_checked : (profile : Profile) (room number : ℕ) (calls : List Call) (lines : List (List ℕ)) (o p : Outcome) (a b : List Call)
    → Checks profile room number calls lines o a → Checks profile room number calls lines p b → (o ≡ p) × (a ≡ b)
one_checked profile room number calls lines o p a b h k =
    let s = checks_once profile room lines number calls o p a b h k in
    (s.outcome, s.calls)

-- ---- the lines of `sign`

signs_once : (attribute : List ℕ) (key : KeyValue) (first text other : List ℕ) → SignsLine attribute key first text → SignsLine attribute key first other → text ≡ other
signs_once attribute key first text other s t =
    let cut = of_these attribute first t.typed t.claims key text s t.cut in
    let uri : s.uri ≡ t.uri = same_ok s.uri t.uri (sym (ap normal_of (sym cut.0) ∙ s.normal) ∙ t.normal) in
    let claims : SpellsClaims t.claims s.members = subst (λ c. SpellsClaims c s.members) cut.1 s.spells in
    let m : s.members ≡ t.members = reads_once given t.claims s.members t.members claims.reads t.spells.reads in
    s.signed ∙ (ap (λ u. signed_uri attribute key u s.members) uri ∙ (ap (λ m. signed_uri attribute key t.uri m) m ∙ sym t.signed))

-- something is signed for the first line, and for those behind it
record LineSigned (attribute : List ℕ) (key : KeyValue) (number : ℕ) (first : List ℕ) (lines : List (List ℕ)) (outcome : Outcome) : Type 0 where
  pub text : List ℕ
  pub more : Outcome
  pub signed : SignsLine attribute key first text
  pub rest : SignsAll attribute key (number + 1) lines more
  pub is : outcome ≡ with_signed text more

abbrev SignsBy : List ℕ → KeyValue → ℕ → List (List ℕ) → Outcome → Type 0
SignsBy attribute key number [] outcome = outcome ≡ empty
SignsBy attribute key number (first ∷ lines) outcome =
    (((text : List ℕ) → SignsLine attribute key first text → ⊥) × (outcome ≡ line_refusal number)) ⊎ LineSigned attribute key number first lines outcome

by_signed : (attribute : List ℕ) (key : KeyValue) (number : ℕ) (lines : List (List ℕ)) (outcome : Outcome)
    → SignsAll attribute key number lines outcome → SignsBy attribute key number lines outcome
by_signed attribute key _ _ _ (signed_done number outcome is) = is
by_signed attribute key _ _ _ (signed_stops number first lines outcome never is) = inl (never, is)
by_signed attribute key _ _ _ (signs number first text lines outcome more signed rest is) =
    inr (record { text = text; more = more; signed = signed; rest = rest; is = is })

same_joined : (t u : List ℕ) (o p : Outcome) → t ≡ u → o ≡ p → with_signed t o ≡ with_signed u p
same_joined t u o p h k = rw (h, k) refl

abbrev SignedOnce : List ℕ → KeyValue → List (List ℕ) → Type 0
SignedOnce attribute key lines = (number : ℕ) (o p : Outcome) → SignsAll attribute key number lines o → SignsAll attribute key number lines p → o ≡ p

line_once : (attribute : List ℕ) (key : KeyValue) (first : List ℕ) (lines : List (List ℕ)) → SignedOnce attribute key lines → (number : ℕ) (o p : Outcome)
    → SignsBy attribute key number (first ∷ lines) o → SignsBy attribute key number (first ∷ lines) p → o ≡ p
line_once attribute key first lines rest number o p (inl h) (inl k) = h.1 ∙ sym k.1
line_once attribute key first lines rest number o p (inl h) (inr k) = absurd (h.0 k.text k.signed)
line_once attribute key first lines rest number o p (inr h) (inl k) = absurd (k.0 h.text h.signed)
line_once attribute key first lines rest number o p (inr h) (inr k) =
    h.is ∙ (same_joined h.text k.text h.more k.more (signs_once attribute key first h.text k.text h.signed k.signed) (rest (number + 1) h.more k.more h.rest k.rest) ∙ sym k.is)

all_once : (attribute : List ℕ) (key : KeyValue) (lines : List (List ℕ)) → SignedOnce attribute key lines
all_once attribute key [] number o p h k = by_signed attribute key number [] o h ∙ sym (by_signed attribute key number [] p k)
all_once attribute key (first ∷ lines) number o p h k =
    line_once attribute key first lines (all_once attribute key lines) number o p (by_signed attribute key number (first ∷ lines) o h) (by_signed attribute key number (first ∷ lines) p k)

pub one_signed : (attribute : List ℕ) (key : KeyValue) (number : ℕ) (lines : List (List ℕ)) (o p : Outcome)
    → SignsAll attribute key number lines o → SignsAll attribute key number lines p → o ≡ p
one_signed attribute key number lines o p h k = all_once attribute key lines number o p h k

-- ---- the whole

-- a fault of a text that is read, or of one that is not
data IsFault (text : List ℕ) (found : ConfFault) : Type 0 where
  unread : found ≡ fault.Json → RefusesConf fault.Json text → IsFault text found
  fails : Fails text found → IsFault text found

fault_of : (found : ConfFault) (text name : List ℕ) → RefusesConf found text → fault_name found ≡ Some name → IsFault text found
fault_of fault.Json text name h named = unread refl h
fault_of fault.NoMemory text name h named = let differ : ◌≡◌ {A = Option (List ℕ)} None (Some name) = named in cc
fault_of (fault.Missing of) text name h named = fails h
fault_of (fault.Kind of) text name h named = fails h
fault_of (fault.Range of) text name h named = fails h
fault_of (fault.ShortKey kid) text name h named = fails h
fault_of (fault.Repeat of) text name h named = fails h

-- what is named is no want of memory
pub named_not_memory : (found : ConfFault) (name : List ℕ) → fault_name found ≡ Some name → found ≡ fault.NoMemory → ⊥
named_not_memory found name named is =
    let differ : ◌≡◌ {A = Option (List ℕ)} None (Some name) = sym (ap fault_name is) ∙ named in cc

one_fault : (text : List ℕ) (a b : ConfFault) → IsFault text a → IsFault text b → a ≡ b
one_fault text a b (unread is h) (unread same k) = is ∙ sym same
one_fault text a b (unread is h) (fails k) = absurd (never_both _ k.json (h k.utf8) k.reading)
one_fault text a b (fails h) (unread same k) = absurd (never_both _ h.json (k h.utf8) h.reading)
one_fault text a b (fails h) (fails k) =
    let json = one_some _ h.json k.json h.reading k.reading in
    same_err a b (sym (ap conf_of (sym json) ∙ h.defined) ∙ k.defined)

one_conf_refusal : (text : List ℕ) (a b : ConfFault) (o p : Outcome) → RefusesConf a text → RefusesConf b text → IsConfRefusal a o → IsConfRefusal b p → o ≡ p
one_conf_refusal text a b o p h k x y =
    let found = one_fault text a b (fault_of a text x.0 h x.1) (fault_of b text y.0 k y.1) in
    let name : x.0 ≡ y.0 = one_some (fault_name b) x.0 y.0 (ap fault_name (sym found) ∙ x.1) y.1 in
    x.2 ∙ (ap (λ n. refusal (codes "conf " ++ n)) name ∙ sym y.2)

one_work : (job : JobValue) (lines : List (List ℕ)) (o p : Outcome) → Works job lines o → Works job lines p → o ≡ p
one_work (checking value) lines o p h k =
    (checks_once value.site.profile value.room lines 1 [] o p h.history k.history h.checks k.checks).outcome
one_work (signing attribute key) lines o p h k = all_once attribute key lines 1 o p h k

by_length : (b : Bool) (job : JobValue) (lines : List (List ℕ)) (o p : Outcome)
    → MatchBool b (o ≡ refusal (codes "input")) (Works job lines o) → MatchBool b (p ≡ refusal (codes "input")) (Works job lines p) → o ≡ p
by_length true job lines o p h k = h ∙ sym k
by_length false job lines o p h k = one_work job lines o p h k

one_worked : (job other : JobValue) (input again : List ℕ) (o p : Outcome) → job ≡ other → input ≡ again
    → WorksInput job input o → WorksInput other again p → o ≡ p
one_worked job other input again o p same e h k =
    let here : WorksInput other again o = subst (λ i. WorksInput other i o) e (subst (λ j. WorksInput j input o) same h) in
    by_length (is_long_input again) other (lines_of again) o p here k

-- a configuration that has a job lacks no key
pub lacks_none : (command : Command) (text : List ℕ) (v w : ConfValue) (job : JobValue) → Configures text v → Configures text w
    → job_of command v ≡ None → job_of command w ≡ Some job → ⊥
lacks_none command text v w job h k lacks has =
    never_both (job_of command w) job (ap (job_of command) (sym (conf.only text v w h k)) ∙ lacks) has

pub one_answer : (command : Command) (text input : List ℕ) (o p : Outcome) → HasOutcome command text (Some input) o → HasOutcome command text (Some input) p → o ≡ p
one_answer command text input o p (no_conf a h is) (no_conf b k same) = one_conf_refusal text a b o p h k is same
one_answer command text input o p (no_conf a h is) (no_key v k lacks same) = absurd (conf.refused a text v h (named_not_memory a is.0 is.1) k)
one_answer command text input o p (no_conf a h is) (works v j i k has e work) = absurd (conf.refused a text v h (named_not_memory a is.0 is.1) k)
one_answer command text input o p (no_key v h lacks is) (no_conf b k same) = absurd (conf.refused b text v k (named_not_memory b same.0 same.1) h)
one_answer command text input o p (no_key v h lacks is) (no_key w k lack same) = is ∙ sym same
one_answer command text input o p (no_key v h lacks is) (works w j i k has e work) = absurd (lacks_none command text v w j h k lacks has)
one_answer command text input o p (works v j i h has e work) (no_conf b k same) = absurd (conf.refused b text v k (named_not_memory b same.0 same.1) h)
one_answer command text input o p (works v j i h has e work) (no_key w k lacks same) = absurd (lacks_none command text w v j k h lacks has)
one_answer command text input o p (works v j i h has e work) (works w q a k own f done_too) =
    let job : j ≡ q = one_some (job_of command w) j q (ap (job_of command) (sym (conf.only text v w h k)) ∙ has) own in
    one_worked j q i a o p job (sym e ∙ f) work done_too
