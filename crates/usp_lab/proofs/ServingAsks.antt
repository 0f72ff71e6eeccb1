-- An ask's connection, served.
use Rattle.std.proofs.Common.{◌≡◌, ◌≢◌, refl, sym, ap, ◌∙◌, subst, ℕ, ◌+◌, ◌<◌, ◌≤◌, min, Bool, true, false, All, List, [], ◌∷◌, ◌++◌, length, append-nil, length-append, Option, Some, None, slice_get, arith}
use Rattle.std.specs.Prelude.{IfSome}
use Rattle.std.specs.Io.KnownBytes.{IsAtEnd, append_known, prepend_known}
use Rattle.std.proofs.lemmas.List.Elements.{All-head, All-tail}
use Rattle.usp_base.specs.Outside.{Rose, last_count}
use Rattle.usp_base.specs.declared.limits.TheConstants.{MOMENT_BOUND}
use Rattle.usp_conf.specs.Values.{ConfValue}
use Rattle.usp_http.specs.Finding.{IsHead, Stop, Stops, broken, over}
use Rattle.usp_http.specs.declared.head.Head.{Head}
use Rattle.usp_http.specs.declared.head.Method.TheVariants as method
use Rattle.usp_json.specs.declared.value.Members.{Members}
use Rattle.usp_rules.specs.Asks.{AskValue}
use Rattle.usp_edge.proofs.Honesty.{session_honest}
use Rattle.usp_edge.proofs.MostCalls.{broken_few, session_few, starved_few}
use Rattle.usp_edge.proofs.Showing.{session_told}
use Rattle.usp_edge.specs.Asks.{ask_of}
use Rattle.usp_edge.specs.Calls.{Placed}
use Rattle.usp_edge.specs.Honest.{AreHonest, AreMoments, IsHonest}
use Rattle.usp_edge.specs.Outcomes.{Decides, Find, ObjectAnswer, Outcome, Serves, absent, by_all, by_judgement, by_nonce, failed, no_memory, object, on, there, unanswered}
use Rattle.usp_edge.specs.Serving.{AreFound, Broken, Did, Line, Met, Objects, Starved, Whole, failures}
use Rattle.usp_edge.specs.Serving as serving
use Rattle.usp_edge.specs.Session.{Progress, Session, begins, worked}
use Rattle.usp_edge.specs.Work.{Work, Works, body, note_of, other_method, request}
use Rattle.usp_edge.specs.declared.end.End.{End}
use Rattle.usp_edge.specs.declared.end.End.TheVariants as ending
use Rattle.usp_edge.specs.declared.limits.TheConstants.{MAX_HEADS}
use Rattle.usp_edge.specs.declared.note.Note.{Note}
use Rattle.usp_issue.specs.declared.limits.TheConstants.{MAX_TOKEN}
use Rattle.usp_script.specs.Script.{ScriptValue, object_at}
use Rattle.usp_script.specs.declared.ask.LabAsk.{LabAsk}
use Rattle.usp_script.specs.declared.ask.LabObject.{LabObject}
use Rattle.usp_lab.proofs.Honest.{issued_short}
use Rattle.usp_lab.proofs.OneRequest.{IsLone, once}
use Rattle.usp_lab.specs.Asking.{HasServed, HoldsHead}
use Rattle.usp_lab.specs.Benches.{IsTold}
use Rattle.usp_lab.specs.LabHead.{lab_head, lab_parts}
use Rattle.usp_lab.specs.Named.{HasNamedKeys}
use Rattle.usp_lab.specs.Rounds.{AreFinds}
use Rattle.usp_lab.specs.Still.{IsStill}
use Rattle.usp_lab.specs.Tokens.{carried_token}

-- what a connection meets that is served with objects of which no read fails
abbrev pub met_of : {N : Type 0} (given : List ℕ) (nonces : N) (of : List ℕ → Option (List ℕ)) (journal : List Note) → Met N
met_of given nonces of journal = record {
  given = Some given;
  supplies = record { nonces = nonces; objects = Some of; faults = 0 };
  journal = journal;
}

-- ---- what was found

-- the objects answered, or a read failed
abbrev pub IsAnswer : ObjectAnswer → Type 0
IsAnswer (object found) = Unit {0}
IsAnswer failed = Unit {0}
IsAnswer no_memory = ⊥

abbrev pub AreAnswers : List Find → Type 0
AreAnswers [] = Unit {0}
AreAnswers (find ∷ finds) = IsAnswer find.found × AreAnswers finds

serves_answers : (conf : ConfValue) (outcome : Outcome) (calls : List Placed) → {members : Members} {content : List ℕ} {moment : ℕ}
    → Serves conf members content moment calls outcome → AreAnswers outcome.finds
serves_answers conf outcome calls (on place signed onward is) = subst (λ o. AreAnswers o.finds) (sym is) tt
serves_answers conf outcome calls (there bytes issued onward renews is) = subst (λ o. AreAnswers o.finds) (sym is) (tt, tt)
serves_answers conf outcome calls (absent onward is) = subst (λ o. AreAnswers o.finds) (sym is) (tt, tt)
serves_answers conf outcome calls (unanswered onward is) = subst (λ o. AreAnswers o.finds) (sym is) (tt, tt)

decides_answers : (conf : ConfValue) (ask : AskValue) (outcome : Outcome) → Decides conf ask outcome → AreAnswers outcome.finds
decides_answers conf ask outcome (by_judgement rule judges is) = subst (λ o. AreAnswers o.finds) (sym is) tt
decides_answers conf ask outcome (by_nonce content token members key calls rule judges made denies is) = subst (λ o. AreAnswers o.finds) (sym is) tt
decides_answers conf ask outcome (by_all content token members key calls judges made admits serves) = serves_answers conf outcome calls serves

found_as : (of : List ℕ → Option (List ℕ)) (finds : List Find) → AreFound (Some of) finds → AreAnswers finds → failures finds ≡ 0
    → (objects : List LabObject) (edge : ℕ) → ((uri : List ℕ) → of uri ≡ object_at objects edge uri) → AreFinds objects edge finds
found_as of [] found answers none objects edge is = tt
found_as of (find ∷ finds) found answers none objects edge is =
    (one find.found found.0 answers.0 (omega (arith, none)), found_as of finds found.1 answers.1 (omega (arith, none)) objects edge is)
  where
    one : (answer : ObjectAnswer) → serving.IsFound (Some of) find.uri answer → IsAnswer answer → serving.failure answer ≡ 0
        → answer ≡ object (object_at objects edge find.uri)
    one (object found) same is_answer no_fault = ap object (same ∙ is find.uri)
    one failed same is_answer no_fault = absurd (omega (arith, no_fault))
    one no_memory same is_answer no_fault = absurd is_answer

-- ---- the work on one request

-- one note, at one moment
pub record IsOne (work : Work) : Type 0 where
  pub note : Note
  pub moment : ℕ
  pub notes : work.notes ≡ note ∷ []
  pub moments : work.moments ≡ moment ∷ []
  pub answers : AreAnswers work.finds

one_request : (conf : ConfValue) (head : Head) (work : Work) → head.method ≡ method.Get → head.body ≡ false → Works conf false head work
    → IsOne work
one_request conf head work get bare (body announced is) = absurd (two (sym bare ∙ announced))
  where
    two : false ≡ true → ⊥
    two e = absurd (cc)
one_request conf head work get bare (other_method unannounced other is) = absurd (two (sym get ∙ other))
  where
    two : method.Get ≡ method.Other → ⊥
    two e = absurd (cc)
one_request conf head work get bare (request unannounced known moment outcome decides is) = record {
  note = note_of conf (ask_of conf head moment) outcome;
  moment = moment;
  notes = ap (λ w. w.notes) is;
  moments = ap (λ w. w.moments) is;
  answers = subst (λ w. AreAnswers w.finds) (sym is) (decides_answers conf _ outcome decides);
}

-- ---- moments

first_is : (m : ℕ) (given : List ℕ) (now : ℕ) → IsStill now given → (rest : List ℕ) → given ≡ m ∷ rest → m ≡ now
first_is m given now still rest is = All-head (λ each. each ≡ now) m rest (subst (All (λ each. each ≡ now)) is still.same)

second_is : (m n : ℕ) (given : List ℕ) (now : ℕ) → IsStill now given → given ≡ m ∷ n ∷ [] → n ≡ now
second_is m n given now still is =
    All-head (λ each. each ≡ now) n []
    (All-tail (λ each. each ≡ now) m (n ∷ []) (subst (All (λ each. each ≡ now)) is still.same))

-- a moment that a clock gave which tells one moment, and gives the moments that it tells
pub same_moment : (m n : ℕ) (given : List ℕ) (now : ℕ) → IsStill now given → Some given ≡ append_known (Some (m ∷ [])) (n ∷ []) → n ≡ m
same_moment m n given now still is =
    let given_is : given ≡ m ∷ n ∷ [] = some_one given (m ∷ n ∷ []) is in
    second_is m n given now still given_is ∙ sym (first_is m given now still (n ∷ []) given_is)
  where
    some_one : (a b : List ℕ) → Some a ≡ Some b → a ≡ b
    some_one a b e = cc

-- ---- the connection

rose_none : (before now : ℕ) → now ≡ 0 → Rose before now → ⊥
rose_none before now none rose = absurd (omega (arith, none, rose))

at_end : (stop : Stop) (ended : Bool) (left : Option (List ℕ)) (rest : List ℕ) (before now : ℕ) → Stops stop ended left before now → left ≡ Some rest
    → stop ≡ over → rest ≡ []
at_end stop ended left rest before now stops known is =
    subst IsAtEnd known (subst (λ s. Stops s ended left before now) is stops).1

unbroken : (stop : Stop) (ended : Bool) (left : Option (List ℕ)) (before now : ℕ) → Stops stop ended left before now → now ≡ 0 → stop ≡ broken → ⊥
unbroken stop ended left before now stops none is =
    rose_none before now none (subst (λ s. Stops s ended left before now) is stops)

-- A line without a fault was served whole where there was memory.
whole_of : {N : Type 0} (gains : N → N → List Placed → Type 0) (conf : ConfValue) (line : Line) (old new : Met N) (ends : End)
    → serving.Served gains conf line old new ends → ends ≢ ending.NoMemory → line.put_faults_after ≡ 0 → Whole gains conf line old new ends
whole_of gains conf line old new ending.WriteFault served memory calm = absurd (rose_none line.put_faults line.put_faults_after calm served.rose)
whole_of gains conf line old new ending.NoMemory served memory calm = absurd (memory refl)
whole_of gains conf line old new ending.Closed served memory calm = served
whole_of gains conf line old new ending.CutShort served memory calm = served
whole_of gains conf line old new ending.BadHead served memory calm = served
whole_of gains conf line old new ending.HeadTooLong served memory calm = served
whole_of gains conf line old new ending.ManyHeaders served memory calm = served
whole_of gains conf line old new ending.ReadFault served memory calm = served
whole_of gains conf line old new ending.Body served memory calm = served
whole_of gains conf line old new ending.Enough served memory calm = served

-- A connection whose bytes are one head was one session over them.
pub record HasDone {N : Type 0} (gains : N → N → List Placed → Type 0) (conf : ConfValue) (head : Head) (text : List ℕ)
    (line : Line) (old new : Met N) : Type 0 where
  pub progress : Progress
  pub session : Session conf text over progress ending.Closed
  pub work : Work
  pub works : Works conf false head work
  pub is : progress ≡ worked (begins text) [] work
  pub left : line.around.left_after ≡ Some []
  pub told : line.told_after ≡ Some progress.text
  pub did : serving.DidProgress gains old new progress

pub has_done : {N : Type 0} (gains : N → N → List Placed → Type 0) (conf : ConfValue) (head : Head) (text : List ℕ) (line : Line)
    (old new : Met N) (ends : End) → serving.Served gains conf line old new ends → ends ≢ ending.NoMemory → IsLone head text
    → line.around.left ≡ Some text → line.told ≡ Some [] → IsTold line.around.left_after → line.around.faults_after ≡ 0
    → line.put_faults_after ≡ 0 → HasDone gains conf head text line old new
has_done gains conf head text line old new ends served memory lone left fresh known calm calm_puts =
    let whole = whole_of gains conf line old new ends served memory calm_puts in
    let rest = known.0 in
    let cut : text ≡ whole.bytes ++ rest = some_one text (whole.bytes ++ rest) (sym left ∙ whole.reading.lost ∙ ap (prepend_known whole.bytes) known.1) in
    let session = once conf head whole.bytes rest whole.stop whole.progress ends (subst (IsLone head) cut lone)
    (at_end whole.stop line.around.ended line.around.left_after rest line.around.faults line.around.faults_after whole.reading.stops known.1)
    (unbroken whole.stop line.around.ended line.around.left_after line.around.faults line.around.faults_after whole.reading.stops calm) whole.session in
    let all : whole.bytes ≡ text = sym (append-nil whole.bytes) ∙ ap (λ (t : List ℕ). whole.bytes ++ t) (sym session.all) ∙ sym cut in
    record {
      progress = whole.progress;
      session = subst (λ (t : List ℕ). Session conf t over whole.progress ending.Closed) all
          (subst (λ s. Session conf whole.bytes s whole.progress ending.Closed) session.stop_is
          (subst (λ e. Session conf whole.bytes whole.stop whole.progress e) session.ends_is whole.session));
      work = session.work;
      works = session.works;
      is = session.is ∙ ap (λ (t : List ℕ). worked (begins t) [] session.work) all;
      left = known.1 ∙ ap Some session.all;
      told = whole.written ∙ ap (λ known. append_known known whole.progress.text) fresh;
      did = whole.did;
    }
  where
    some_one : (a b : List ℕ) → Some a ≡ Some b → a ≡ b
    some_one a b e = cc

-- the same of an ask's line
pub ask_done : {N : Type 0} (gains : N → N → List Placed → Type 0) (edges : List ConfValue) (ask : LabAsk) (token : Option (List ℕ))
    (conf : ConfValue) (line : Line) (old new : Met N) (ends : End) → serving.Served gains conf line old new ends → ends ≢ ending.NoMemory
    → slice_get edges ask.edge ≡ Some conf → HoldsHead edges ask token line.around.left line.told → IsTold line.around.left_after
    → line.around.faults_after ≡ 0 → line.put_faults_after ≡ 0
    → HasDone gains conf (lab_parts conf ask token) (lab_head conf ask token) line old new
ask_done gains edges ask token conf line old new ends served memory at holds known calm calm_puts =
    let same : holds.edge ≡ conf = some_edge holds.edge conf (sym holds.at ∙ at) in
    has_done gains conf (lab_parts conf ask token) (lab_head conf ask token) line old new ends served memory
    (record {
      is = subst (λ e. IsHead (lab_parts e ask token) (lab_head e ask token) []) same holds.whole;
      goes = refl;
      bare = refl;
    })
    (holds.left ∙ ap (λ e. Some (lab_head e ask token)) same) holds.fresh known calm calm_puts
  where
    some_edge : (a b : ConfValue) → Some a ≡ Some b → a ≡ b
    some_edge a b e = cc

-- ---- what was noted

-- It is one note.
pub ask_noted : {N : Type 0} (gains : N → N → List Placed → Type 0) (conf : ConfValue) (ask : LabAsk) (token : Option (List ℕ)) (line : Line)
    (old new : Met N) → HasDone gains conf (lab_parts conf ask token) (lab_head conf ask token) line old new → old.journal ≡ []
    → (note : Note) × (new.journal ≡ note ∷ [])
ask_noted gains conf ask token line old new done empty =
    let one = one_request conf (lab_parts conf ask token) done.work refl refl done.works in (
      one.note,
      done.did.noted ∙ ap (λ (t : List Note). t ++ done.progress.notes) empty ∙ ap (λ f. f.notes) done.is ∙ one.notes,
    )

-- the note that was taken out of the journal
pub taken_last : (note taken : Note) (rest : List Note) → note ∷ [] ≡ rest ++ taken ∷ [] → taken ≡ note
taken_last note taken [] e = cc
taken_last note taken (first ∷ rest) e =
    absurd (omega (arith, ap length e, length-append rest (taken ∷ [])))

-- The one note of the connection is this one, and its moment is the ask's.
pub record HasNoted {N : Type 0} (gains : N → N → List Placed → Type 0) (conf : ConfValue) (ask : LabAsk) (token : Option (List ℕ))
    (line : Line) (old new : Met N) (note : Note) : Type 0 where
  pub done : HasDone gains conf (lab_parts conf ask token) (lab_head conf ask token) line old new
  pub answers : AreAnswers done.progress.finds
  pub notes : done.progress.notes ≡ note ∷ []
  pub moments : done.progress.moments ≡ ask.moment ∷ []

pub has_noted : {N : Type 0} (gains : N → N → List Placed → Type 0) (conf : ConfValue) (ask : LabAsk) (token : Option (List ℕ)) (line : Line)
    (old new : Met N) (note : Note) (now : ℕ) (given : List ℕ) → HasDone gains conf (lab_parts conf ask token) (lab_head conf ask token) line old new
    → old.given ≡ Some (ask.moment ∷ []) → new.given ≡ Some given → IsStill now given → old.journal ≡ [] → new.journal ≡ note ∷ []
    → HasNoted gains conf ask token line old new note
has_noted gains conf ask token line old new note now given done begun told still empty noted =
    let one = one_request conf (lab_parts conf ask token) done.work refl refl done.works in
    let moments : done.progress.moments ≡ one.moment ∷ [] = ap (λ f. f.moments) done.is ∙ one.moments in
    let given_is : Some given ≡ append_known (Some (ask.moment ∷ [])) (one.moment ∷ []) =
    sym told ∙ done.did.given ∙ ap (λ k. append_known k done.progress.moments) begun ∙ ap (append_known (Some (ask.moment ∷ []))) moments in
    record {
      done = done;
      answers = subst AreAnswers (sym (ap (λ f. f.finds) done.is)) one.answers;
      notes = sym (ap (λ (t : List Note). t ++ done.progress.notes) empty) ∙ sym done.did.noted ∙ noted;
      moments = moments ∙ ap (λ m. m ∷ []) (same_moment ask.moment one.moment given now still given_is);
    }

-- The ask was served as the script says.
pub ask_served : {N : Type 0} (gains : N → N → List Placed → Type 0) (script : ScriptValue) (issued : List (Option (List ℕ))) (known : ℕ)
    (ask : LabAsk) (conf : ConfValue) (line : Line) (old new : Met N) (note : Note) (of : List ℕ → Option (List ℕ))
    → HasNoted gains conf ask (carried_token script issued ask.carried) line old new note → slice_get script.edges ask.edge ≡ Some conf
    → old.supplies.objects ≡ Some of → ((uri : List ℕ) → of uri ≡ object_at script.objects ask.edge uri) → new.supplies.faults ≡ 0
    → HasServed gains old.supplies.nonces new.supplies.nonces script issued known ask note line.around.left_after line.told_after
ask_served gains script issued known ask conf line old new note of is at objects are calm =
    let done = is.done in
    let reads = done.did.draws.reads in
    record {
      served = record {
        ask = ask;
        edge = conf;
        note = note;
        calls = done.progress.calls;
        text = done.progress.text;
        known = known;
      };
      is = record {
        is = refl;
        at = at;
        progress = done.progress;
        session = done.session;
        rest = ap (λ f. f.rest) done.is;
        moments = is.moments;
        finds = found_as of done.progress.finds (subst (λ o. AreFound o done.progress.finds) objects reads.found) is.answers
            (no_failure (failures done.progress.finds) old.supplies.faults new.supplies.faults calm reads.failed_most) script.objects ask.edge are;
        notes = is.notes;
        calls = refl;
        text = refl;
        since = refl;
      };
      noted = refl;
      gained = done.did.draws.gained;
      left = done.left;
      told = done.told;
    }
  where
    no_failure : (failures before after : ℕ) → after ≡ 0 → min (before + failures) last_count ≤ after → failures ≡ 0
    no_failure failures before after none most = omega (arith, none, most)

-- What it issued is short enough to be carried.
pub noted_short : {N : Type 0} (gains : N → N → List Placed → Type 0) (ask : LabAsk) (conf : ConfValue) (token : Option (List ℕ)) (line : Line)
    (old new : Met N) (note : Note) → HasNoted gains conf ask token line old new note → HasNamedKeys conf → ask.moment < MOMENT_BOUND
    → IfSome note.issued (λ issued. length issued ≤ MAX_TOKEN)
noted_short gains ask conf token line old new note is named early = by_issued note.issued refl
  where
    one_moment : (a b : ℕ) → a ∷ [] ≡ b ∷ [] → a ≡ b
    one_moment a b e = cc

    moment_is : note.moment ≡ ask.moment
    moment_is =
        let told = session_told conf (lab_head conf ask token) over is.done.progress ending.Closed is.done.session in
        one_moment note.moment ask.moment (sym (subst (AreMoments is.done.progress.moments) is.notes told.1) ∙ is.moments)

    honest : IsHonest conf note
    honest = (subst (AreHonest conf) is.notes (session_honest conf (lab_head conf ask token) over is.done.progress ending.Closed is.done.session)).0

    by_issued : (o : Option (List ℕ)) → note.issued ≡ o → IfSome o (λ issued. length issued ≤ MAX_TOKEN)
    by_issued None e = tt
    by_issued (Some issued) e = issued_short conf note issued named (subst (λ m. m < MOMENT_BOUND) (sym moment_is) early) honest e

-- ---- calls

-- However a connection ends, its calls were gained, and they are few.
pub record HasFew {N : Type 0} (gains : N → N → List Placed → Type 0) (old new : N) : Type 0 where
  pub calls : List Placed
  pub gained : gains old new calls
  pub few : length calls ≤ MAX_HEADS

few_whole : {N : Type 0} (gains : N → N → List Placed → Type 0) (conf : ConfValue) (line : Line) (old new : Met N) (ends : End)
    → Whole gains conf line old new ends → HasFew gains old.supplies.nonces new.supplies.nonces
few_whole gains conf line old new ends whole = record {
  calls = whole.progress.calls;
  gained = whole.did.draws.gained;
  few = session_few conf whole.bytes whole.stop whole.progress ends whole.session;
}

pub few_gained : {N : Type 0} (gains : N → N → List Placed → Type 0) (conf : ConfValue) (line : Line) (old new : Met N) (ends : End)
    → serving.Served gains conf line old new ends → HasFew gains old.supplies.nonces new.supplies.nonces
few_gained gains conf line old new ending.WriteFault served = record {
  calls = served.progress.calls;
  gained = served.did.draws.gained;
  few = broken_few conf served.bytes served.stop served.progress served.text served.writes;
}
few_gained gains conf line old new ending.NoMemory served = record {
  calls = served.progress.calls;
  gained = served.did.draws.gained;
  few = starved_few conf served.bytes served.progress served.wants;
}
few_gained gains conf line old new ending.Closed served = few_whole gains conf line old new ending.Closed served
few_gained gains conf line old new ending.CutShort served = few_whole gains conf line old new ending.CutShort served
few_gained gains conf line old new ending.BadHead served = few_whole gains conf line old new ending.BadHead served
few_gained gains conf line old new ending.HeadTooLong served = few_whole gains conf line old new ending.HeadTooLong served
few_gained gains conf line old new ending.ManyHeaders served = few_whole gains conf line old new ending.ManyHeaders served
few_gained gains conf line old new ending.ReadFault served = few_whole gains conf line old new ending.ReadFault served
few_gained gains conf line old new ending.Body served = few_whole gains conf line old new ending.Body served
few_gained gains conf line old new ending.Enough served = few_whole gains conf line old new ending.Enough served
