-- How a connection goes on.
use Rattle.std.proofs.Common.{◌≡◌, refl, sym, ap, ◌∙◌, subst, ℕ, ◌+◌, ◌≤◌, List, [], ◌++◌, take, append_assoc, append-nil, Option, Some, None, Bool, ◌==◌, inl, inr, arith}
use Rattle.std.specs.Io.KnownBytes.{append_known, prepend_known}
use Rattle.usp_base.specs.Outside.{Rose}
use Rattle.httparse.proofs.GrammarLemmas.{ReadsRequest-append}
use Rattle.usp_conf.specs.Values.{ConfValue}
use Rattle.usp_http.specs.Finding.{AnswersHead, Around, Finds, IsHead, IsReading, Stop, broken, enough, over}
use Rattle.usp_http.specs.Finding as finding
use Rattle.usp_http.specs.declared.head.Head.{Head}
use Rattle.usp_http.specs.declared.next.Next.{Next}
use Rattle.usp_http.specs.declared.next.Next.TheVariants as next
use Rattle.usp_edge.specs.Calls.{Placed}
use Rattle.usp_edge.specs.Halts.{Starves, with_part}
use Rattle.usp_edge.specs.Halts as halts
use Rattle.usp_edge.specs.Replies.{closing_text}
use Rattle.usp_edge.specs.Serving.{Broken, Closes, Did, DidProgress, Line, Met, RepliesTo, Served, Starved, StarvesAt, Whole}
use Rattle.usp_edge.specs.Session.{Progress, Goes, at_head, at_rest, begins, end_behind, end_of, further, is_full, is_last, start, worked}
use Rattle.usp_edge.specs.Work.{Work, Works, work_text}
use Rattle.usp_edge.specs.declared.end.End.{End}
use Rattle.usp_edge.specs.declared.limits.TheConstants.{MAX_HEADS}
use Rattle.usp_edge.proofs.Doing.{appended_both, appended_none, did_both, did_none}

-- ---- steps of the connection

read_both : (a b : List ℕ) (left left2 left3 : Option (List ℕ)) → left ≡ prepend_known a left2 → left2 ≡ prepend_known b left3 → left ≡ prepend_known (a ++ b) left3
read_both a b left left2 None first second = first ∙ ap (prepend_known a) second
read_both a b left left2 (Some rest) first second = first ∙ (ap (prepend_known a) second ∙ ap Some (sym (append_assoc a b rest)))

rose_from : (a b c : ℕ) → a ≤ b → Rose b c → Rose a c
rose_from a b c before rose = omega (arith, before, rose)

stops_from : (stop : Stop) (ended : Bool) (left : Option (List ℕ)) (a b c : ℕ) → a ≤ b → finding.Stops stop ended left b c → finding.Stops stop ended left a c
stops_from enough ended left a b c before is = tt
stops_from over ended left a b c before is = is
stops_from broken ended left a b c before is = rose_from a b c before is

-- ---- more bytes

abbrev pub with_rest : Progress → List ℕ → Progress
with_rest progress rest = record progress { rest = rest }

head_more : (head : Head) (rest after bytes : List ℕ) → IsHead head rest after → IsHead head (rest ++ bytes) (after ++ bytes)
head_more head rest after bytes is = record {
  whole = is.whole;
  reads = ReadsRequest-append rest is.whole after bytes is.reads;
  short = is.short;
  few = is.few;
  parts = is.parts;
}

pub goes_more : (conf : ConfValue) (bytes later : List ℕ) (progress : Progress) → Goes conf bytes progress → Goes conf (bytes ++ later) (with_rest progress (progress.rest ++ later))
goes_more conf bytes later progress (start progress1 is) = start _ (ap (λ f. with_rest f (f.rest ++ later)) is)
goes_more conf bytes later progress (further before progress1 head after work goes head_is works behind is) =
    further (with_rest before (before.rest ++ later)) _ head (after ++ later) work (goes_more conf bytes later before goes)
    (head_more head before.rest after later head_is) works behind (ap (λ f. with_rest f (f.rest ++ later)) is)

-- ---- the state between two heads

abbrev pub line_of : (left left_after : Option (List ℕ)) → Bool → (faults faults_after : ℕ) → (told told_after : Option (List ℕ)) → (put_faults put_faults_after : ℕ) → Line
line_of left left_after ended faults faults_after told told_after put_faults put_faults_after = record {
  around = record { left = left; left_after = left_after; ended = ended; faults = faults; faults_after = faults_after };
  told = told;
  told_after = told_after;
  put_faults = put_faults;
  put_faults_after = put_faults_after;
}

-- So many heads were worked, and what was read of the bytes behind them is held.
pub record Going {N : Type 0} (gains : N → N → List Placed → Type 0) (conf : ConfValue) (old now : Met N) (left left_now told told_now : Option (List ℕ)) (heads : ℕ) (held : List ℕ) : Type 0 where
  pub bytes : List ℕ
  pub progress : Progress
  pub goes : Goes conf bytes progress
  pub heads_is : progress.heads ≡ heads
  pub held_is : progress.rest ≡ held
  pub lost : left ≡ prepend_known bytes left_now
  pub written : told_now ≡ append_known told progress.text
  pub did : DidProgress gains old now progress

-- The same where the reader was asked, with its answer.
pub record Asked {N : Type 0} (gains : N → N → List Placed → Type 0) (conf : ConfValue) (old now : Met N) (line : Line) (heads : ℕ) (result : Next) (after : List ℕ) : Type 0 where
  pub bytes : List ℕ
  pub stop : Stop
  pub progress : Progress
  pub goes : Goes conf bytes progress
  pub heads_is : progress.heads ≡ heads
  pub reading : IsReading line.around bytes stop
  pub finds : Finds result progress.rest stop after
  pub written : line.told_after ≡ append_known line.told progress.text
  pub did : DidProgress gains old now progress

module _ {N : Type 0} (gains : N → N → List Placed → Type 0) (conf : ConfValue) where
  pub going_first : (old : Met N) (left told : Option (List ℕ)) (held : List ℕ) → gains old.supplies.nonces old.supplies.nonces [] → held ≡ [] → Going gains conf old old left left told told 0 held
  going_first old left told held free is = record {
    bytes = [];
    progress = begins [];
    goes = start (begins []) refl;
    heads_is = refl;
    held_is = sym is;
    lost = nothing left;
    written = appended_none told;
    did = did_none gains old free;
  }
    where
      nothing : (o : Option (List ℕ)) → o ≡ prepend_known [] o
      nothing None = refl
      nothing (Some xs) = refl

  pub asked_next : (old now : Met N) (left left1 told told1 told2 : Option (List ℕ)) (heads : ℕ) (held held2 : List ℕ) (around : Around) (result : Next) (f0 p0 p2 : ℕ)
      → Going gains conf old now left left1 told told1 heads held → around.left ≡ left1 → f0 ≤ around.faults → told2 ≡ told1 → AnswersHead around held held2 result
      → Asked gains conf old now (line_of left around.left_after around.ended f0 around.faults_after told told2 p0 p2) heads result held2
  asked_next old now left left1 told told1 told2 heads held held2 around result f0 p0 p2 going same before kept answers = record {
    bytes = going.bytes ++ answers.bytes;
    stop = answers.stop;
    progress = with_rest going.progress (going.progress.rest ++ answers.bytes);
    goes = goes_more conf going.bytes answers.bytes going.progress going.goes;
    heads_is = going.heads_is;
    reading = record {
      lost = read_both going.bytes answers.bytes left left1 around.left_after going.lost (sym same ∙ answers.reading.lost);
      stops = stops_from answers.stop around.ended around.left_after f0 around.faults around.faults_after before answers.reading.stops;
    };
    finds = subst (λ t. Finds result (t ++ answers.bytes) answers.stop held2) (sym going.held_is) answers.finds;
    written = kept ∙ going.written;
    did = going.did;
  }

  -- the same line, by equal parts of the source
  pub asked_on : (old now : Met N) (left left1 left2 told told1 : Option (List ℕ)) (ended1 ended2 : Bool) (f0 f1 f2 p0 p1 heads : ℕ) (result : Next) (after : List ℕ)
      → left2 ≡ left1 → ended2 ≡ ended1 → f2 ≡ f1 → Asked gains conf old now (line_of left left1 ended1 f0 f1 told told1 p0 p1) heads result after
      → Asked gains conf old now (line_of left left2 ended2 f0 f2 told told1 p0 p1) heads result after
  asked_on old now left left1 left2 told told1 ended1 ended2 f0 f1 f2 p0 p1 heads result after l e f asked = rw (l, e, f) asked

  -- no memory before a head was asked for
  pub starves_going : (old now : Met N) (left left_now told told_now : Option (List ℕ)) (ended : Bool) (f f2 p p2 heads : ℕ) (held : List ℕ)
      → Going gains conf old now left left_now told told_now heads held → Starved gains conf (line_of left left_now ended f f2 told told_now p p2) old now
  starves_going old now left left_now told told_now ended f f2 p p2 heads held going = record {
    bytes = going.bytes;
    stop = enough;
    progress = going.progress;
    reading = record { lost = going.lost; stops = tt };
    wants = halts.between going.goes;
    written = going.written;
    did = going.did;
  }

  -- nothing is written where the source ended or failed
  pub ends_unsaid : (old now : Met N) (line : Line) (heads : ℕ) (result : Next) (after : List ℕ) (ends : End) → Asked gains conf old now line heads result after
      → end_of result ≡ Some ([], ends) → Whole gains conf line old now ends
  ends_unsaid old now line heads result after ends asked is = record {
    bytes = asked.bytes;
    stop = asked.stop;
    progress = record asked.progress { rest = after; text = asked.progress.text ++ [] };
    reading = asked.reading;
    session = at_rest asked.progress result after [] asked.goes asked.finds is refl;
    written = asked.written ∙ ap (append_known line.told) (sym (append-nil asked.progress.text));
    did = asked.did;
  }

  -- no memory between two heads
  pub starves_between : (old now : Met N) (line : Line) (heads : ℕ) (result : Next) (after : List ℕ) → Asked gains conf old now line heads result after
      → Starved gains conf line old now
  starves_between old now line heads result after asked = record {
    bytes = asked.bytes;
    stop = asked.stop;
    progress = asked.progress;
    reading = asked.reading;
    wants = halts.between asked.goes;
    written = asked.written;
    did = asked.did;
  }

  -- the same line, after a put
  abbrev put_on : Line → Option (List ℕ) → ℕ → Line
  put_on line told p = record line { told_after = told; put_faults_after = p }

  -- how a connection that is closed by a reply ends
  pub closes : (old now : Met N) (line : Line) (heads : ℕ) (next : Next) (after : List ℕ) (ends result : End) (told : Option (List ℕ)) (p : ℕ)
      → Asked gains conf old now line heads next after → end_of next ≡ Some (closing_text, ends)
      → line.put_faults ≤ line.put_faults_after → Closes line.told_after told line.put_faults_after p ends result
      → (Whole gains conf (put_on line told p) old now ends → Served gains conf (put_on line told p) old now ends)
      → Served gains conf (put_on line told p) old now result
  closes old now line heads next after ends result told p asked is before (inl (same, wrote)) whole =
      rw same (whole (record {
        bytes = asked.bytes;
        stop = asked.stop;
        progress = record asked.progress { rest = after; text = asked.progress.text ++ closing_text };
        reading = asked.reading;
        session = at_rest asked.progress next after closing_text asked.goes asked.finds is refl;
        written = appended_both line.told line.told_after told asked.progress.text closing_text asked.written wrote;
        did = asked.did;
      }))
  closes old now line heads next after ends result told p asked is before (inr (inl (same, rose, n, wrote))) whole =
      rw same (record {
        bytes = asked.bytes;
        stop = asked.stop;
        progress = record asked.progress { rest = after };
        text = closing_text;
        count = n;
        reading = asked.reading;
        writes = halts.closing asked.progress next after ends asked.goes asked.finds is refl refl;
        written = appended_both line.told line.told_after told asked.progress.text (take n closing_text) asked.written wrote;
        did = asked.did;
        rose = rose_from line.put_faults line.put_faults_after p before rose;
      })
  closes old now line heads next after ends result told p asked is before (inr (inr (same, kept))) whole =
      rw same (record {
        bytes = asked.bytes;
        stop = asked.stop;
        progress = asked.progress;
        reading = asked.reading;
        wants = halts.between asked.goes;
        written = kept ∙ asked.written;
        did = asked.did;
      })

  module _ (both : (a b c : N) (x y : List Placed) → gains a b x → gains b c y → gains a c (x ++ y)) where
    did_head : (old now new : Met N) (progress : Progress) (after : List ℕ) (work : Work) → DidProgress gains old now progress
        → Did gains now new work.moments work.calls work.finds work.notes → DidProgress gains old new (worked progress after work)
    did_head old now new progress after work before did =
        did_both gains both old now new progress.moments work.moments progress.calls work.calls progress.finds work.finds progress.notes work.notes before did

    -- no memory at a head
    pub starves_at : (old now new : Met N) (line : Line) (heads : ℕ) (head : Head) (after : List ℕ) → Asked gains conf old now line heads (next.Found head) after
        → StarvesAt gains conf head now new → Starved gains conf line old new
    starves_at old now new line heads head after asked stops = record {
      bytes = asked.bytes;
      stop = asked.stop;
      progress = with_part asked.progress stops.part;
      reading = asked.reading;
      wants = halts.at_head asked.progress head after stops.part asked.goes asked.finds stops.starves refl;
      written = asked.written;
      did = did_both gains both old now new asked.progress.moments stops.part.moments asked.progress.calls stops.part.calls asked.progress.finds stops.part.finds
          asked.progress.notes stops.part.notes asked.did stops.did;
    }

    -- the put of a reply failed
    pub breaks_at : (old now new : Met N) (line : Line) (heads : ℕ) (head : Head) (after text : List ℕ) (last full : Bool) (told : Option (List ℕ)) (p n : ℕ)
        → Asked gains conf old now line heads (next.Found head) after → full ≡ (heads + 1 == MAX_HEADS) → last ≡ is_last head full → RepliesTo gains conf last head now new text
        → line.put_faults ≤ line.put_faults_after → Rose line.put_faults_after p → told ≡ append_known line.told_after (take n text)
        → Broken gains conf (put_on line told p) old new
    breaks_at old now new line heads head after text last full told p n asked is last_is replies before rose wrote = record {
      bytes = asked.bytes;
      stop = asked.stop;
      progress = record (worked asked.progress after replies.work) { text = asked.progress.text };
      text = work_text replies.work;
      count = n;
      reading = asked.reading;
      writes = halts.reply asked.progress head after replies.work asked.goes asked.finds works refl refl;
      written = appended_both line.told line.told_after told asked.progress.text (take n (work_text replies.work)) asked.written
          (wrote ∙ ap (λ t. append_known line.told_after (take n t)) replies.text_is);
      did = did_head old now new asked.progress after replies.work asked.did replies.did;
      rose = rose_from line.put_faults line.put_faults_after p before rose;
    }
      where
        works : Works conf (is_last head (is_full asked.progress)) head replies.work
        works = subst (λ b. Works conf b head replies.work) (last_is ∙ ap (is_last head) (is ∙ ap (λ k. k + 1 == MAX_HEADS) (sym asked.heads_is))) replies.works

    -- the reply was put, and the connection ends behind it
    pub ends_at : (old now new : Met N) (line : Line) (heads : ℕ) (head : Head) (after text : List ℕ) (last full : Bool) (told : Option (List ℕ)) (p : ℕ) (ends : End)
        → Asked gains conf old now line heads (next.Found head) after → full ≡ (heads + 1 == MAX_HEADS) → last ≡ is_last head full → RepliesTo gains conf last head now new text
        → told ≡ append_known line.told_after text → end_behind head full ≡ Some ends → Whole gains conf (put_on line told p) old new ends
    ends_at old now new line heads head after text last full told p ends asked is last_is replies wrote behind = record {
      bytes = asked.bytes;
      stop = asked.stop;
      progress = worked asked.progress after replies.work;
      reading = asked.reading;
      session = at_head asked.progress head after replies.work asked.goes asked.finds works (ap (end_behind head) (sym same) ∙ behind) refl;
      written = appended_both line.told line.told_after told asked.progress.text (work_text replies.work) asked.written
          (wrote ∙ ap (append_known line.told_after) replies.text_is);
      did = did_head old now new asked.progress after replies.work asked.did replies.did;
    }
      where
        same : full ≡ is_full asked.progress
        same = is ∙ ap (λ k. k + 1 == MAX_HEADS) (sym asked.heads_is)

        works : Works conf (is_last head (is_full asked.progress)) head replies.work
        works = subst (λ b. Works conf b head replies.work) (last_is ∙ ap (is_last head) same) replies.works

    -- the reply was put, and the next head may come
    pub goes_at : (old now new : Met N) (line : Line) (heads : ℕ) (head : Head) (after text : List ℕ) (last full : Bool) (told left2 : Option (List ℕ))
        → Asked gains conf old now line heads (next.Found head) after → full ≡ (heads + 1 == MAX_HEADS) → last ≡ is_last head full → RepliesTo gains conf last head now new text
        → told ≡ append_known line.told_after text → left2 ≡ line.around.left_after → end_behind head full ≡ None
        → Going gains conf old new line.around.left left2 line.told told (heads + 1) after
    goes_at old now new line heads head after text last full told left2 asked is last_is replies wrote kept behind = record {
      bytes = asked.bytes;
      progress = worked asked.progress after replies.work;
      goes = further asked.progress _ head after replies.work asked.goes asked.finds works (ap (end_behind head) (sym same) ∙ behind) refl;
      heads_is = ap (λ k. k + 1) asked.heads_is;
      held_is = refl;
      lost = asked.reading.lost ∙ ap (prepend_known asked.bytes) (sym kept);
      written = appended_both line.told line.told_after told asked.progress.text (work_text replies.work) asked.written
          (wrote ∙ ap (append_known line.told_after) replies.text_is);
      did = did_head old now new asked.progress after replies.work asked.did replies.did;
    }
      where
        same : full ≡ is_full asked.progress
        same = is ∙ ap (λ k. k + 1 == MAX_HEADS) (sym asked.heads_is)

        works : Works conf (is_last head (is_full asked.progress)) head replies.work
        works = subst (λ b. Works conf b head replies.work) (last_is ∙ ap (is_last head) same) replies.works
