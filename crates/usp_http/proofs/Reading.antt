-- What was read, and what is held of it.
use Rattle.std.proofs.Common.{◌≡◌, refl, sym, ap, ◌∙◌, subst, ℕ, ◌+◌, ◌-◌, ◌*◌, ◌≤◌, Bool, List, [], ◌∷◌, ◌++◌, length, drop, arith, append_assoc, append-nil, length-append, Option, Some, None, ◌<◌, false, ◌==◌}
use Rattle.std.proofs.lemmas.List.{take_all}
use Rattle.std.specs.Io.KnownBytes.{prepend_known}
use Rattle.usp_base.specs.Runs.{Runs, none, more}
use Rattle.httparse.specs.Grammar.{NeverHasRequest, ReadsRequest, print_request}
use Rattle.httparse.proofs.GrammarLemmas.{ReadsRequest-append}
use Rattle.usp_http.specs.Fronts.{HasManyFields, IsUnfinished, IsWhole}
use Rattle.usp_http.specs.Finding.{AnswersHead, Around, Finds, Held, HoldsHead, Stop, Stops, broken, enough, front, over}
use Rattle.usp_http.specs.Pauses.{stop_of}
use Rattle.usp_http.specs.declared.head.Head.{Head}
use Rattle.usp_http.specs.declared.next.Next.{Next}
use Rattle.usp_http.specs.declared.next.Next.TheVariants as next
use Rattle.usp_http.specs.declared.pause.Pause.{Pause}
use Rattle.usp_http.specs.declared.pause.Pause.TheVariants as pause

pub no_run : {A : Type 0} (Step : A → A → Type 0) (a : A) → Runs Step a a
no_run Step a = none a a refl

pub run_more : {A : Type 0} (Step : A → A → Type 0) (a b c : A) → Runs Step a b → Step b c → Runs Step a c
run_more Step a b c = more a b c

pub runs_both : {A : Type 0} (Step : A → A → Type 0) (a b c : A) → Runs Step a b → Runs Step b c → Runs Step a c
runs_both Step a _ _ first (none b c is) = subst (λ d. Runs Step a d) is first
runs_both Step a _ _ first (more b d c before last) = more a d c (runs_both Step a b d first before) last

pub nothing_read : (left : Option (List ℕ)) → left ≡ prepend_known [] left
nothing_read None = refl
nothing_read (Some bytes) = refl

pub read_more : (a b : List ℕ) (left left' left'' : Option (List ℕ))
    → left ≡ prepend_known a left' → left' ≡ prepend_known b left'' → left ≡ prepend_known (a ++ b) left''
read_more a b left left' None before now = before ∙ ap (prepend_known a) now
read_more a b left left' (Some rest) before now = before ∙ (ap (prepend_known a) now ∙ ap Some (sym (append_assoc a b rest)))

pub held_first : (old : List ℕ) (left : Option (List ℕ)) → Held old old left left
held_first old left = record { bytes = []; held_is = sym (append-nil old); lost = nothing_read left }

pub held_more : (old held held' bytes : List ℕ) (left left' left'' : Option (List ℕ)) → Held old held left left'
    → held' ≡ held ++ bytes → left' ≡ prepend_known bytes left'' → Held old held' left left''
held_more old held held' bytes left left' left'' before is lost = record {
  bytes = before.bytes ++ bytes;
  held_is = is ∙ (ap (λ h. h ++ bytes) before.held_is ∙ append_assoc old before.bytes bytes);
  lost = read_more before.bytes bytes left left' left'' before.lost lost;
}

pub held_both : (old held held' : List ℕ) (left left' left'' : Option (List ℕ)) → Held old held left left'
    → Held held held' left' left'' → Held old held' left left''
held_both old held held' left left' left'' before now =
    held_more old held held' now.bytes left left' left'' before now.held_is now.lost

-- a read that failed leaves all as it was
pub held_same : (old held held' : List ℕ) (left left' left'' : Option (List ℕ)) → Held old held left left'
    → held' ≡ held → left'' ≡ left' → Held old held' left left''
held_same old held held' left left' left'' before is lost = record {
  bytes = before.bytes;
  held_is = is ∙ before.held_is;
  lost = before.lost ∙ ap (prepend_known before.bytes) (sym lost);
}

pub held_grows : (old held : List ℕ) (left left' : Option (List ℕ)) → Held old held left left' → length old ≤ length held
held_grows old held left left' read = omega (arith, ap length read.held_is, length-append old read.bytes)

-- a stop of later reads is one of all
pub stops_all : (p : Pause) (ended : Bool) (left : Option (List ℕ)) (first before now : ℕ) → first ≤ before
    → Stops (stop_of p) ended left before now → Stops (stop_of p) ended left first now
stops_all pause.Enough ended left first before now le stops = tt
stops_all pause.Over ended left first before now le stops = stops
stops_all pause.Broken ended left first before now le stops = omega (arith, le, stops)

-- how many looks may follow, where nothing more is read
abbrev pub looks_left : Pause → ℕ
looks_left pause.Enough = 1
looks_left pause.Over = 0
looks_left pause.Broken = 0

pub fewer_looks : (p : Pause) (held held' : List ℕ) → length held ≤ length held'
    → (p ≡ pause.Enough → length held < length held') → length held < 16384
    → 2 * (16384 - length held') + looks_left p < 2 * (16384 - length held) + 1
fewer_looks pause.Enough held held' le grown room = omega (arith, grown refl, room)
fewer_looks pause.Over held held' le grown room = omega (arith, le, room)
fewer_looks pause.Broken held held' le grown room = omega (arith, le, room)

short_front : (held : List ℕ) → length held ≤ 16384 → front held ≡ held
short_front held short = take_all 16384 held short

-- where there is no head in what is held, none was held before
pub none_held : (old held : List ℕ) (left left' : Option (List ℕ)) → Held old held left left' → IsUnfinished held → HoldsHead old → ⊥
none_held old held left left' read unfinished (h, rest, reads) =
    unfinished.0 h (rest ++ read.bytes) (subst (λ b. ReadsRequest b h (rest ++ read.bytes)) (sym read.held_is) (ReadsRequest-append old h rest read.bytes reads))

-- the answer at a stop, by what is found in what is held
pub answered : (old held after : List ℕ) (around : Around) (stop : Stop) (result : Next) → Held old held around.left around.left_after
    → Stops stop around.ended around.left_after around.faults around.faults_after → Finds result held stop after → AnswersHead around old after result
answered old held after around stop result read stops finds = record {
  bytes = read.bytes;
  stop = stop;
  reading = record { lost = read.lost; stops = stops };
  finds = subst (λ h. Finds result h stop after) read.held_is finds;
}

pub answered_head : (old held after : List ℕ) (around : Around) (head : Head) (len : ℕ) → Held old held around.left around.left_after
    → length held ≤ 16384 → IsWhole held head len → after ≡ drop len held → AnswersHead around old after (next.Found head)
answered_head old held after around head len read short is kept =
    answered old held after around enough (next.Found head) read tt (record {
      whole = is.whole;
      reads = subst (λ a. ReadsRequest held is.whole a) (sym kept) is.reads;
      short = omega (arith, short, ap length is.reads.1, length-append (print_request is.whole) (drop len held));
      few = is.few;
      parts = is.parts;
    })

pub answered_many : (old held after : List ℕ) (around : Around) (result : Next) → Held old held around.left around.left_after
    → length held ≤ 16384 → HasManyFields held → result ≡ next.ManyHeaders → after ≡ held → AnswersHead around old after result
answered_many old held after around result read short many is kept =
    rw is (answered old held after around enough next.ManyHeaders read tt (subst HasManyFields (sym (short_front held short)) many, kept))

pub answered_bad : (old held after : List ℕ) (around : Around) (result : Next) → Held old held around.left around.left_after
    → length held ≤ 16384 → NeverHasRequest held → result ≡ next.BadHead → after ≡ held → AnswersHead around old after result
answered_bad old held after around result read short never is kept =
    rw is (answered old held after around enough next.BadHead read tt (subst NeverHasRequest (sym (short_front held short)) never, kept))

pub answered_long : (old held after : List ℕ) (around : Around) (result : Next) → Held old held around.left around.left_after
    → length held ≤ 16384 → IsUnfinished held → 16384 ≤ length held → result ≡ next.HeadTooLong → after ≡ held → AnswersHead around old after result
answered_long old held after around result read short unfinished long is kept =
    rw is (answered old held after around enough next.HeadTooLong read tt (subst IsUnfinished (sym (short_front held short)) unfinished, long, kept))

pub answered_cut : (old held after : List ℕ) (around : Around) (result : Next) → Held old held around.left around.left_after
    → IsUnfinished held → length held < 16384 → 0 < length held → Stops over around.ended around.left_after around.faults around.faults_after
    → result ≡ next.CutShort → after ≡ held → AnswersHead around old after result
answered_cut old held after around result read unfinished short some stops is kept =
    rw is (answered old held after around over next.CutShort read stops ((unfinished, short), some, refl, kept))

pub answered_ended : (old held after : List ℕ) (around : Around) → Held old held around.left around.left_after
    → held ≡ [] → Stops over around.ended around.left_after around.faults around.faults_after → after ≡ held → AnswersHead around old after next.Ended
answered_ended old held after around read nothing stops kept =
    answered old held after around over next.Ended read stops (nothing, refl, kept)

pub answered_fault : (old held after : List ℕ) (around : Around) → Held old held around.left around.left_after
    → IsUnfinished held → length held < 16384 → Stops broken around.ended around.left_after around.faults around.faults_after → after ≡ held
    → AnswersHead around old after next.ReadFault
answered_fault old held after around read unfinished short stops kept =
    answered old held after around broken next.ReadFault read stops ((unfinished, short), refl, kept)

pub answered_want : (old held after : List ℕ) (around : Around) → Held old held around.left around.left_after → after ≡ held
    → AnswersHead around old after next.NoMemory
answered_want old held after around read kept = answered old held after around enough next.NoMemory read tt kept

pub not_empty : (held : List ℕ) → false ≡ (length held == 0) → 0 < length held
not_empty [] is = absurd (cc)
not_empty (b ∷ held) is = omega arith

-- for the reader's reads, and for its looks
pub ruleset read_steps = (no_run, run_more, held_first, held_more, held_same, held_grows)

pub ruleset look_steps = (no_run, runs_both, held_first, held_both, fewer_looks, held_grows, answered_head, answered_many, answered_bad, answered_want)
