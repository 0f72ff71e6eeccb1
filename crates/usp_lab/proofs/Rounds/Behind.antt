-- How far a worker is with its share.
use Rattle.std.proofs.Common.{◌≡◌, refl, sym, ap, ◌∙◌, subst, ℕ, List, [], ◌∷◌, ◌++◌, length, map, append-nil, append_assoc, Option}
use Rattle.std.specs.List.{AllByRecursion}
use Rattle.usp_script.specs.Script.{ScriptValue}
use Rattle.usp_script.specs.declared.ask.LabAsk.{LabAsk}
use Rattle.usp_shared.specs.Seats.{Seated}
use Rattle.usp_lab.specs.Jobs as jobs
use Rattle.usp_lab.specs.Jobs.{AreDone, Deed, IsDone, IsOwn, Task}
use Rattle.usp_lab.specs.Rounds.{Served}
use Rattle.usp_lab.specs.Shares.{AllGain, HasDone, Part}
use Rattle.usp_lab.proofs.Rounds.Doing.{done_more}
use Rattle.usp_lab.proofs.Rounds.Working.{gain_more, gain_none}

-- The first tasks were done so.
pub record Behind (script : ScriptValue) (issued : List (Option (List ℕ))) (known : ℕ) (asks : List LabAsk) (old now : Part) : Type 0 where
  pub first : List Task
  pub all : List Served
  pub whole : first ++ now.tasks ≡ old.tasks
  pub done : AreDone script issued known asks first now.deeds all
  pub gain : AllGain old.seats now.seats all

-- One task was done, and its seat gained its calls.
pub record Steps (script : ScriptValue) (issued : List (Option (List ℕ))) (known : ℕ) (asks : List LabAsk) (task : Task) (deed : Deed) (seats after : List Seated) : Type 0 where
  pub served : Served
  pub done : IsDone script issued known asks task deed served
  pub gain : AllGain seats after (served ∷ [])

module _ (script : ScriptValue) (issued : List (Option (List ℕ))) (known : ℕ) (asks : List LabAsk) where
  pub behind_none : (part : Part) → part.deeds ≡ [] → Behind script issued known asks part part
  behind_none part none = record {
    first = [];
    all = [];
    whole = refl;
    done = subst (λ deeds. AreDone script issued known asks [] deeds []) (sym none) jobs.nothing;
    gain = gain_none part.seats;
  }

  pub behind_more : (old mid new : Part) (task : Task) (deed : Deed) → mid.tasks ≡ task ∷ new.tasks → new.deeds ≡ mid.deeds ++ deed ∷ [] → length mid.seats ≡ length old.seats
      → Behind script issued known asks old mid → Steps script issued known asks task deed mid.seats new.seats → Behind script issued known asks old new
  behind_more old mid new task deed taken pushed long behind steps = record {
    first = behind.first ++ task ∷ [];
    all = behind.all ++ steps.served ∷ [];
    whole = append_assoc behind.first (task ∷ []) new.tasks ∙ (ap (λ l. behind.first ++ l) (sym taken) ∙ behind.whole);
    done = subst (λ deeds. AreDone script issued known asks (behind.first ++ task ∷ []) deeds (behind.all ++ steps.served ∷ [])) (sym pushed)
        (done_more script issued known asks behind.first mid.deeds behind.all task deed steps.served behind.done steps.done);
    gain = gain_more old.seats mid.seats new.seats behind.all steps.served long behind.gain steps.gain;
  }

  pub done_all : (old mid new : Part) → mid.tasks ≡ [] → mid.deeds ≡ new.deeds → mid.seats ≡ new.seats → Behind script issued known asks old mid
      → HasDone script issued known asks old new
  done_all old mid new none deeds seats behind = record {
    all = behind.all;
    done = subst (λ l. AreDone script issued known asks old.tasks l behind.all) deeds
        (subst (λ tasks. AreDone script issued known asks tasks mid.deeds behind.all)
        (sym (append-nil behind.first) ∙ (ap (λ l. behind.first ++ l) (sym none) ∙ behind.whole)) behind.done);
    gain = subst (λ l. AllGain old.seats l behind.all) seats behind.gain;
  }

  -- what is said of a share says nothing of whether it is whole
  pub done_same : (old mid new : Part) → mid.deeds ≡ new.deeds → mid.seats ≡ new.seats → HasDone script issued known asks old mid → HasDone script issued known asks old new
  done_same old mid new deeds seats has = record {
    all = has.all;
    done = subst (λ l. AreDone script issued known asks old.tasks l has.all) deeds has.done;
    gain = subst (λ l. AllGain old.seats l has.all) seats has.gain;
  }

-- what holds of each task holds of the next one
pub next_own : (P : Task → Type 0) (first : List Task) (task : Task) (rest tasks : List Task) → first ++ task ∷ rest ≡ tasks → AllByRecursion P tasks → P task
next_own P first task rest tasks is each = its first (subst (AllByRecursion P) (sym is) each) where
  its : (front : List Task) → AllByRecursion P (front ++ task ∷ rest) → P task
  its [] (here, more) = here
  its (other ∷ front) (here, more) = its front more
