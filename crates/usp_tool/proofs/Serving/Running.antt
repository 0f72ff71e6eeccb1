-- What a run of `edge` leaves, by what its workers left.
use Rattle.std.proofs.Common.{◌≡◌, ◌<◌, ◌||◌, ◌⊎◌, inl, inr, ℕ, suc, Bool, true, false, List, [], ◌∷◌, length, map, Option, Some, Result, Ok, Err, IfOk, IfSome, OnErr, refl, zero, sym, ap, ◌∙◌, subst, arith, take, if◌then◌else◌}
use Rattle.std.specs.Prelude.{slice_index_or, All}
use Rattle.std.specs.List.{list_any}
use Rattle.usp_base.specs.Doors.{Coming}
use Rattle.std.specs.Io.KnownBytes.{append_known}
use Rattle.usp_base.specs.Outside.{Rose, file_of}
use Rattle.usp_base.specs.declared.files.MemoryFile.{MemoryFile}
use Rattle.usp_base.specs.declared.fault.Status.{Status}
use Rattle.usp_base.specs.declared.fault.Status.TheVariants.{Done, Denials, Words, Refused, Outside, Memory}
use Rattle.usp_conf.specs.Readings.{Configures, RefusesConf}
use Rattle.usp_conf.specs.Values.{ConfValue}
use Rattle.usp_conf.specs.declared.fault.ConfFault.{ConfFault}
use Rattle.usp_nonce.specs.History.{Call}
use Rattle.usp_tool.specs.Edge.AtDoor.{EndsBy}
use Rattle.usp_tool.specs.Edge.Run.{HasOutcome, IsAnswered, PutsPart, PutsWhole, Scene, Shows, Serves, ServesAll, ServesFor, ServesUnder, SomeDoorRose, TellsAll, ends_by_fault, has_denial, no_conf, serves, status_of, wants_memory}
use Rattle.usp_tool.specs.Edge.Text.{edge_text}
use Rattle.usp_tool.specs.Edge.Desks.{Desk, cleared}
use Rattle.usp_tool.specs.Edge.Words.{EdgeWords}
use Rattle.usp_tool.proofs.Serving.Overall.{upholds}
use Rattle.usp_tool.specs.Edge.Workers.{HasServed, HaveServed, OneHistory, another, nobody}
use Rattle.usp_tool.specs.Outcome.{IsConfRefusal, Outcome}
use Rattle.usp_tool.specs.Run.{Wrote}
use Rattle.usp_tool.specs.declared.edge.visit.DoorEnd.{DoorEnd}
use Rattle.usp_tool.specs.declared.edge.visit.DoorEnd.TheVariants as door

pub any_mapped : {A B : Type 0} (p : B → Bool) (f : A → B) (xs : List A) → list_any p (map f xs) ≡ list_any (λ x. p (f x)) xs
any_mapped p f [] = refl
any_mapped p f (x ∷ xs) = ap (λ b. p (f x) || b) (any_mapped p f xs)

rose_by : (result : DoorEnd) (most count : ℕ) (coming : Coming) (faults after : ℕ) → ends_by_fault (Some result) ≡ true
    → EndsBy result most count coming faults after → Rose faults after
rose_by door.DoorFault most count coming faults after e h = h.1
rose_by door.Ended most count coming faults after e h = let differ : false ≡ true = e in cc
rose_by door.Most most count coming faults after e h = let differ : false ≡ true = e in cc
rose_by door.NoMemory most count coming faults after e h = let differ : false ≡ true = e in cc

door_rose : (conf : ConfValue) (most : ℕ) (history : List Call) (old new : Desk) → HasServed conf most history old new
    → ends_by_fault new.ends ≡ true → Rose old.door_faults new.door_faults
door_rose conf most history old new has e =
    rose_by has.sits.result most has.sits.works.count new.coming old.door_faults new.door_faults
    (ap ends_by_fault (sym has.sits.ends) ∙ e) has.sits.works.ends

or_else : (a b : Bool) → (a || b) ≡ true → (a ≡ true) ⊎ (b ≡ true)
or_else true b e = inl refl
or_else false b e = inr e

-- a worker whose door failed has a door whose count rose
pub some_door : (conf : ConfValue) (most : ℕ) (history : List Call) (olds news : List Desk) (places : List ℕ)
    → HaveServed conf most history olds news places → list_any (λ desk. ends_by_fault desk.ends) news ≡ true
    → SomeDoorRose olds (map cleared news)
some_door conf most history _ _ _ nobody e = let differ : false ≡ true = e in cc
some_door conf most history _ _ _ (another old new olds news places has rest) e =
    elim (or_else (ends_by_fault new.ends) (list_any (λ desk. ends_by_fault desk.ends) news) e) [
      | inl here ↦ (0, old, omega arith, door_rose conf most history old new has here)
      | inr there ↦ let k = some_door conf most history olds news places rest there in (suc k.0, k.1, omega (arith, k.2), k.3)
    ]

-- ---- what the workers tell

pub status_is : {W : Type 0} (desk : W → Desk) (workers : List W) (b c : Bool) → list_any (λ w. ends_by_fault (desk w).ends) workers ≡ b
    → list_any (λ w. has_denial (desk w).notes) workers ≡ c → status_of (map desk workers) ≡ (if b then Outside else if c then Denials else Done)
status_is desk workers b c e f =
    ap (λ x. if x then Outside else if list_any (λ d. has_denial d.notes) (map desk workers) then Denials else Done) (any_mapped (λ d. ends_by_fault d.ends) desk workers ∙ e)
    ∙ ap (λ y. if b then Outside else if y then Denials else Done) (any_mapped (λ d. has_denial d.notes) desk workers ∙ f)

pub tells_all : {W : Type 0} (desk : W → Desk) (workers : List W) (name text : List ℕ) (calls : ℕ) (status : Status) (o : Outcome)
    → o ≡ record { text = text; status = status } → list_any (λ w. wants_memory (desk w).ends) workers ≡ false
    → text ≡ edge_text name calls (map desk workers) → status ≡ status_of (map desk workers) → TellsAll name calls (map desk workers) o
tells_all desk workers name text calls status o is memory t s = record {
  memory = any_mapped (λ d. wants_memory d.ends) desk workers ∙ memory;
  text = ap (λ x. x.text) is ∙ t;
  status = ap (λ x. x.status) is ∙ s;
}

-- ---- all that was served

no_notes_at : {W : Type 0} (desk : W → Desk) (empty : W → Type 0) → ((w : W) → empty w → (desk w).notes ≡ []) → (workers : List W) → All empty workers
    → (k : ℕ) (d : Desk) → k < length (map desk workers) → (slice_index_or (map desk workers) k d).notes ≡ []
no_notes_at desk empty by [] h k d l = absurd (omega (arith, l))
no_notes_at desk empty by (w ∷ ws) h zero d l = by w (h 0 w (omega arith))
no_notes_at desk empty by (w ∷ ws) h (suc k) d l = no_notes_at desk empty by ws (λ j e m. h (suc j) e (omega (arith, m))) k d (omega (arith, l))

pub serves_each : {W : Type 0} (desk : W → Desk) (conf : ConfValue) (most calls : ℕ) (befores mids afters : List W)
    (empty : W → Type 0) → ((w : W) → empty w → (desk w).notes ≡ []) → All empty befores
    → OneHistory conf most calls (map desk befores) (map desk mids)
    → map desk afters ≡ map cleared (map desk mids) → ServesAll conf most (map desk befores) (map desk afters)
serves_each desk conf most calls befores mids afters empty by fresh history over = record {
  calls = calls;
  served = map desk mids;
  history = history;
  upholds = upholds conf most calls (map desk befores) (map desk mids) (no_notes_at desk empty by befores fresh) history;
  over = over;
}

pub serves_all : {W E : Type 0} (desk : W → Desk) (conf : ConfValue) (most calls : ℕ) (befores mids afters : List W) (r : Result Outcome E)
    (empty : W → Type 0) → ((w : W) → empty w → (desk w).notes ≡ []) → All empty befores
    → OneHistory conf most calls (map desk befores) (map desk mids) → IfOk r (λ o. TellsAll conf.edge calls (map desk mids) o)
    → map desk afters ≡ map cleared (map desk mids) → IfOk r (λ o. Serves conf most (map desk befores) (map desk afters) o)
serves_all desk conf most calls befores mids afters (Err e) empty by fresh history tells over = tt
serves_all desk conf most calls befores mids afters (Ok o) empty by fresh history tells over = record {
  all = record {
    calls = calls;
    served = map desk mids;
    history = history;
    upholds = upholds conf most calls (map desk befores) (map desk mids) (no_notes_at desk empty by befores fresh) history;
    over = over;
  };
  tells = tells;
}

-- a fact of both answers
pub of_refusal : {A E : Type 0} (r : Result A E) (P : Type 0) → P → OnErr r P
of_refusal (Ok a) P p = tt
of_refusal (Err e) P p = p

-- under a configuration that was read
pub untold_under : {W A E : Type 0} (desk : W → Desk) (words : EdgeWords) (conf : List ℕ) (value : ConfValue) (befores afters : List W)
    (r : Result A E) → Configures conf value
    → OnErr r ((afters ≡ befores) ⊎ ServesAll value words.connections (map desk befores) (map desk afters))
    → OnErr r ((afters ≡ befores) ⊎ ServesUnder words conf (map desk befores) (map desk afters))
untold_under desk words conf value befores afters (Ok a) configures h = tt
untold_under desk words conf value befores afters (Err e) configures (inl same) = inl same
untold_under desk words conf value befores afters (Err e) configures (inr all) =
    inr (record { value = value; configures = configures; all = all })

-- under a configuration that was loaded
pub untold_for : {W : Type 0} (desk : W → Desk) (words : EdgeWords) (files : Option (List MemoryFile)) (conf : List ℕ) (befores afters : List W)
    → IfSome files (λ all. file_of all words.conf ≡ Some conf)
    → (afters ≡ befores) ⊎ ServesUnder words conf (map desk befores) (map desk afters)
    → (afters ≡ befores) ⊎ ServesFor words files (map desk befores) (map desk afters)
untold_for desk words files conf befores afters loaded (inl same) = inl same
untold_for desk words files conf befores afters loaded (inr under) = inr (record { conf = conf; loaded = loaded; serves = under })

-- what their desks tell where the workers are the same, or served
pub desks_untold : {W : Type 0} (desk : W → Desk) (words : EdgeWords) (files : Option (List MemoryFile)) (befores afters : List W)
    → (afters ≡ befores) ⊎ ServesFor words files (map desk befores) (map desk afters)
    → (map desk afters ≡ map desk befores) ⊎ ServesFor words files (map desk befores) (map desk afters)
desks_untold desk words files befores afters (inl same) = inl (ap (map desk) same)
desks_untold desk words files befores afters (inr loaded) = inr loaded

pub has_served : {E : Type 0} (words : EdgeWords) (conf : List ℕ) (value : ConfValue) (before after : List Desk) (r : Result Outcome E)
    → Configures conf value → IfOk r (λ o. Serves value words.connections before after o) → IfOk r (λ o. HasOutcome words conf before after o)
has_served words conf value before after (Ok o) configures s = serves value configures s
has_served words conf value before after (Err e) configures s = tt

pub has_refusal : {E : Type 0} (words : EdgeWords) (conf : List ℕ) (found : ConfFault) (before after : List Desk) (r : Result Outcome E)
    → RefusesConf found conf → after ≡ before → IfOk r (λ o. IsConfRefusal found o) → IfOk r (λ o. HasOutcome words conf before after o)
has_refusal words conf found before after (Ok o) refuses same is = no_conf found refuses is same
has_refusal words conf found before after (Err e) refuses same is = tt

-- ---- the status and the last put

if_cases : (b c : Bool) (s t u : Status) → ((if b then s else if c then t else u) ≡ s) ⊎ (((if b then s else if c then t else u) ≡ t) ⊎ ((if b then s else if c then t else u) ≡ u))
if_cases true c s t u = inl refl
if_cases false true s t u = inr (inl refl)
if_cases false false s t u = inr (inr refl)

-- what a status says where the text went out whole
whole_shows : (words : EdgeWords) (before after : Scene) (status : Status) → (status ≡ Words → ⊥) → (status ≡ Memory → ⊥)
    → PutsWhole words before after status → Shows words before after status
whole_shows words before after Done n m w = w
whole_shows words before after Denials n m w = w
whole_shows words before after Words n m w = absurd (n refl)
whole_shows words before after Refused n m w = w
whole_shows words before after Outside n m w = inr (inl w)
whole_shows words before after Memory n m w = absurd (m refl)

-- an outcome's status is neither of these
not_by : (other : Status) → (Refused ≡ other → ⊥) → (Outside ≡ other → ⊥) → (Denials ≡ other → ⊥) → (Done ≡ other → ⊥)
    → (words : EdgeWords) (conf : List ℕ) (before after : List Desk) (o : Outcome) → HasOutcome words conf before after o → o.status ≡ other → ⊥
not_by other r f d n words conf before after o (no_conf found refuses is same) e = r (sym (ap (λ x. x.status) is.2) ∙ e)
not_by other r f d n words conf before after o (serves value configures s) e =
    elim (if_cases (list_any (λ desk. ends_by_fault desk.ends) s.all.served) (list_any (λ desk. has_denial desk.notes) s.all.served) Outside Denials Done) [
      | inl a ↦ f (sym a ∙ (sym s.tells.status ∙ e))
      | inr more ↦ elim more [ inl a ↦ d (sym a ∙ (sym s.tells.status ∙ e)) | inr a ↦ n (sym a ∙ (sym s.tells.status ∙ e)) ]
    ]

never_words : (words : EdgeWords) (conf : List ℕ) (before after : List Desk) (o : Outcome) → HasOutcome words conf before after o → o.status ≡ Words → ⊥
never_words = not_by Words (λ e. cc) (λ e. cc) (λ e. cc) (λ e. cc)

never_memory : (words : EdgeWords) (conf : List ℕ) (before after : List Desk) (o : Outcome) → HasOutcome words conf before after o → o.status ≡ Memory → ⊥
never_memory = not_by Memory (λ e. cc) (λ e. cc) (λ e. cc) (λ e. cc)

-- what a put of an outcome leaves
pub edge_shows : (words : EdgeWords) (before after : Scene) (text : List ℕ) (status result : Status) (o : Outcome)
    → IsAnswered words before.files before.desks after.desks o → text ≡ o.text → status ≡ o.status
    → Wrote before.told after.told before.put_faults after.put_faults text status result → Shows words before after result
edge_shows words before after text status result o answered t s (inl wrote) =
    let ends : result ≡ o.status = wrote.0 ∙ s in
    let whole : PutsWhole words before after o.status =
    record { outcome = o; answered = answered; written = wrote.1 ∙ ap (append_known before.told) t; ends = refl } in
    subst (λ r. Shows words before after r) (sym ends)
    (whole_shows words before after o.status (never_words words answered.conf before.desks after.desks o answered.has)
    (never_memory words answered.conf before.desks after.desks o answered.has) whole)
edge_shows words before after text status result o answered t s (inr failed) =
    let part : PutsPart words before after =
    record { outcome = o; answered = answered; count = failed.2; written = failed.3 ∙ ap (λ x. append_known before.told (take failed.2 x)) t; rose = failed.1 } in
    subst (λ r. Shows words before after r) (sym failed.0) (inr (inr part))

faulted : (b c : Bool) → (if b then Outside else if c then Denials else Done) ≡ Outside → b ≡ true
faulted true c e = refl
faulted false true e = let differ : Denials ≡ Outside = e in cc
faulted false false e = let differ : Done ≡ Outside = e in cc

-- an outcome that is a fault outside is one of a door
pub stopped_by_door : (words : EdgeWords) (conf : List ℕ) (before after : List Desk) (o : Outcome) → HasOutcome words conf before after o
    → o.status ≡ Outside → SomeDoorRose before after
stopped_by_door words conf before after o (no_conf found refuses is same) e = let differ : Refused ≡ Outside = sym (ap (λ x. x.status) is.2) ∙ e in cc
stopped_by_door words conf before after o (serves value configures s) e =
    subst (λ l. SomeDoorRose before l) (sym s.all.over)
    (some_door value words.connections s.all.history.history before s.all.served s.all.history.places s.all.history.served
    (faulted (list_any (λ desk. ends_by_fault desk.ends) s.all.served) (list_any (λ desk. has_denial desk.notes) s.all.served) (sym s.tells.status ∙ e)))

-- status 4 comes of a door or of the last put
pub edge_outside : {L D : Type 0} (before now : Option (List ℕ)) (faults_before faults : ℕ) (text : List ℕ) (status result : Status) (o : Outcome)
    → status ≡ o.status → (o.status ≡ Outside → D) → Wrote before now faults_before faults text status result → result ≡ Outside
    → L ⊎ (D ⊎ Rose faults_before faults)
edge_outside before now faults_before faults text status result o s door (inl wrote) e = inr (inl (door (sym s ∙ (sym wrote.0 ∙ e))))
edge_outside before now faults_before faults text status result o s door (inr failed) e = inr (inr failed.1)
