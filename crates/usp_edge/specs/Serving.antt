-- What serving a connection does to what is met outside.
use Rattle.std.specs.Prelude.{◌≡◌, ◌⊎◌, ℕ, ◌+◌, ◌≤◌, min, List, [], ◌∷◌, ◌++◌, take, Bool, Option, IfSome}
use Rattle.std.specs.Io.KnownBytes.{append_known}
use Rattle.usp_base.specs.Outside.{Rose, last_count}
use Rattle.usp_conf.specs.Values.{ConfValue}
use Rattle.usp_http.specs.Finding.{Around, IsReading, Stop}
use Rattle.usp_http.specs.declared.head.Head.{Head}
use Rattle.usp_edge.specs.Calls.{Placed}
use Rattle.usp_edge.specs.Halts.{Part, Starves, StarvedSession, BrokenSession}
use Rattle.usp_edge.specs.Outcomes.{Find, ObjectAnswer, failed, no_memory, object}
use Rattle.usp_edge.specs.Replies.{closing_text}
use Rattle.usp_edge.specs.Session.{Progress, Session}
use Rattle.usp_edge.specs.Work.{Work, Works, work_text}
use Rattle.usp_edge.specs.declared.end.End.{End}
use Rattle.usp_edge.specs.declared.end.End.TheVariants as ending
use Rattle.usp_edge.specs.declared.note.Note.{Note}

-- ---- objects

-- the object of each content, where they are told
abbrev pub Objects : Type 0
Objects = Option (List ℕ → Option (List ℕ))

-- An answer that is no fault is the object of that content, or that there is none.
abbrev pub IsFound : Objects → (uri : List ℕ) → ObjectAnswer → Type 0
IsFound objects uri (object found) = IfSome objects (λ of. found ≡ of uri)
IsFound objects uri failed = Unit {0}
IsFound objects uri no_memory = Unit {0}

abbrev pub AreFound : Objects → List Find → Type 0
AreFound objects [] = Unit {0}
AreFound objects (find ∷ finds) = IsFound objects find.uri find.found × AreFound objects finds

-- how many reads failed
abbrev pub failure : ObjectAnswer → ℕ
failure (object found) = 0
failure failed = 1
failure no_memory = 0

abbrev pub failures : List Find → ℕ
failures [] = 0
failures (find ∷ finds) = failure find.found + failures finds

-- The objects were read so. At most as many reads failed as their count rose by, but where that stands at its last
-- value.
pub record ReadsObjects (objects objects_after : Objects) (faults faults_after : ℕ) (finds : List Find) : Type 0 where
  pub found : AreFound objects finds
  pub same : objects_after ≡ objects
  pub later : faults ≤ faults_after
  pub failed_most : min (faults + failures finds) last_count ≤ faults_after

-- ---- what was asked outside

-- the nonces and the objects
pub record Supplies (N : Type 0) : Type 0 where
  pub nonces : N
  pub objects : Objects
  pub faults : ℕ

-- The nonces gained these calls, and the objects were read so.
pub record Draws {N : Type 0} (gains : N → N → List Placed → Type 0) (old new : Supplies N)
    (calls : List Placed) (finds : List Find) : Type 0 where
  pub gained : gains old.nonces new.nonces calls
  pub reads : ReadsObjects old.objects new.objects old.faults new.faults finds

-- what the work on heads meets: the moments that the clock gave, the nonces and the objects, and the journal
pub record Met (N : Type 0) : Type 0 where
  pub given : Option (List ℕ)
  pub supplies : Supplies N
  pub journal : List Note

-- The clock gave these moments, the outside was asked so, and these notes went last into the journal.
pub record Did {N : Type 0} (gains : N → N → List Placed → Type 0) (old new : Met N) (moments : List ℕ)
    (calls : List Placed) (finds : List Find) (notes : List Note) : Type 0 where
  pub given : new.given ≡ append_known old.given moments
  pub draws : Draws gains old.supplies new.supplies calls finds
  pub noted : new.journal ≡ old.journal ++ notes

abbrev pub DidProgress : {N : Type 0} → (N → N → List Placed → Type 0) → Met N → Met N → Progress → Type 0
DidProgress gains old new progress = Did gains old new progress.moments progress.calls progress.finds progress.notes

-- ---- the connection

-- what is known of the connection around the call
pub record Line : Type 0 where
  pub around : Around
  pub told : Option (List ℕ)
  pub told_after : Option (List ℕ)
  pub put_faults : ℕ
  pub put_faults_after : ℕ

-- All of a session was written.
pub record Whole {N : Type 0} (gains : N → N → List Placed → Type 0) (conf : ConfValue) (line : Line) (old new : Met N)
    (ends : End) : Type 0 where
  pub bytes : List ℕ
  pub stop : Stop
  pub progress : Progress
  pub reading : IsReading line.around bytes stop
  pub session : Session conf bytes stop progress ends
  pub written : line.told_after ≡ append_known line.told progress.text
  pub did : DidProgress gains old new progress

-- A put failed: the replies before were written whole, and so many bytes of its text.
pub record Broken {N : Type 0} (gains : N → N → List Placed → Type 0) (conf : ConfValue) (line : Line)
    (old new : Met N) : Type 0 where
  pub bytes : List ℕ
  pub stop : Stop
  pub progress : Progress
  pub text : List ℕ
  pub count : ℕ
  pub reading : IsReading line.around bytes stop
  pub writes : BrokenSession conf bytes stop progress text
  pub written : line.told_after ≡ append_known line.told (progress.text ++ take count text)
  pub did : DidProgress gains old new progress
  pub rose : Rose line.put_faults line.put_faults_after

-- There was no memory: the replies before were written whole.
pub record Starved {N : Type 0} (gains : N → N → List Placed → Type 0) (conf : ConfValue) (line : Line)
    (old new : Met N) : Type 0 where
  pub bytes : List ℕ
  pub stop : Stop
  pub progress : Progress
  pub reading : IsReading line.around bytes stop
  pub wants : StarvedSession conf bytes progress
  pub written : line.told_after ≡ append_known line.told progress.text
  pub did : DidProgress gains old new progress

-- what the end of a connection says
abbrev pub Served : {N : Type 0} → (N → N → List Placed → Type 0) → ConfValue → Line → Met N → Met N → End → Type 0
Served gains conf line old new ending.WriteFault = Broken gains conf line old new
Served gains conf line old new ending.NoMemory = Starved gains conf line old new
Served gains conf line old new ends = Whole gains conf line old new ends

-- The closing reply was put, a put of it failed, or there was no memory for it.
abbrev pub Closes : (told told_after : Option (List ℕ)) → (before now : ℕ) → (ends result : End) → Type 0
Closes told told_after before now ends result =
    ((result ≡ ends) × (told_after ≡ append_known told closing_text))
    ⊎ (((result ≡ ending.WriteFault) × Rose before now × (n : ℕ)
    × (told_after ≡ append_known told (take n closing_text)))
    ⊎ ((result ≡ ending.NoMemory) × (told_after ≡ told)))

-- ---- one head

-- The work on a head, and the bytes of its reply.
pub record RepliesTo {N : Type 0} (gains : N → N → List Placed → Type 0) (conf : ConfValue) (last : Bool)
    (head : Head) (old new : Met N) (text : List ℕ) : Type 0 where
  pub work : Work
  pub works : Works conf last head work
  pub text_is : text ≡ work_text work
  pub did : Did gains old new work.moments work.calls work.finds work.notes

-- There was no memory for the work on a head.
pub record StarvesAt {N : Type 0} (gains : N → N → List Placed → Type 0) (conf : ConfValue) (head : Head)
    (old new : Met N) : Type 0 where
  pub part : Part
  pub starves : Starves conf head part
  pub did : Did gains old new part.moments part.calls part.finds part.notes
