-- What a worker does with its seat.
use Rattle.std.proofs.Common.{◌≡◌, sym, subst, ℕ, List, [], ◌++◌, Option, Some}
use Rattle.usp_conf.specs.Values.{ConfValue}
use Rattle.usp_shared.specs.Seats.{Seated}
use Rattle.usp_edge.proofs.Doing.{did_both, did_none}
use Rattle.usp_edge.specs.Calls.{Placed}
use Rattle.usp_edge.specs.Outcomes.{Find}
use Rattle.usp_edge.specs.SeatLaws.{seat_gains_both, seat_gains_none}
use Rattle.usp_edge.specs.Seats.{SeatGains}
use Rattle.usp_edge.specs.Serving.{Did, Line, Met, Served, Whole}
use Rattle.usp_edge.specs.declared.end.End.{End}
use Rattle.usp_edge.specs.declared.end.End.TheVariants as ending
use Rattle.usp_edge.specs.declared.note.Note.{Note}
use Rattle.usp_tool.specs.Edge.AtDoor.{AtDoor, Post, Works, further, nobody}
use Rattle.usp_edge.specs.Decided.{AreDecidedBy, none}
use Rattle.usp_tool.specs.Edge.Desks.{Desk, post_of}
use Rattle.usp_tool.specs.Edge.Workers.{HasSat, Sits}
use Rattle.usp_tool.specs.declared.edge.visit.DoorEnd.{DoorEnd}
use Rattle.usp_edge.proofs.Deciding.{broken_decided, decided_both, session_decided, starved_decided}

-- All that was done. The notes are decided by the nonce calls.
record Tally {N : Type 0} (gains : N → N → List Placed → Type 0) (conf : ConfValue) (old new : Met N) : Type 0 where
  moments : List ℕ
  calls : List Placed
  finds : List Find
  notes : List Note
  did : Did gains old new moments calls finds notes
  decided : AreDecidedBy conf notes calls

module _ {N : Type 0} (gains : N → N → List Placed → Type 0) (conf : ConfValue) where
  tally_whole : (line : Line) (old new : Met N) (ends : End) → Whole gains conf line old new ends → Tally gains conf old new
  tally_whole line old new ends whole = record {
    moments = whole.progress.moments;
    calls = whole.progress.calls;
    finds = whole.progress.finds;
    notes = whole.progress.notes;
    did = whole.did;
    decided = session_decided conf whole.bytes whole.stop whole.progress ends whole.session;
  }

  tally_served : (line : Line) (old new : Met N) (ends : End) → Served gains conf line old new ends → Tally gains conf old new
  tally_served line old new ending.WriteFault served = record {
    moments = served.progress.moments;
    calls = served.progress.calls;
    finds = served.progress.finds;
    notes = served.progress.notes;
    did = served.did;
    decided = broken_decided conf served.bytes served.stop served.progress served.text served.writes;
  }
  tally_served line old new ending.NoMemory served = record {
    moments = served.progress.moments;
    calls = served.progress.calls;
    finds = served.progress.finds;
    notes = served.progress.notes;
    did = served.did;
    decided = starved_decided conf served.bytes served.progress served.wants;
  }
  tally_served line old new ending.Closed served = tally_whole line old new ending.Closed served
  tally_served line old new ending.CutShort served = tally_whole line old new ending.CutShort served
  tally_served line old new ending.BadHead served = tally_whole line old new ending.BadHead served
  tally_served line old new ending.HeadTooLong served = tally_whole line old new ending.HeadTooLong served
  tally_served line old new ending.ManyHeaders served = tally_whole line old new ending.ManyHeaders served
  tally_served line old new ending.ReadFault served = tally_whole line old new ending.ReadFault served
  tally_served line old new ending.Body served = tally_whole line old new ending.Body served
  tally_served line old new ending.Enough served = tally_whole line old new ending.Enough served

  tally_none : (old : Met N) → gains old.supplies.nonces old.supplies.nonces [] → Tally gains conf old old
  tally_none old free = record { moments = []; calls = []; finds = []; notes = []; did = did_none gains old free; decided = none }

  module _ (free : (a : N) → gains a a []) (both : (a b c : N) (x y : List Placed) → gains a b x → gains b c y → gains a c (x ++ y)) where
    tally_both : (old mid new : Met N) → Tally gains conf old mid → Tally gains conf mid new → Tally gains conf old new
    tally_both old mid new first second = record {
      moments = first.moments ++ second.moments;
      calls = first.calls ++ second.calls;
      finds = first.finds ++ second.finds;
      notes = first.notes ++ second.notes;
      did = did_both gains both old mid new first.moments second.moments first.calls second.calls first.finds second.finds first.notes second.notes first.did second.did;
      decided = decided_both conf first.notes second.notes first.calls second.calls first.decided second.decided;
    }

    tally_at_door : (count : ℕ) (old new : Post N) → AtDoor gains conf count old new → Tally gains conf old.met new.met
    tally_at_door count old new (nobody old1 new1 is) =
        subst (λ (p : Post N). Tally gains conf old.met p.met) (sym is) (tally_none old.met (free old.met.supplies.nonces))
    tally_at_door count old new (further before old1 mid new1 so visited) =
        tally_both old.met mid.met new.met (tally_at_door before old mid so) (tally_served visited.line mid.met new.met visited.ends visited.served)

pub sits : (conf : ConfValue) (most : ℕ) (old new : Desk) (first last : Seated) (result : DoorEnd) → new.ends ≡ Some result → new.lines_out ≡ old.lines_out
    → Works SeatGains conf most (post_of old first) (post_of new last) old.door_faults new.door_faults result → Sits conf most old new first last
sits conf most old new first last result ends lines works =
    let tally = tally_at_door SeatGains conf seat_gains_none seat_gains_both works.count (post_of old first) (post_of new last) works.visits in
    record {
      result = result;
      ends = ends;
      lines_out = lines;
      works = works;
      calls = tally.calls;
      notes = tally.notes;
      gained = tally.did.draws.gained;
      noted = tally.did.noted;
      decided = tally.decided;
    }

-- under a configuration that is the same
pub sat_by : (a b : ConfValue) (most : ℕ) (old new : Desk) (seat seat_after : Option Seated) → a ≡ b → HasSat a most old new seat seat_after → HasSat b most old new seat seat_after
sat_by a b most old new seat seat_after same sat = subst (λ (k : ConfValue). HasSat k most old new seat seat_after) same sat
