-- What is said of one kind of nonces, said of another that it is seen as.
use Rattle.std.proofs.Common.{ap, ℕ, List}
use Rattle.usp_conf.specs.Values.{ConfValue}
use Rattle.usp_edge.specs.Calls.{Placed}
use Rattle.usp_edge.specs.Outcomes.{Find}
use Rattle.usp_edge.specs.Serving.{Did, Line, Met, Served, Supplies, Whole}
use Rattle.usp_edge.specs.declared.end.End.{End}
use Rattle.usp_edge.specs.declared.end.End.TheVariants as ending
use Rattle.usp_edge.specs.declared.note.Note.{Note}
use Rattle.usp_tool.specs.Edge.AtDoor.{AtDoor, Post, Visited, Works, further, nobody}
use Rattle.usp_tool.specs.declared.edge.visit.DoorEnd.{DoorEnd}

module _ {N M : Type 0} (gains : N → N → List Placed → Type 0) (gains2 : M → M → List Placed → Type 0) (f : N → M)
    (keeps : (a b : N) (x : List Placed) → gains a b x → gains2 (f a) (f b) x) (conf : ConfValue) where
  abbrev pub supplies_by : Supplies N → Supplies M
  supplies_by s = record { nonces = f s.nonces; objects = s.objects; faults = s.faults }

  abbrev pub met_by : Met N → Met M
  met_by m = record { given = m.given; supplies = supplies_by m.supplies; journal = m.journal }

  abbrev pub post_by : Post N → Post M
  post_by p = record { coming = p.coming; back = p.back; visits = p.visits; met = met_by p.met }

  did_by : (old new : Met N) (moments : List ℕ) (calls : List Placed) (finds : List Find) (notes : List Note) → Did gains old new moments calls finds notes
      → Did gains2 (met_by old) (met_by new) moments calls finds notes
  did_by old new moments calls finds notes did = record {
    given = did.given;
    draws = record { gained = keeps old.supplies.nonces new.supplies.nonces calls did.draws.gained; reads = did.draws.reads };
    noted = did.noted;
  }

  whole_by : (line : Line) (old new : Met N) (ends : End) → Whole gains conf line old new ends → Whole gains2 conf line (met_by old) (met_by new) ends
  whole_by line old new ends w = record {
    bytes = w.bytes;
    stop = w.stop;
    progress = w.progress;
    reading = w.reading;
    session = w.session;
    written = w.written;
    did = did_by old new w.progress.moments w.progress.calls w.progress.finds w.progress.notes w.did;
  }

  served_by : (line : Line) (old new : Met N) (ends : End) → Served gains conf line old new ends → Served gains2 conf line (met_by old) (met_by new) ends
  served_by line old new ending.WriteFault w = record {
    bytes = w.bytes;
    stop = w.stop;
    progress = w.progress;
    text = w.text;
    count = w.count;
    reading = w.reading;
    writes = w.writes;
    written = w.written;
    did = did_by old new w.progress.moments w.progress.calls w.progress.finds w.progress.notes w.did;
    rose = w.rose;
  }
  served_by line old new ending.NoMemory w = record {
    bytes = w.bytes;
    stop = w.stop;
    progress = w.progress;
    reading = w.reading;
    wants = w.wants;
    written = w.written;
    did = did_by old new w.progress.moments w.progress.calls w.progress.finds w.progress.notes w.did;
  }
  served_by line old new ending.Closed w = whole_by line old new ending.Closed w
  served_by line old new ending.CutShort w = whole_by line old new ending.CutShort w
  served_by line old new ending.BadHead w = whole_by line old new ending.BadHead w
  served_by line old new ending.HeadTooLong w = whole_by line old new ending.HeadTooLong w
  served_by line old new ending.ManyHeaders w = whole_by line old new ending.ManyHeaders w
  served_by line old new ending.ReadFault w = whole_by line old new ending.ReadFault w
  served_by line old new ending.Body w = whole_by line old new ending.Body w
  served_by line old new ending.Enough w = whole_by line old new ending.Enough w

  visited_by : (old new : Post N) → Visited gains conf old new → Visited gains2 conf (post_by old) (post_by new)
  visited_by old new v = record {
    line = v.line;
    ends = v.ends;
    notes = v.notes;
    fresh = v.fresh;
    came = v.came;
    served = served_by v.line old.met new.met v.ends v.served;
    back = v.back;
    counted = v.counted;
    visited = v.visited;
  }

  at_door_by : (count : ℕ) (old new : Post N) → AtDoor gains conf count old new → AtDoor gains2 conf count (post_by old) (post_by new)
  at_door_by count old new (nobody old1 new1 is) = nobody (post_by old) (post_by new) (ap post_by is)
  at_door_by count old new (further before old1 mid new1 so visited) =
      further before (post_by old) (post_by mid) (post_by new) (at_door_by before old mid so) (visited_by mid new visited)

  pub works_by : (most : ℕ) (old new : Post N) (faults faults_after : ℕ) (result : DoorEnd) → Works gains conf most old new faults faults_after result
      → Works gains2 conf most (post_by old) (post_by new) faults faults_after result
  works_by most old new faults faults_after result w = record { count = w.count; visits = at_door_by w.count old new w.visits; ends = w.ends }
