use Rattle.std.proofs.Common.{◌≡◌, ◌≤◌, ◌+◌, ◌-◌, ◌*◌, None, length}
use Rattle.usp_base.specs.Runs.{Runs}
use Rattle.usp_http.specs.Finding.{Held, HoldsHead, Stops}
use Rattle.usp_http.specs.Pauses.{stop_of}
use Rattle.usp_http.proofs.Reading.{looks_left}
use Rattle.usp_http.proofs.reader.HeadReader.next_head.Given as goal

-- the bytes read so far are held behind those that were, and why no more were read is known
abbrev pub invariant-looking : goal.invariant-looking
invariant-looking g l = record {
  fault : l.self.fault ≡ None;
  read : Held l.fn.self.held l.self.held (g.S.Source.left l.fn.source) (g.S.Source.left l.source);
  stops : Stops (stop_of l.pause) (g.S.Source.ended l.source) (g.S.Source.left l.source) (g.S.Source.read_count l.fn.source) (g.S.Source.read_count l.source);
  unread : HoldsHead l.fn.self.held → l.source ≡ l.fn.source;
  later : g.S.Source.read_count l.fn.source ≤ g.S.Source.read_count l.source;
  steps : Runs g.S.Source.reads l.fn.source l.source;
}

abbrev pub decreases-looking : goal.decreases-looking
decreases-looking g l = 2 * (16384 - length l.self.held) + looks_left l.pause
