use Rattle.std.proofs.Common.{◌≡◌, ◌≤◌, ◌<◌, ◌-◌, length}
use Rattle.usp_base.specs.Runs.{Runs}
use Rattle.usp_http.specs.Finding.{Held}
use Rattle.usp_http.proofs.reader.HeadReader.read_on.Given as goal

-- the bytes read so far are held behind those that were, and there is room for more
abbrev pub invariant-reading : goal.invariant-reading
invariant-reading g l = record {
  fault : l.self.fault ≡ l.fn.self.fault;
  room : length l.self.held < 16384;
  read : Held l.fn.self.held l.self.held (g.S.Source.left l.fn.source) (g.S.Source.left l.source);
  later : g.S.Source.read_count l.fn.source ≤ g.S.Source.read_count l.source;
  steps : Runs g.S.Source.reads l.fn.source l.source;
}

abbrev pub decreases-reading : goal.decreases-reading
decreases-reading g l = 16384 - length l.self.held
