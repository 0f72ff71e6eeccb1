use Rattle.std.proofs.Common.{◌≡◌, ◌≤◌, ◌+◌, ◌-◌, length}
use Rattle.std.specs.Io.KnownBytes.{prepend_known}
use Rattle.usp_tool.proofs.input.read_up_to.Given as goal

abbrev pub invariant-reading : goal.invariant-reading
invariant-reading g l = record {
  taken : g.S.Source.left l.fn.source ≡ prepend_known l.bytes.items (g.S.Source.left l.source);
  later : g.S.Source.read_count l.fn.source ≤ g.S.Source.read_count l.source;
}

abbrev pub decreases-reading : goal.decreases-reading
decreases-reading g l = l.most + 1 - length l.bytes.items
