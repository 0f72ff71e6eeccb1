use Rattle.std.proofs.Common.{◌≤◌, List, Option, drop}
use Rattle.usp_base.specs.declared.link.Asked.{Asked}
use Rattle.usp_player.specs.Playing.{Next, toward_segments, uris_of}
use Rattle.usp_player.specs.Ways.{Way}
use Rattle.usp_player.proofs.player.Player.play_segments.Given as goal

-- the requests so far lead to the segments behind
abbrev pub invariant-loop-segment : goal.invariant-loop-segment
invariant-loop-segment g l = record {
  way : (start : Next) (told : Option (List Asked))
      → Way l.map start told (g.L.Link.asks l.fn.link) l.fn.self.steps.items
      (toward_segments l.map l.fn.self.jar l.base (uris_of l.segments))
      → Way l.map start told (g.L.Link.asks l.link) l.self.steps.items
      (toward_segments l.map l.self.jar l.base (uris_of (drop l.segment-index l.segments)));
  later : g.L.Link.link_count l.fn.link ≤ g.L.Link.link_count l.link;
}
