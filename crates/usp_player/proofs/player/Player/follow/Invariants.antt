use Rattle.std.proofs.Common.{◌≤◌, ◌-◌}
use Rattle.usp_player.proofs.Following.{Leads}
use Rattle.usp_player.specs.declared.limits.TheConstants.{MAX_REDIRECTIONS}
use Rattle.usp_player.proofs.player.Player.follow.Given as goal

-- the requests so far lead to this one
abbrev pub invariant-redirections : goal.invariant-redirections
invariant-redirections g l = record {
  few : l.redirections ≤ MAX_REDIRECTIONS;
  way : Leads l.map (g.L.Link.asks l.fn.link) (g.L.Link.asks l.link) l.fn.self.steps.items l.self.steps.items
      l.fn.first 0 l.fn.self.jar l.url l.redirections l.self.jar;
  later : g.L.Link.link_count l.fn.link ≤ g.L.Link.link_count l.link;
}

abbrev pub decreases-redirections : goal.decreases-redirections
decreases-redirections g l = MAX_REDIRECTIONS - l.redirections
