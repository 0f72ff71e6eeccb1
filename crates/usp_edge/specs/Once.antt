-- What two sessions have to share for one outcome.
use Rattle.std.specs.Prelude.{◌≡◌}
use Rattle.usp_edge.specs.Session.{Progress}

-- the clock gave the same moments, the nonces the same turns, and the objects the same answers
abbrev pub MeetAlike : Progress → Progress → Type 0
MeetAlike f g = (f.moments ≡ g.moments) × (f.calls ≡ g.calls) × (f.finds ≡ g.finds)
