use Rattle.std.proofs.Common.{◌≡◌, length}
use Rattle.usp_cookie.specs.SetCookies.{attributes_in, last_or, last_path, paths_in}
use Rattle.usp_cookie.proofs.setting.last_path.Given as goal

-- the last so far, or the last among the attributes behind
abbrev pub invariant-loop-attribute : goal.invariant-loop-attribute
invariant-loop-attribute l = last_or l.found (paths_in (attributes_in l.rest)) ≡ last_path (attributes_in l.attributes)

abbrev pub decreases-loop-attribute : goal.decreases-loop-attribute
decreases-loop-attribute l = length l.rest
