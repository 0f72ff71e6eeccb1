use Rattle.std.proofs.Common.{◌≡◌, ◌++◌, length}
use Rattle.usp_uri.specs.Normal.{path_from, segments_of}
use Rattle.usp_cookie.specs.Cookies.{kept_segments}
use Rattle.usp_cookie.proofs.path.push_kept.Given as goal

abbrev pub invariant-loop-rest : goal.invariant-loop-rest
invariant-loop-rest l = l.out.items ++ path_from (kept_segments l.left (segments_of l.rest)) ≡ l.fn.out.items ++ path_from (kept_segments l.depth (segments_of l.path))

abbrev pub decreases-loop-rest : goal.decreases-loop-rest
decreases-loop-rest l = length l.rest
