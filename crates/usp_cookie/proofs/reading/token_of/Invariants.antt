use Rattle.std.proofs.Common.{◌≡◌, length}
use Rattle.usp_cookie.specs.Cookies.{token_of}
use Rattle.usp_cookie.proofs.reading.token_of.Given as goal

-- the pieces so far say nothing of the name
abbrev pub invariant-loop-piece : goal.invariant-loop-piece
invariant-loop-piece l = token_of l.name l.rest ≡ token_of l.fn.name l.value

abbrev pub decreases-loop-piece : goal.decreases-loop-piece
decreases-loop-piece l = length l.rest
