use Rattle.std.proofs.Common.{◌≡◌, length, reverse}
use Rattle.usp_cookie.specs.SetCookies.{behind_slash}
use Rattle.usp_cookie.proofs.setting.before_slash.Given as goal

-- no '/' so far
abbrev pub invariant-loop-last : goal.invariant-loop-last
invariant-loop-last l = behind_slash (reverse l.rest) ≡ behind_slash (reverse l.text)

abbrev pub decreases-loop-last : goal.decreases-loop-last
decreases-loop-last l = length l.rest
