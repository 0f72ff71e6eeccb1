use Rattle.std.proofs.Common.{◌≡◌, length}
use Rattle.usp_tool.proofs.Checking.Lines.{Loop}
use Rattle.usp_tool.proofs.check.check.Given as goal

-- the lines so far, under the profile of the configuration
abbrev pub invariant-loop-profile : goal.invariant-loop-profile
invariant-loop-profile g l = (l.profile ≡ l.conf.site.profile) × Loop l.conf l.input l.table l.number l.text.items l.status l.rest

abbrev pub decreases-loop-profile : goal.decreases-loop-profile
decreases-loop-profile g l = length l.rest
