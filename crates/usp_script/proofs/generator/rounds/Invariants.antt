use Rattle.std.proofs.Common.{◌≡◌, ◌-◌, ◌++◌}
use Rattle.usp_script.specs.Generator.{groups_from}
use Rattle.usp_script.proofs.generator.rounds.Given as goal

abbrev pub invariant-loop-group : goal.invariant-loop-group
invariant-loop-group l = l.rounds.items ++ groups_from l.group (l.groups - l.group) ≡ groups_from 0 l.groups
