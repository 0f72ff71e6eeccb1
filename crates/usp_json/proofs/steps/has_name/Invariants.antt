use Rattle.std.proofs.Common.{◌≡◌, drop}
use Rattle.usp_json.specs.Spells.{has_name}
use Rattle.usp_json.proofs.steps.has_name.Given as goal

-- no name so far is that one
abbrev pub invariant-loop-i : goal.invariant-loop-i
invariant-loop-i l = has_name l.name (drop l.i l.names) ≡ has_name l.name l.names
