use Rattle.std.proofs.Common.{◌≡◌, drop}
use Rattle.usp_json.specs.Entries.{entries, value_of}
use Rattle.usp_json.proofs.value.Members.find.Given as goal

-- no member so far has the name
abbrev pub invariant-loop-i : goal.invariant-loop-i
invariant-loop-i l = value_of l.name (drop l.i (entries l.self)) ≡ value_of l.name (entries l.self)
