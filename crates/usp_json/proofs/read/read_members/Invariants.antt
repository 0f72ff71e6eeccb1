use Rattle.std.proofs.Common.{◌≡◌, take, Some}
use Rattle.usp_json.specs.Spells.{given}
use Rattle.usp_json.specs.Machine.{run, start, state_of}
use Rattle.usp_json.proofs.read.read_members.Given as goal

-- the machine has run over the bytes so far
abbrev pub invariant-loop-i : goal.invariant-loop-i
invariant-loop-i l = run given start (take l.i l.text) ≡ Some (state_of l.expect l.got.items l.frames.items)
