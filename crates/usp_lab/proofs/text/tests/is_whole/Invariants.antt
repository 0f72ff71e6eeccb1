use Rattle.std.proofs.Common.{take}
use Rattle.std.specs.List.{All}
use Rattle.usp_lab.specs.Telling.{IsAmong}
use Rattle.usp_lab.proofs.text.tests.is_whole.Given as goal

-- each ask so far is among them
abbrev pub invariant-asks : goal.invariant-asks
invariant-asks l = All (IsAmong l.edges l.tokens) (take l.ask-index l.ask-items)
