use Rattle.std.proofs.Common.{map, take}
use Rattle.usp_lab.specs.Asked.{AreHeads}
use Rattle.usp_lab.proofs.running.heads.heads_of.Given as goal

abbrev pub invariant-asks : goal.invariant-asks
invariant-asks l =
    AreHeads l.named.script.now l.named.issued.now (take l.ask-index l.asks) (map (λ head. head.items) l.heads.items)
