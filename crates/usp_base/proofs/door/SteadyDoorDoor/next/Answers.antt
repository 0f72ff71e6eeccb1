use Rattle.std.proofs.Common.{All, subst}
use Rattle.std.proofs.lemmas.List.Elements.{All-tail}
use Rattle.usp_base.specs.WireMemory.{IsFreshSteadyWire}
use Rattle.usp_base.proofs.door.SteadyDoorDoor.next.Goals as goal

pub invariant_of-self-in-Some-clause-fresh : goal.invariant_of-self-in-Some-clause-fresh
invariant_of-self-in-Some-clause-fresh c =
    All-tail IsFreshSteadyWire c.in-Some.line c.pop_front.new.self.items (subst (λ lines. All IsFreshSteadyWire lines) c.in-Some.ensures.items c.args.self.now.fresh)
