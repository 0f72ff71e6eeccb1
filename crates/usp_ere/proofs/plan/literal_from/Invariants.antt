use Rattle.usp_ere.specs.Plans.{IsLed}
use Rattle.usp_ere.proofs.plan.literal_from.Given as goal

abbrev pub invariant-loop : goal.invariant-loop
invariant-loop l = IsLed l.nodes l.node l.literal.items l.behind
