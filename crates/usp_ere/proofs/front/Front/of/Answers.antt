use Rattle.usp_ere.proofs.PlanLemmas.{front_byte, front_any, front_set}
use Rattle.usp_ere.proofs.front.Front.of.Goals as goal

pub returns-clause-one : goal.returns-clause-one
returns-clause-one c = λ d h. front_byte c.args.bytes d h

pub returns-clause-each : goal.returns-clause-each
returns-clause-each c = λ h. front_any c.args.bytes h

pub returns-clause-some : goal.returns-clause-some
returns-clause-some c = λ negated elements h. front_set c.args.bytes negated elements h
