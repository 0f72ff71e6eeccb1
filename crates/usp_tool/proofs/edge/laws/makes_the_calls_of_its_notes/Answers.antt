use Rattle.usp_tool.proofs.Serving.Summing.{sum_at_door, sum_served}
use Rattle.usp_tool.proofs.edge.laws.makes_the_calls_of_its_notes.Goals as goal

pub returns-clause-one : goal.returns-clause-one
returns-clause-one g c = λ conf old new visited.
    sum_served g.N.Nonces.gains conf visited.line old.met new.met visited.ends visited.served

pub returns-clause-all : goal.returns-clause-all
returns-clause-all g c = λ conf. sum_at_door g.N.Nonces.gains conf g.met.N.Nonces.gains_none g.met.N.Nonces.gains_both
