use Rattle.usp_conf.specs.Readings.{Configures}
use Rattle.usp_conf.specs.Values.{ConfValue}
use Rattle.usp_script.proofs.reading.edge.edge_in.Goals as goal

pub returns-in_default : goal.returns-in_default
returns-in_default c =
    let none : (edge : ConfValue) → Configures c.args.text.now edge → ⊥ = rw c.in_default.is at c.in_ok-edge.ensures in
    λ edge configures unused. none edge configures
