use Rattle.usp_ere.proofs.PlanLemmas.{front_both}
use Rattle.usp_ere.proofs.front.Front.then.Goals as goal

pub returns : goal.returns
returns c = λ x y f g.
    front_both c.args.self.empty c.args.second.empty c.args.self.bytes c.args.second.bytes c.or.result x y c.or.ensures.first c.or.ensures.second f g
