use Rattle.std.proofs.Common.{sym, subst}
use Rattle.usp_ere.specs.Expression.{either}
use Rattle.usp_ere.specs.Plans.{IsFront}
use Rattle.usp_ere.proofs.PlanLemmas.{front_either}
use Rattle.usp_ere.proofs.front.Front.or.Goals as goal

pub returns : goal.returns
returns c = λ x y f g.
    subst (λ e. IsFront e c.or.result (either x y)) (sym c.one_holds.ensures)
    (front_either c.args.self.empty c.args.second.empty c.args.self.bytes c.args.second.bytes c.or.result x y c.or.ensures.first c.or.ensures.second f g)
