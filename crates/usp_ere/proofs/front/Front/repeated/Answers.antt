use Rattle.std.proofs.Common.{sym, subst}
use Rattle.usp_ere.specs.Expression.{repeat}
use Rattle.usp_ere.specs.Plans.{IsFront}
use Rattle.usp_ere.proofs.PlanLemmas.{front_repeat}
use Rattle.usp_ere.proofs.front.Front.repeated.Goals as goal

pub returns : goal.returns
returns c = λ x most f.
    subst (λ e. IsFront e c.args.self.bytes (repeat x c.args.least most)) (sym c.one_holds.ensures)
    (front_repeat c.args.self.empty c.args.self.bytes x c.args.least most f)
