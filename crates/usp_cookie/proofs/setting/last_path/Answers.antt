use Rattle.std.proofs.Common.{sym, ◌∙◌}
use Rattle.usp_base.proofs.Cutting.{cut_shorter}
use Rattle.usp_cookie.proofs.Settings.{path_last, path_passed}
use Rattle.usp_cookie.proofs.setting.last_path.Goals as goal

pub loop-attribute-preserved : goal.loop-attribute-preserved
loop-attribute-preserved c =
    path_passed c.loop-attribute.found.now c.path_after-found.result.now c.in-Some.attribute.now c.loop-attribute.rest.now c.in-Some.more.now (sym c.in-Some.ensures) c.path_after-found.ensures
    ∙ c.loop-attribute.invariant

pub loop-attribute-smaller : goal.loop-attribute-smaller
loop-attribute-smaller c = cut_shorter 59 c.loop-attribute.rest.now c.in-Some.attribute.now c.in-Some.more.now (sym c.in-Some.ensures)

pub returns : goal.returns
returns c =
    path_last c.loop-attribute.found.now c.path_after.result.now c.loop-attribute.rest.now (sym c.in_default.ensures) c.path_after.ensures
    ∙ c.loop-attribute.invariant
