use Rattle.std.proofs.Common.{◌∙◌, sym, subst, arith}
use Rattle.std.specs.Prelude.{All}
use Rattle.usp_conf.specs.Values.{IsConf}
use Rattle.usp_script.proofs.Kept.{kept}
use Rattle.usp_script.proofs.generator.generated.Goals as goal

pub new-requires-2 : goal.new-requires-2
new-requires-2 c =
    let two = c.in_ok-edges.ensures.two in
    kept _ _ _ _ two.0 two.1 c.args.groups (omega arith) (subst (All IsConf) (sym c.of.ensures) c.in_ok-edges.ensures.confs) (c.of.ensures ∙ two.4) (c.of-3.ensures ∙ c.new.ensures.items) (c.of-4.ensures ∙ c.in_ok-rounds.ensures)
