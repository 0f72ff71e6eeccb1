use Rattle.std.proofs.Common.{◌∙◌, sym}
use Rattle.usp_json.proofs.Frames.{name_here, name_passed}
use Rattle.usp_json.proofs.steps.has_name.Goals as goal

pub returns-then-is_name : goal.returns-then-is_name
returns-then-is_name c = name_here c.args.name.now c.name_at.result.now c.args.names.now c.loop-i.i c.name_at.ensures c.loop-i.invariant (sym c.is_name.ensures ∙ c.if-is_name.true)

pub loop-i-preserved : goal.loop-i-preserved
loop-i-preserved c = name_passed c.args.name.now c.name_at.result.now c.args.names.now c.loop-i.i c.name_at.ensures c.loop-i.invariant (sym c.is_name.ensures ∙ c.if-is_name.false)
