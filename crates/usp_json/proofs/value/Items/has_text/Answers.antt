use Rattle.std.proofs.Common.{◌∙◌, sym}
use Rattle.usp_json.specs.Values.{is_this}
use Rattle.usp_json.proofs.ListLaws.{any_stops, any_goes}
use Rattle.usp_json.proofs.value.Items.has_text.Goals as goal

pub returns-then-is_this : goal.returns-then-is_this
returns-then-is_this c = any_stops (is_this c.args.text.now) c.args.self.now.values c.loop-place.place c.at.result.now c.at.ensures c.loop-place.invariant (sym c.is_this.ensures ∙ c.if-is_this.true)

pub loop-place-preserved : goal.loop-place-preserved
loop-place-preserved c = any_goes (is_this c.args.text.now) c.args.self.now.values c.loop-place.place c.at.result.now c.at.ensures c.loop-place.invariant (sym c.is_this.ensures ∙ c.if-is_this.false)
