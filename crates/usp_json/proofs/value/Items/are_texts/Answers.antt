use Rattle.std.proofs.Common.{◌∙◌, sym}
use Rattle.usp_json.specs.Values.{is_text}
use Rattle.usp_json.proofs.ListLaws.{all_stops, all_goes}
use Rattle.usp_json.proofs.value.Items.are_texts.Goals as goal

pub returns-then-not-is_text : goal.returns-then-not-is_text
returns-then-not-is_text c = all_stops is_text c.args.self.now.values c.loop-place.place c.at.result.now c.at.ensures c.loop-place.invariant (sym c.is_text.ensures ∙ c.if-not-is_text.true)

pub loop-place-preserved : goal.loop-place-preserved
loop-place-preserved c = all_goes is_text c.args.self.now.values c.loop-place.place c.at.result.now c.at.ensures c.loop-place.invariant (sym c.is_text.ensures ∙ c.if-not-is_text.false)
