use Rattle.std.proofs.Common.{◌∙◌, sym}
use Rattle.usp_json.proofs.Pairs.{found, passed}
use Rattle.usp_json.specs.Entries.{entries}
use Rattle.usp_json.proofs.value.Members.find.Goals as goal

pub returns-then-eq : goal.returns-then-eq
returns-then-eq c =
    let hit = rw (c.as_bytes.ensures.value, c.text.ensures.same) at (sym c.eq.ensures ∙ c.if-eq.true) in
    found (entries c.args.self.now) c.args.name.now c.at.result.0.now c.loop-i.i c.at.result.1.now c.at.ensures c.loop-i.invariant hit

pub loop-i-preserved : goal.loop-i-preserved
loop-i-preserved c =
    let miss = rw (c.as_bytes.ensures.value, c.text.ensures.same) at (sym c.eq.ensures ∙ c.if-eq.false) in
    passed (entries c.args.self.now) c.args.name.now c.at.result.0.now c.loop-i.i c.at.result.1.now c.at.ensures c.loop-i.invariant miss
