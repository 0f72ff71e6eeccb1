use Rattle.std.proofs.Common.{◌≤◌, ◌-◌, sym, length, drop, arith}
use Rattle.std.proofs.lemmas.List.{take_all, length-drop}
use Rattle.usp_ere.proofs.ElementLemmas.{read_more}
use Rattle.usp_ere.proofs.elements.elements.Goals as goal

pub loop-at-preserved : goal.loop-at-preserved
loop-at-preserved c =
    let text = c.args.text.now in
    let at = c.loop-at.at in
    let short : length (drop at text) ≤ length text - at = omega (arith, length-drop at text) in
    read_more text c.args.from at c.loop-at.ranged c.is_range-ranged.result _ _ _ _ _ _ c.loop-at.invariant
    (sym (take_all (length text - at) (drop at text) short)) c.loop-at-test.true
    (sym c.in-Member.ensures) c.in_ok-push-in-Member.ensures.items c.is_range-ranged.ensures c.place_behind-at.ensures
