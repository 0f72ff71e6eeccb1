use Rattle.std.proofs.Common.{rules, tests, ◌≡◌, IfOk, map, ◌==◌}
use Rattle.std.specs.List.{slice_split}
use Rattle.std.proofs.lemmas.Iterator.Consumers.{map_from_collect}
use Rattle.std.proofs.lemmas.Iterator.Splits.{YieldsList-from_slice_split}
use Rattle.usp_rules.proofs.critical.parts_of.Goals as goal

pub returns : goal.returns
returns c =
    let all : IfOk c.collect.result (λ w. map (λ x. x.now) w.items ≡ slice_split (λ b. b == 44) c.args.text.now) =
    map_from_collect _ c.collect.ensures.ran (YieldsList-from_slice_split _ _ c.args.text.now c.split.ensures.rest c.split.ensures.done c.split.ensures.closure (λ x r q k. search (rules, tests))) in
    rw c.in_ok-collect.was at all
