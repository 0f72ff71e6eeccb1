use Rattle.std.proofs.Common.{◌-◌, length, drop, ap, arith}
use Rattle.std.proofs.lemmas.List.{length-drop, length-take}
use Rattle.usp_uri.proofs.DotLemmas.{cut_path}
use Rattle.usp_uri.proofs.segments.count_segments.Goals as goal

pub loop-rest-preserved : goal.loop-rest-preserved
loop-rest-preserved c =
    let rest = c.loop-rest.rest.now in
    let one = cut_path rest c.cut_at_slash.result.0.now c.cut_at_slash.result.1.now c.in-len1-up.len_at_least c.cut_at_slash.ensures.front c.cut_at_slash.ensures.back in
    let two = c.cut_at_slash.ensures.whole in (
      omega (arith, ap length one, c.loop-rest.invariant.0),
      omega (arith, two, length-drop 1 rest, length-take (length rest - 1) (drop 1 rest), c.in-len1-up.len_at_least, c.loop-rest.invariant.1),
    )
