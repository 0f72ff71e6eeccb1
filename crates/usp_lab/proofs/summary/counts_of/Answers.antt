use Rattle.std.proofs.Common.{rules}
use Rattle.usp_lab.proofs.Counting.{IsReadOff, told_counts}
use Rattle.usp_lab.proofs.summary.counts_of.Goals as goal

pub returns : goal.returns
returns c =
    let report = c.args.report.now in
    let off : IsReadOff report c.rows-asks.result.now c.admitted_in.result c.denied_in.result c.from.result c.from-2.result c.from-3.result
    = record {
      rows = c.rows-asks.ensures;
      passed = c.admitted_in.ensures;
      refused = c.denied_in.ensures;
      at_first = search rules;
      at_second = search rules;
      issued = search rules;
    } in
    λ run told. told_counts c.args.groups run report c.rows-asks.result.now c.admitted_in.result c.denied_in.result c.from.result c.from-2.result c.from-3.result off told
