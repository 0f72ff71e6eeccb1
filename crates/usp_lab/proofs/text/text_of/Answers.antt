use Rattle.std.proofs.Common.{List, length, sym, subst}
use Rattle.usp_conf.specs.Values.{ConfValue}
use Rattle.usp_lab.proofs.Showing.{all_shown, report_whole}
use Rattle.usp_lab.specs.Telling.{IsWhole}
use Rattle.usp_lab.proofs.text.text_of.Goals as goal

pub report_text-requires : goal.report_text-requires
report_text-requires c =
    let script = c.args.script.now in
    let told = c.requires in
    subst (λ (edges : List ConfValue). IsWhole (length edges) c.args.report.now) (sym c.edges.ensures.edges)
    (report_whole script told.1 told.0 c.args.report.now c.edges.ensures.script told.2 told.3)

pub returns : goal.returns
returns c =
    all_shown (λ text. text.items) c.report_text.result c.args.script.now c.args.report.now c.edges.result.now c.edges.ensures.edges c.edges.ensures.script c.report_text.ensures
