use Rattle.usp_tool.proofs.Headlines.Printed.{shown_sums}
use Rattle.usp_tool.proofs.lab.summary.run_lab_from.Goals as goal

pub returns-clause-headline : goal.returns-clause-headline
returns-clause-headline g c = shown_sums _ _ _ _ _ _ c.run_groups.ensures.shows
