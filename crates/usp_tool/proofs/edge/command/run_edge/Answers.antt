use Rattle.usp_tool.proofs.Headlines.Printed.{shown_notes}
use Rattle.usp_tool.proofs.edge.command.run_edge.Goals as goal

pub returns-clause-headline : goal.returns-clause-headline
returns-clause-headline g c = shown_notes _ _ _ _ c.run_crew.ensures.run.shows
