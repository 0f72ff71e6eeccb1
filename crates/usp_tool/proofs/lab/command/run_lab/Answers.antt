use Rattle.usp_tool.proofs.Headlines.Printed.{shown_run}
use Rattle.usp_tool.proofs.lab.command.run_lab.Goals as goal

pub returns-clause-headline : goal.returns-clause-headline
returns-clause-headline g c = shown_run _ _ _ _ c.run_input.ensures.shows
