use Rattle.usp_tool.proofs.Headlines.Printed.{headline_of}
use Rattle.usp_tool.proofs.run.run.Goals as goal

pub returns-clause-headline : goal.returns-clause-headline
returns-clause-headline g c = headline_of _ _ _ _ c.obey.ensures.run
