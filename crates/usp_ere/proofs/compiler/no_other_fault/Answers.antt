use Rattle.usp_ere.proofs.Agree.{spelled_without_fault}
use Rattle.usp_ere.proofs.compiler.no_other_fault.Goals as goal

pub returns : goal.returns
returns c = spelled_without_fault
