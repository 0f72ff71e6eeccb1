use Rattle.usp_tool.proofs.LawsAnswers.{judged, signed}
use Rattle.usp_tool.proofs.laws.lines_in_their_grammar_are_answered.Goals as goal

pub returns-clause-judged : goal.returns-clause-judged
returns-clause-judged c = judged

pub returns-clause-signed : goal.returns-clause-signed
returns-clause-signed c = signed
