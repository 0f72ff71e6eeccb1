use Rattle.usp_rules.proofs.Segments.{length-segment, segment_ascii}
use Rattle.usp_rules.proofs.laws.segments_are_ascii.Goals as goal

pub returns-clause-ascii : goal.returns-clause-ascii
returns-clause-ascii c = segment_ascii

pub returns-clause-length : goal.returns-clause-length
returns-clause-length c = length-segment
