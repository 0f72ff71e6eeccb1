use Rattle.usp_uri.proofs.StandardLaws.{removed_as_told}
use Rattle.usp_uri.proofs.laws.removes_dot_segments_by_the_standard.Goals as goal

pub returns : goal.returns
returns c = removed_as_told
