use Rattle.std.proofs.Common.{sym, ◌∙◌}
use Rattle.usp_uri.proofs.OneResult.{removed_only}
use Rattle.usp_uri.proofs.laws.dot_segments_are_removed_in_one_way.Goals as goal

pub returns : goal.returns
returns c = λ path one other slash first second. removed_only path one slash first ∙ sym (removed_only path other slash second)
