use Rattle.std.proofs.Common.{sym, subst}
use Rattle.std.specs.Str.{IsUtf8}
use Rattle.usp_rules.proofs.Segments.{segment_text}
use Rattle.usp_rules.proofs.hash.hash_container.Goals as goal

pub from_utf8_unchecked-requires : goal.from_utf8_unchecked-requires
from_utf8_unchecked-requires c = subst IsUtf8 (sym c.segment_of-segment.ensures) (segment_text c.text.result.now)
