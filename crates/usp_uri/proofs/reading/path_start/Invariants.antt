use Rattle.std.proofs.Common.{◌≡◌, ◌+◌, length}
use Rattle.usp_uri.specs.Delimited.{first_outside}
use Rattle.usp_uri.specs.Components.{authority_start, after_scheme}
use Rattle.usp_uri.specs.Origin.{is_no_path_byte}
use Rattle.usp_uri.proofs.reading.path_start.Given as goal

abbrev pub invariant-loop-rest : goal.invariant-loop-rest
invariant-loop-rest l = (first_outside is_no_path_byte l.place l.rest ≡ first_outside is_no_path_byte (authority_start l.text) (after_scheme l.text)) × (l.place + length l.rest ≡ length l.text)

abbrev pub decreases-loop-rest : goal.decreases-loop-rest
decreases-loop-rest l = length l.rest
