-- The fields behind a word.
use Rattle.std.specs.Prelude.{ℕ, List, Option, Some, None, if◌then◌else◌}
use Rattle.std.specs.Option.{option_and_then}
use Rattle.std.specs.Str.{bytes_eq}
use Rattle.usp_base.specs.Cuts.{cut_at}
use Rattle.usp_script.specs.Reading.{space}

-- what stands behind a word that is the first of a line
abbrev pub behind : (word line : List ℕ) → Option (List ℕ)
behind word line = option_and_then (λ cut. if bytes_eq cut.0 word then Some cut.1 else None) (cut_at space line)
