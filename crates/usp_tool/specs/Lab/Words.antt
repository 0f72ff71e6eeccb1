-- The words of `lab` and of `lab-from`.
use Rattle.std.specs.Prelude.{ℕ, List, [], ◌∷◌, codes, Option, None, if◌then◌else◌}
use Rattle.std.specs.Str.{bytes_eq}
use Rattle.usp_lab.specs.declared.limits.TheConstants.{MAX_WORKERS}
use Rattle.usp_script.specs.declared.limits.TheConstants.{MAX_GROUPS}
use Rattle.usp_tool.specs.Edge.Words.{count_of}

-- `lab WORKERS`: by how many workers the script of the input is run
abbrev pub workers_of : List (List ℕ) → Option ℕ
workers_of (word ∷ workers ∷ []) =
    if bytes_eq word (codes "lab") then count_of MAX_WORKERS workers else None
workers_of other = None

-- `lab-from N`: of how many groups the script is made
abbrev pub groups_of : List (List ℕ) → Option ℕ
groups_of (word ∷ groups ∷ []) =
    if bytes_eq word (codes "lab-from") then count_of MAX_GROUPS groups else None
groups_of other = None
