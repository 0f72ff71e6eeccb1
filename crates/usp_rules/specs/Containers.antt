-- Which contents a token is for: the URI container, `cdniuc` (RFC 9246 sections 2.1.11 and 2.1.15).
use Rattle.std.specs.Prelude.{◌≡◌, ◌⊎◌, ℕ, List, ◌++◌, codes}
use Rattle.usp_ere.specs.Expression.{Expr, Finds}
use Rattle.usp_ere.specs.Compiled.{Compiles}
use Rattle.usp_rules.specs.Segment.{segment_of}

-- The container is `hash:` and the segment of the URI.
abbrev pub MeetsHash : List ℕ → List ℕ → Type 0
MeetsHash container uri = container ≡ codes "hash:" ++ segment_of uri

-- The container is `regex:` and an expression that finds some part of the URI.
abbrev pub MeetsRegex : List ℕ → List ℕ → Type 0
MeetsRegex container uri =
    (text : List ℕ) × (e : Expr) × (container ≡ codes "regex:" ++ text) × Compiles text e
    × Finds e uri

-- the container meets the URI
abbrev pub Meets : List ℕ → List ℕ → Type 0
Meets container uri = MeetsHash container uri ⊎ MeetsRegex container uri
