-- What a container text is read as.
use Rattle.std.specs.Prelude.{◌≡◌, ℕ, List, ◌++◌, codes, Option, Some, None}
use Rattle.usp_ere.specs.Expression.{Expr, Finds}
use Rattle.usp_ere.specs.declared.ere.Ere.{Ere}
use Rattle.usp_ere.specs.Compiled.{Compiles, expression_of}
use Rattle.usp_rules.specs.Segment.{segment_of}
use Rattle.usp_rules.specs.declared.container.Container.{Container}
use Rattle.usp_rules.specs.declared.container.Container.TheVariants.{Hash, Regex, Refused}

-- The text is `hash:` and a segment, or `regex:` and an expression, or refused, which meets nothing.
abbrev pub ReadsAs : List ℕ → Container → Type 0
ReadsAs text (Hash segment) = text ≡ codes "hash:" ++ segment.now
ReadsAs text (Regex ere) =
    (expression : List ℕ) × (text ≡ codes "regex:" ++ expression)
    × Compiles expression (expression_of ere)
ReadsAs text Refused =
    ((segment : List ℕ) → text ≡ codes "hash:" ++ segment → ⊥)
    × ((expression : List ℕ) (e : Expr) → text ≡ codes "regex:" ++ expression
    → Compiles expression e → ⊥)

-- The URI is met by what a container text is read as.
abbrev pub MeetsAs : Container → List ℕ → Type 0
MeetsAs (Hash segment) uri = segment.now ≡ segment_of uri
MeetsAs (Regex ere) uri = Finds (expression_of ere) uri
MeetsAs Refused uri = ⊥

-- The text's expression, and none where it has a fault or is too large.
abbrev pub IsCompiled : List ℕ → Option Ere → Type 0
IsCompiled text None = (e : Expr) → Compiles text e → ⊥
IsCompiled text (Some ere) = Compiles text (expression_of ere)
