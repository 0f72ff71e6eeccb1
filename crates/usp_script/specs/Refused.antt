-- What a refusal says of lines.
use Rattle.std.specs.Prelude.{ℕ, Result, Err}
use Rattle.usp_script.specs.declared.fault.ScriptFault.{ScriptFault}
use Rattle.usp_script.specs.declared.fault.ScriptFault.TheVariants.{Line}

-- where a line is refused, its number has that
abbrev pub IfLine : {X : Type 0} → Result X ScriptFault → (ℕ → Type 0) → Type 0
IfLine (Err (Line number)) P = P number
IfLine other P = Unit {0}
