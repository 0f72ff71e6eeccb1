-- When an input is too long.
use Rattle.std.specs.Prelude.{ℕ, Bool, ◌||◌, nat_lt, List, length}
use Rattle.std.specs.List.{list_any}
use Rattle.usp_base.specs.Lines.{lines_of}
use Rattle.usp_tool.specs.declared.limits.TheConstants.{MAX_INPUT, MAX_LINE}

-- too many bytes, the line end not counted
abbrev pub is_long_line : List ℕ → Bool
is_long_line line = nat_lt MAX_LINE (length line)

-- too many bytes, or such a line among them
abbrev pub is_long_input : List ℕ → Bool
is_long_input input = nat_lt MAX_INPUT (length input) || list_any is_long_line (lines_of input)
