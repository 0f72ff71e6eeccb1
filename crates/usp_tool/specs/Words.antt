-- The words of the command line.
use Rattle.std.specs.Prelude.{ℕ, List, [], ◌∷◌, ◌++◌, codes, Option, Some, None, if◌then◌else◌}
use Rattle.std.specs.Str.{bytes_eq}
use Rattle.usp_base.specs.Lines.{line_feed}
use Rattle.usp_tool.specs.declared.words.Command.{Command as Words}
use Rattle.usp_tool.specs.declared.words.Command.TheVariants as words

-- `check CONF`, and `sign CONF KID`
pub data Command : Type 0 where
  check : List ℕ → Command
  sign : List ℕ → List ℕ → Command

abbrev pub command_of : List (List ℕ) → Option Command
command_of (word ∷ conf ∷ []) = if bytes_eq word (codes "check") then Some (check conf) else None
command_of (word ∷ conf ∷ kid ∷ []) =
    if bytes_eq word (codes "sign") then Some (sign conf kid) else None
command_of other = None

-- a command of the code, its words as bytes
abbrev pub in_bytes : Words → Command
in_bytes (words.Check conf) = check conf.now
in_bytes (words.Sign conf kid) = sign conf.now kid.now

-- the name of the configuration
abbrev pub conf_name : Command → List ℕ
conf_name (check conf) = conf
conf_name (sign conf kid) = conf

-- the line that is printed for other words
abbrev pub usage_line : List ℕ
usage_line =
    codes "usage: usp sign CONF KID | check CONF | lab WORKERS | lab-from N | edge CONF ADDRESS WORKERS CONNECTIONS "
    ++ (codes "FOLDER | play URI MAP"
    ++ line_feed ∷ [])
