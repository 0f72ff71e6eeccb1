-- What the program writes for a command, a configuration and an input.
use Rattle.std.specs.Prelude.{◌≡◌, ◌⊎◌, ℕ, List, codes, Option, Some, None, IfSome, MatchBool}
use Rattle.usp_conf.specs.Readings.{Configures, RefusesConf}
use Rattle.usp_conf.specs.Values.{ConfValue}
use Rattle.usp_conf.specs.declared.fault.ConfFault.{ConfFault}
use Rattle.usp_conf.specs.declared.fault.ConfFault.TheVariants as fault
use Rattle.usp_tool.specs.Check.{IsChecked}
use Rattle.usp_base.specs.Lines.{lines_of}
use Rattle.usp_tool.specs.Input.{is_long_input}
use Rattle.usp_tool.specs.Job.{JobValue, checking, job_of, signing}
use Rattle.usp_tool.specs.Outcome.{IsConfRefusal, Outcome, refusal}
use Rattle.usp_tool.specs.Sign.{SignsAll}
use Rattle.usp_tool.specs.Words.{Command}

-- the lines are judged, or signed
abbrev pub Works : JobValue → List (List ℕ) → Outcome → Type 0
Works (checking conf) lines outcome = IsChecked conf lines outcome
Works (signing attribute key) lines outcome = SignsAll attribute key 1 lines outcome

-- an input that is too long, or has too long a line, is refused
abbrev pub WorksInput : JobValue → List ℕ → Outcome → Type 0
WorksInput job input outcome =
    MatchBool (is_long_input input) (outcome ≡ refusal (codes "input"))
    (Works job (lines_of input) outcome)

-- The configuration is refused, or has no key of the name that the command gives. The input is not read then.
abbrev pub IsRefusedUnread : Command → List ℕ → Type 0
IsRefusedUnread command conf =
    ((found : ConfFault) × RefusesConf found conf × (found ≡ fault.NoMemory → ⊥))
    ⊎ ((value : ConfValue) × Configures conf value × (job_of command value ≡ None))

-- The outcome of a command and a configuration, and of the input where it is read: what is left to be read is that,
-- if it is told.
pub data HasOutcome (command : Command) (conf : List ℕ) (left : Option (List ℕ)) (outcome : Outcome)
    : Type 0 where
  no_conf : (found : ConfFault) → RefusesConf found conf → IsConfRefusal found outcome
      → HasOutcome command conf left outcome
  no_key : (value : ConfValue) → Configures conf value → job_of command value ≡ None
      → outcome ≡ refusal (codes "key") → HasOutcome command conf left outcome
  works : (value : ConfValue) (job : JobValue) (input : List ℕ) → Configures conf value
      → job_of command value ≡ Some job → IfSome left (λ bytes. bytes ≡ input)
      → WorksInput job input outcome → HasOutcome command conf left outcome
