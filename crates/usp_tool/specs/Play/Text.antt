-- What `play` prints: a line for each request that was answered, and how the playing ended.
use Rattle.std.specs.Prelude.{ℕ, ◌+◌, ◌-◌, ◌==◌, List, [], ◌∷◌, ◌++◌, codes, filter, length, Result, Ok, Err}
use Rattle.std.specs.Fmt.{decimal}
use Rattle.usp_base.specs.Lines.{line_feed}
use Rattle.usp_base.specs.declared.fault.Status.{Status}
use Rattle.usp_base.specs.declared.fault.Status.TheVariants as status
use Rattle.usp_player.specs.declared.fault.PlayFault.{PlayFault}
use Rattle.usp_player.specs.declared.fault.PlayFault.TheVariants as fault
use Rattle.usp_player.specs.declared.transcript.Step.{Step}
use Rattle.usp_tool.specs.Check.Line.{space}
use Rattle.usp_tool.specs.Outcome.{Outcome}

-- one request: its number, the status of its reply, whom it asked, and for what
abbrev pub step_line : (number : ℕ) → Step → List ℕ
step_line number step =
    decimal number
    ++ (space ∷ (decimal step.status
    ++ (space ∷ (step.authority ++ (space ∷ (step.path ++ line_feed ∷ []))))))

-- the requests, from that number on
abbrev pub step_lines : (number : ℕ) → List Step → List ℕ
step_lines number [] = []
step_lines number (step ∷ steps) = step_line number step ++ step_lines (number + 1) steps

-- As many segments were played as requests were answered with 200, but for the playlist's own.
abbrev pub segments_in : List Step → ℕ
segments_in steps = length (filter (λ step. step.status == 200) steps) - 1

abbrev pub fault_name : PlayFault → List ℕ
fault_name fault.BadUri = codes "BadUri"
fault_name fault.NoAddress = codes "NoAddress"
fault_name fault.LinkFault = codes "LinkFault"
fault_name fault.BadReply = codes "BadReply"
fault_name fault.NoLocation = codes "NoLocation"
fault_name fault.TooManyHops = codes "TooManyHops"
fault_name fault.Denied = codes "Denied"
fault_name (fault.List bad) = codes "List"
fault_name fault.NoMemory = codes "NoMemory"

abbrev pub fault_status : PlayFault → Status
fault_status fault.Denied = status.Denials
fault_status fault.LinkFault = status.Outside
fault_status fault.NoMemory = status.Memory
fault_status other = status.Refused

abbrev pub outcome_with : List Step → (last_line : List ℕ) → Status → Outcome
outcome_with steps last_line ends =
    record { text = step_lines 1 steps ++ (last_line ++ line_feed ∷ []); status = ends }

-- the text of what was played, and the status behind it
abbrev pub play_outcome : Result (List Step) (List Step × PlayFault) → Outcome
play_outcome (Ok steps) = outcome_with steps (codes "played " ++ decimal (segments_in steps)) status.Done
play_outcome (Err (steps, e)) = outcome_with steps (codes "stopped " ++ fault_name e) (fault_status e)
