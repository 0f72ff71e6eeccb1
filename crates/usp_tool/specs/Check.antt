-- What `check` writes.
pub mod Line
pub mod Verdicts
use Rattle.std.specs.Prelude.{◌≡◌, ℕ, ◌+◌, List, [], ◌∷◌, ◌++◌, Option, Some, None}
use Rattle.usp_conf.specs.Values.{ConfValue}
use Rattle.usp_nonce.specs.History.{Call, IsLegal}
use Rattle.usp_rules.specs.Asks.{AskValue}
use Rattle.usp_rules.specs.declared.profile.Profile.{Profile}
use Rattle.usp_tool.specs.Check.Line.{ask_of}
use Rattle.usp_tool.specs.Check.Verdicts.{Decides, status_with, verdict_line}
use Rattle.usp_tool.specs.Outcome.{Outcome, empty, line_refusal}
use Rattle.usp_tool.specs.declared.check.verdict.Verdict.{Verdict}

abbrev pub with_verdict : ℕ → Verdict → Outcome → Outcome
with_verdict number verdict more =
    record {
      text = verdict_line number verdict ++ more.text;
      status = status_with verdict more.status;
    }

-- The outcome of lines, the first of which has this number, after the nonce calls before them, and all the calls
-- behind them. A line of another form is refused, and none behind it is judged.
mutual
  pub data Checks (profile : Profile) (room : ℕ)
      : ℕ → List Call → List (List ℕ) → Outcome → List Call → Type 0 where
    done : (number : ℕ) (calls after : List Call) (outcome : Outcome) → outcome ≡ empty
        → after ≡ calls → Checks profile room number calls [] outcome after
    line : (number : ℕ) (calls after : List Call) (line : List ℕ) (lines : List (List ℕ))
        (outcome : Outcome) → ChecksAsk profile room number calls (ask_of line) lines outcome after
        → Checks profile room number calls (line ∷ lines) outcome after

  pub data ChecksAsk (profile : Profile) (room : ℕ)
      : ℕ → List Call → Option AskValue → List (List ℕ) → Outcome → List Call → Type 0 where
    stops : (number : ℕ) (calls after : List Call) (lines : List (List ℕ)) (outcome : Outcome)
        → outcome ≡ line_refusal number → after ≡ calls
        → ChecksAsk profile room number calls None lines outcome after
    decides : (number : ℕ) (calls between after : List Call) (ask : AskValue)
        (lines : List (List ℕ)) (outcome more : Outcome) (verdict : Verdict)
        → Decides profile room ask calls verdict between
        → Checks profile room (number + 1) between lines more after
        → outcome ≡ with_verdict number verdict more
        → ChecksAsk profile room number calls (Some ask) lines outcome after

-- The lines are judged with one nonce table, whose calls are a legal history.
pub record IsChecked (conf : ConfValue) (lines : List (List ℕ)) (outcome : Outcome) : Type 0 where
  pub history : List Call
  pub legal : IsLegal conf.room history
  pub checks : Checks conf.site.profile conf.room 1 [] lines outcome history
