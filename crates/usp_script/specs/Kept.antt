-- What each draft keeps.
use Rattle.std.specs.Prelude.{◌≡◌, ℕ, ◌<◌, ◌^◌, length}
use Rattle.usp_script.specs.Drafts.{Draft, rounds_of, script_of}
use Rattle.usp_script.specs.Script.{IsScript, asks_in, grants_in}

-- What stands so far is a script, the number of its grants and that of the asks of the rounds that are over are at
-- hand, and each token may be named by a label.
pub record IsDraft (draft : Draft) (grants asks : ℕ) : Type 0 where
  pub script : IsScript (script_of draft)
  pub granted : grants ≡ length (grants_in (rounds_of draft))
  pub issued : asks ≡ asks_in draft.rounds
  pub few : length draft.outsides < 2 ^ 32
