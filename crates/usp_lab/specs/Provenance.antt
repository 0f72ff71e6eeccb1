-- Where the tokens of a run come from.
use Rattle.std.specs.Prelude.{◌≡◌, ℕ, ◌+◌, List, [], ◌∷◌, Some, slice_get, take}
use Rattle.usp_edge.specs.Calls.{Placed}
use Rattle.usp_edge.specs.declared.note.Verdict.TheVariants.{Admitted}
use Rattle.usp_json.specs.declared.value.Members.{Members}
use Rattle.usp_nonce.specs.declared.answer.Answer.TheVariants.{Taken}
use Rattle.usp_rules.specs.Tokens.{CarriesClaims}
use Rattle.usp_script.specs.Script.{ScriptValue, grants_in, sites_of}
use Rattle.usp_script.specs.declared.ask.Label.TheVariants.{Issued}
use Rattle.usp_trace.specs.Chains.{first_place}
use Rattle.usp_trace.specs.Grants.{GrantMet}
use Rattle.usp_trace.specs.Issues.{parent_of, token_of, use_at}
use Rattle.usp_trace.specs.Sound.{Sound}
use Rattle.usp_trace.specs.declared.issue.Issue.{Issue}
use Rattle.usp_trace.specs.declared.issue.Issue.TheVariants.{Grant, Renewed, Resigned}
use Rattle.usp_lab.specs.Entries.{Entry, Run, content_of, issue_of, ledger_of, served_in}
use Rattle.usp_lab.specs.Rounds.{Served, issued_by}
use Rattle.usp_lab.specs.Tokens.{token_for}

-- the tokens of the grants of a ledger
abbrev pub grants_of : List Issue → List (List ℕ)
grants_of [] = []
grants_of (Grant token ∷ ledger) = token ∷ grants_of ledger
grants_of (Renewed parent edge uri moment token ∷ ledger) = grants_of ledger
grants_of (Resigned parent edge uri moment route token ∷ ledger) = grants_of ledger

-- the ledger as the round of an ask began
abbrev pub ledger_before : Run → Served → List Issue
ledger_before run served = take served.known (ledger_of run.entries)

-- The ask was admitted, with a token that stands first at this place of the ledger as its round began.
pub record IsTraced (run : Run) (served : Served) (place : ℕ) : Type 0 where
  pub admitted : served.note.verdict ≡ Admitted
  pub token : List ℕ
  pub brought : served.note.token ≡ Some token
  pub first : first_place token (ledger_before run served) ≡ Some place

-- each call took its nonce
abbrev pub AreTaken : List Placed → Type 0
AreTaken [] = Unit {0}
AreTaken (of ∷ calls) = (of.call.answer ≡ Taken) × AreTaken calls

-- What stands in the ledger is what this ask brought to it, behind a nonce call that took the nonce, where it made one.
pub record IsOwned (run : Run) (entry : Entry) : Type 0 where
  pub number : ℕ
  pub served : Served
  pub at : slice_get (served_in run) number ≡ Some served
  pub label : entry.label ≡ Issued (number + 1)
  pub issue : issue_of (ledger_before run served) served ≡ Some entry.issue
  pub taken : AreTaken served.calls

-- The ledger of a run is sound, and its grants are the script's, in order. The label of each place stands in the script
-- for the token of the place. Each admitted ask whose token is in the ledger met the grant from which the token comes.
-- What was issued is what an ask issued that took its nonce, where it asked for one.
pub record IsProvenance (script : ScriptValue) (run : Run) : Type 0 where
  pub sound : Sound (ledger_of run.entries) (sites_of script.edges)
  pub grants : grants_of (ledger_of run.entries) ≡ grants_in script.rounds
  pub labels : (place : ℕ) (entry : Entry) → slice_get run.entries place ≡ Some entry
      → token_for script (issued_by (served_in run)) entry.label ≡ Some (token_of entry.issue)
  pub met : (number place : ℕ) (served : Served) → slice_get (served_in run) number ≡ Some served
      → IsTraced run served place → (content : List ℕ) × (content_of served.edge served.note ≡ Some content)
      × GrantMet (ledger_before run served) (sites_of script.edges) place
      (use_at served.ask.edge content served.ask.moment)
  pub owned : (place parent : ℕ) (entry : Entry) → slice_get run.entries place ≡ Some entry
      → parent_of entry.issue ≡ Some parent → IsOwned run entry

-- ---- chains

-- A token stands at the place, with these claims.
pub record HasClaimsAt (entries : List Entry) (place : ℕ) : Type 0 where
  pub entry : Entry
  pub members : Members
  pub at : slice_get entries place ≡ Some entry
  pub claims : CarriesClaims (token_of entry.issue) members
