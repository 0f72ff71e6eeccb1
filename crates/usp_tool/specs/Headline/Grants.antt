-- The third sentence of the headline, of the asks of a lab.
use Rattle.std.specs.Prelude.{◌≡◌, ℕ, List, Some, slice_get}
use Rattle.usp_edge.specs.declared.note.Verdict.TheVariants.{Admitted}
use Rattle.usp_lab.specs.Entries.{Run, content_of, ledger_of}
use Rattle.usp_lab.specs.Provenance.{ledger_before}
use Rattle.usp_lab.specs.Rounds.{Served}
use Rattle.usp_script.specs.Script.{ScriptValue, grants_in, sites_of}
use Rattle.usp_trace.specs.Chains.{IsChain, IsIssued, first_place}
use Rattle.usp_trace.specs.Grants.{GrantMet}
use Rattle.usp_trace.specs.Issues.{use_at}

-- The ask traces through renewals and redirections to one grant of the script, whose container, audience and window it
-- met. It was made for the content of its URI, with a token that stands first at this place of the ledger.
pub record TracesToOneGrant (script : ScriptValue) (run : Run) (served : Served) (place : ℕ) : Type 0 where
  pub content : List ℕ
  pub of : content_of served.edge served.note ≡ Some content
  pub met : GrantMet (ledger_before run served) (sites_of script.edges) place
      (use_at served.ask.edge content served.ask.moment)
  pub number : ℕ
  pub granted : slice_get (grants_in script.rounds) number ≡ Some met.token
  pub chain : IsChain (ledger_of run.entries) place met.places
  pub one : (places : List ℕ) → IsChain (ledger_of run.entries) place places → places ≡ met.places

-- Where the ask was admitted with a token that was issued before its round, it traces to one grant.
abbrev pub TracesWhereIssued : ScriptValue → Run → Served → Type 0
TracesWhereIssued script run served =
    served.note.verdict ≡ Admitted → (token : List ℕ) × (served.note.token ≡ Some token)
    × (IsIssued (ledger_before run served) token → (place : ℕ)
    × (first_place token (ledger_before run served) ≡ Some place) × TracesToOneGrant script run served place)
