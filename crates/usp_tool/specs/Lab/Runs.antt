-- A run of a script, and what is true of it.
use Rattle.std.specs.Prelude.{◌≡◌, ℕ, Bool, true, false, List, length, map, Option, Some, slice_get}
use Rattle.usp_base.specs.declared.fault.Status.{Status}
use Rattle.usp_base.specs.declared.fault.Status.TheVariants.{Denials, Done}
use Rattle.usp_conf.specs.Values.{ConfValue}
use Rattle.usp_lab.specs.Benches.{Used, append_used}
use Rattle.usp_edge.specs.Decided.{Upholds}
use Rattle.usp_lab.specs.Entries.{Run, served_in}
use Rattle.usp_lab.specs.Notes.{notes_at}
use Rattle.usp_lab.specs.Provenance.{IsProvenance}
use Rattle.usp_lab.specs.Reports.{used_by}
use Rattle.usp_lab.specs.Rounds.{calls_at}
use Rattle.usp_lab.specs.Turns.{IsRun}
use Rattle.usp_script.specs.Script.{IsScript, ScriptValue}

-- A script was run by so many workers, and the connections of its asks were given back in their order. The notes of
-- each edge are decided by all rules over the one history of its nonce calls, and each admitted ask whose token is in
-- the ledger met the grant from which the token comes.
pub record Ran (script : ScriptValue) (workers : ℕ) (before after : Option (List Used)) : Type 0 where
  pub fits : IsScript script
  pub run : Run
  pub is : IsRun script workers run
  pub lines : after ≡ append_used before (map used_by (served_in run))
  pub upholds : (place : ℕ) (edge : ConfValue) → slice_get script.edges place ≡ Some edge
      → Upholds edge (length (calls_at place (served_in run))) (notes_at place (served_in run))
  pub provenance : IsProvenance script run

-- the status behind the text of a run
abbrev pub status_by : (denies : Bool) → Status
status_by true = Denials
status_by false = Done
