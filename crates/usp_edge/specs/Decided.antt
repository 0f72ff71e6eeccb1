-- How the notes of an edge are decided, over one history of its nonce calls.
use Rattle.std.specs.Prelude.{◌≡◌, ℕ, List, [], ◌∷◌, ◌++◌, length, map, None}
use Rattle.usp_conf.specs.Values.{ConfValue}
use Rattle.usp_json.specs.declared.value.Members.{Members}
use Rattle.usp_nonce.specs.History.{Call, IsLegal}
use Rattle.usp_rules.specs.Asks.{AskValue}
use Rattle.usp_rules.specs.Judging.{Judges}
use Rattle.usp_rules.specs.declared.judged.Judged.TheVariants as judged
use Rattle.usp_rules.specs.declared.rule.Rule.{Rule}
use Rattle.usp_shared.specs.Places.{AreAllBelow}
use Rattle.usp_edge.specs.Asks.{brought}
use Rattle.usp_edge.specs.Calls.{Placed}
use Rattle.usp_edge.specs.Honest.{turns_in}
use Rattle.usp_edge.specs.Outcomes.{Calls, turn_of, verdict_of}
use Rattle.usp_edge.specs.Seats.{StandIn}
use Rattle.usp_edge.specs.declared.note.Note.{Note}
use Rattle.usp_edge.specs.declared.note.Verdict.TheVariants.{Denied}

-- the note is of this ask
pub record IsOf (conf : ConfValue) (ask : AskValue) (note : Note) : Type 0 where
  pub uri : note.uri ≡ ask.uri
  pub token : note.token ≡ brought conf ask
  pub moment : note.moment ≡ ask.moment

-- How a note is decided. The first of rules 1 to 15 that fails denies it, and no nonce call is made. Where they hold,
-- the nonce call decides it by rules 16 to 18, which is made where the claims have a `jti`; without one it is admitted.
pub data IsDecidedBy (conf : ConfValue) (note : Note) (calls : List Placed) : Type 0 where
  by_rules : (ask : AskValue) (rule : Rule) → IsOf conf ask note → Judges conf.site.profile ask (judged.Denied rule)
      → note.verdict ≡ Denied rule → note.call ≡ None → calls ≡ [] → IsDecidedBy conf note calls
  by_calls : (ask : AskValue) (content token : List ℕ) (members : Members) (key : ℕ) → IsOf conf ask note
      → Judges conf.site.profile ask (judged.Passed content token members key)
      → Calls members content ask.moment calls → note.verdict ≡ verdict_of calls → note.call ≡ turn_of calls
      → IsDecidedBy conf note calls

-- The notes are decided, one after the other, by these nonce calls.
pub data AreDecidedBy (conf : ConfValue) : List Note → List Placed → Type 0 where
  none : AreDecidedBy conf [] []
  more : (note : Note) (notes : List Note) (calls rest : List Placed) → IsDecidedBy conf note calls
      → AreDecidedBy conf notes rest → AreDecidedBy conf (note ∷ notes) (calls ++ rest)

-- The note is decided by nonce calls that stand in the history, each at its place.
pub record IsDecided (conf : ConfValue) (history : List Call) (note : Note) : Type 0 where
  pub calls : List Placed
  pub by : IsDecidedBy conf note calls
  pub stand : StandIn history calls

abbrev pub AreDecided : ConfValue → List Call → List Note → Type 0
AreDecided conf history [] = Unit {0}
AreDecided conf history (note ∷ notes) = IsDecided conf history note × AreDecided conf history notes

-- Each note is decided, over one legal history of n nonce calls, whose places the notes show, each once.
pub record Upholds (conf : ConfValue) (n : ℕ) (notes : List Note) : Type 0 where
  pub history : List Call
  pub legal : IsLegal conf.room history
  pub count : length history ≡ n
  pub decided : AreDecided conf history notes
  pub places : AreAllBelow n (map (λ turned. turned.place) (turns_in notes))
