-- The first two sentences of the headline, of the requests of one edge.
use Rattle.std.specs.Prelude.{◌≡◌, ◌<◌, ◌↔◌, ℕ, false, List, [], ◌∷◌, ◌++◌, length, take, Some}
use Rattle.std.specs.List.{list_any}
use Rattle.usp_conf.specs.Values.{ConfValue}
use Rattle.usp_edge.specs.Calls.{Placed}
use Rattle.usp_edge.specs.Decided.{IsOf}
use Rattle.usp_edge.specs.Outcomes.{Calls, turn_of}
use Rattle.usp_edge.specs.Seats.{StandIn}
use Rattle.usp_edge.specs.declared.note.Note.{Note}
use Rattle.usp_edge.specs.declared.note.Verdict.{Verdict}
use Rattle.usp_edge.specs.declared.note.Verdict.TheVariants.{Admitted, Denied}
use Rattle.usp_json.specs.declared.value.Members.{Members}
use Rattle.usp_nonce.specs.History.{Call, IsLegal, calls_in_force}
use Rattle.usp_nonce.specs.Laws.{TakesNoNonceTwice}
use Rattle.usp_nonce.specs.Nonces.{is_same_nonce}
use Rattle.usp_rules.specs.Asks.{AskValue}
use Rattle.usp_rules.specs.Judging.{Judges}
use Rattle.usp_rules.specs.Rules.{AllHold, Breaks, First, Holds, rules_of_ask}
use Rattle.usp_rules.specs.declared.judged.Judged.TheVariants.{Passed}
use Rattle.usp_rules.specs.declared.profile.Profile.{Profile}
use Rattle.usp_rules.specs.declared.rule.Rule.{Rule}
use Rattle.usp_rules.specs.declared.rule.Rule.TheVariants as rule
use Rattle.usp_shared.specs.Places.{AreAllBelow}

-- ---- every rule

-- What rules 16 to 18 want of a nonce call behind the calls before it: the moment is before the end of its window, no
-- call in force has its nonce, and there is room.
abbrev pub NonceMeets : Rule → (room : ℕ) → (before : List Call) → Call → Type 0
NonceMeets rule.Late room before call = call.moment < call.until
NonceMeets rule.Seen room before call =
    list_any (λ held. is_same_nonce call.nonce held.nonce) (calls_in_force call.moment before) ≡ false
NonceMeets rule.Room room before call = length (calls_in_force call.moment before) < room
NonceMeets other room before call = ⊥

-- the same of a request's nonce call, where it made one, at its place in the history
abbrev pub NonceHolds : Rule → (room : ℕ) → (history : List Call) → List Placed → Type 0
NonceHolds rule room history [] = Unit {0}
NonceHolds rule room history (of ∷ calls) = NonceMeets rule room (take of.place history) of.call

-- The rule holds of a request: of its URI, claims and moment, or of its nonce.
abbrev pub RuleHolds : ConfValue → (history : List Call) → AskValue → List Placed → Rule → Type 0
RuleHolds conf history ask calls rule.Late = NonceHolds rule.Late conf.room history calls
RuleHolds conf history ask calls rule.Seen = NonceHolds rule.Seen conf.room history calls
RuleHolds conf history ask calls rule.Room = NonceHolds rule.Room conf.room history calls
RuleHolds conf history ask calls other = Holds other conf.site.profile ask

-- rules 1 to 18, in the order in which they are tried
abbrev pub every_rule : List Rule
every_rule = rules_of_ask ++ (rule.Late ∷ rule.Seen ∷ rule.Room ∷ [])

-- ---- the nonce of a request

-- Where one of rules 1 to 15 fails, no nonce call was made. Where they hold and the claims have a `jti`, one was made
-- for that and the content, until `exp`; without a `jti` none was.
pub data HasCalls (profile : Profile) (ask : AskValue) (calls : List Placed) : Type 0 where
  none : (broken : Rule) → First profile ask (Some broken) → calls ≡ [] → HasCalls profile ask calls
  due : (content token : List ℕ) (members : Members) (key : ℕ)
      → Judges profile ask (Passed content token members key) → Calls members content ask.moment calls
      → HasCalls profile ask calls

-- ---- the first sentence

-- The request is admitted exactly if every rule holds of it, and is denied by a rule exactly if that is the first that
-- fails. Its nonce call stands at its place in the history.
pub record AdmitsExactly (conf : ConfValue) (history : List Call) (ask : AskValue) (calls : List Placed)
    (verdict : Verdict) : Type 0 where
  pub has : HasCalls conf.site.profile ask calls
  pub stand : StandIn history calls
  pub admitted : (verdict ≡ Admitted) ↔ AllHold (RuleHolds conf history ask calls) every_rule
  pub denied : (broken : Rule)
      → (verdict ≡ Denied broken) ↔ Breaks (RuleHolds conf history ask calls) every_rule broken

-- The note is of a request that made these nonce calls, and the verdict is the request's.
pub record NotesExactly (conf : ConfValue) (history : List Call) (note : Note) (calls : List Placed) : Type 0 where
  pub ask : AskValue
  pub of : IsOf conf ask note
  pub shown : note.call ≡ turn_of calls
  pub exactly : AdmitsExactly conf history ask calls note.verdict

-- ---- with the second sentence

-- In whatever order threads made so many nonce calls of an edge, they are one legal history, in which each place is
-- shown once. Over it the first sentence holds of each request, and no nonce is taken twice within its window.
pub record InOneHistory (conf : ConfValue) (count : ℕ) (shown : List ℕ) (Each : List Call → Type 0) : Type 0 where
  pub history : List Call
  pub legal : IsLegal conf.room history
  pub counted : length history ≡ count
  pub all : AreAllBelow count shown
  pub each : Each history
  pub once : TakesNoNonceTwice history
