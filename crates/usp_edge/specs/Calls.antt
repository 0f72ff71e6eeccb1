-- Nonce calls with the places that were answered.
use Rattle.std.specs.Prelude.{◌≡◌, ℕ, ◌+◌, List, [], ◌∷◌, map}
use Rattle.usp_nonce.specs.History.{Call}
use Rattle.usp_nonce.specs.Nonces.{Nonce}
use Rattle.usp_nonce.specs.Stands.{call_of}
use Rattle.usp_nonce.specs.declared.answer.Turned.{Turned}

-- a call, and the place in the history that was answered
pub record Placed : Type 0 where
  pub place : ℕ
  pub call : Call

-- the call that asked this and was answered so
abbrev pub placed : Nonce → (now until : ℕ) → Turned → Placed
placed nonce now until turned = record { place = turned.place; call = call_of nonce now until turned }

-- what was answered
abbrev pub turned_of : Placed → Turned
turned_of of = record { place = of.place; moment = of.call.moment; answer = of.call.answer }

abbrev pub calls_of : List Placed → List Call
calls_of all = map (λ of. of.call) all

-- The places are the numbers from that one on.
abbrev pub ArePlaces : (from : ℕ) → List Placed → Type 0
ArePlaces from [] = Unit {0}
ArePlaces from (of ∷ all) = (of.place ≡ from) × ArePlaces (from + 1) all
