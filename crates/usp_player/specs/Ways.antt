-- How far a player is, by what its link tells.
use Rattle.std.specs.Prelude.{◌≡◌, ◌≤◌, ℕ, List, ◌++◌, length, Option, Result, Ok, Err}
use Rattle.std.specs.Option.{option_map}
use Rattle.url.specs.Parts.{Parts}
use Rattle.usp_base.specs.declared.link.Asked.{Asked}
use Rattle.usp_cookie.specs.declared.cookie.Cookie.{Cookie}
use Rattle.usp_http.specs.declared.heard.Heard.{Heard}
use Rattle.usp_player.specs.Playing.{Aim, Next, Played, after_body, after_reply, played, stopped}
use Rattle.usp_player.specs.declared.fault.PlayFault.{PlayFault}
use Rattle.usp_player.specs.declared.fault.PlayFault.TheVariants as fault
use Rattle.usp_player.specs.declared.map.Place.{Place}
use Rattle.usp_player.specs.declared.player.Reached.{Reached}
use Rattle.usp_player.specs.declared.transcript.Step.{Step}

abbrev pub with_asks : (told : Option (List Asked)) → List Asked → Option (List Asked)
with_asks told asks = option_map (λ all. all ++ asks) told

-- What a link tells is more by these asks, which lead so far.
pub record Way (places : List Place) (start : Next) (told now : Option (List Asked)) (steps : List Step) (next : Next)
    : Type 0 where
  pub asks : List Asked
  pub grows : now ≡ with_asks told asks
  pub plays : Played places start asks steps next

-- The same, but at most the last step is missing.
pub record LacksLast (places : List Place) (start : Next) (told now : Option (List Asked)) (steps : List Step)
    : Type 0 where
  pub last : List Step
  pub next : Next
  pub one : length last ≤ 1
  pub way : Way places start told now (steps ++ last) next

-- The player has stopped by this fault. Where there was no memory, it may lack its last step.
abbrev pub Halts : List Place → Next → (told now : Option (List Asked)) → List Step → PlayFault → Type 0
Halts places start told now steps fault.NoMemory = LacksLast places start told now steps
Halts places start told now steps other = Way places start told now steps (stopped other)

-- what is known behind one request
abbrev pub Requests : List Place → Next → (told now : Option (List Asked)) → List Step
    → Parts → (redirections : ℕ) → Aim → List Cookie → Result Heard PlayFault → Type 0
Requests places start told now steps url redirections aim jar (Ok reply) =
    Way places start told now steps (after_reply places url redirections aim reply jar)
Requests places start told now steps url redirections aim jar (Err e) = Halts places start told now steps e

-- what is known behind a request and its redirections
abbrev pub Follows : List Place → Next → (told now : Option (List Asked)) → List Step
    → Aim → List Cookie → Result Reached PlayFault → Type 0
Follows places start told now steps aim jar (Ok reached) =
    Way places start told now steps (after_body places aim jar reached.url reached.body)
Follows places start told now steps aim jar (Err e) = Halts places start told now steps e

-- what is known behind all requests
abbrev pub Plays : List Place → Next → (told now : Option (List Asked)) → List Step → Result Unit PlayFault → Type 0
Plays places start told now steps (Ok done) = Way places start told now steps played
Plays places start told now steps (Err e) = Halts places start told now steps e

-- what `play` answers
abbrev pub Ends : List Place → Next → (told now : Option (List Asked)) → Result (List Step) (List Step × PlayFault)
    → Type 0
Ends places start told now (Ok steps) = Way places start told now steps played
Ends places start told now (Err (steps, e)) = Halts places start told now steps e
