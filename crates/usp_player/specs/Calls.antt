-- What the parts of a player answer.
use Rattle.std.specs.Prelude.{◌≡◌, ◌⊎◌, ℕ, List, Option, Some, None, Result, Ok, Err}
use Rattle.url.specs.Parts.{Parts}
use Rattle.url.specs.Parser.{IsOutOfRoom, Parsed}
use Rattle.url.specs.declared.error.ParseError.{ParseError}
use Rattle.usp_base.specs.Links.{asked_with, grown}
use Rattle.usp_base.specs.declared.link.Asked.{Asked}
use Rattle.usp_http.specs.Hearing.{Hears, HearsNothing}
use Rattle.usp_http.specs.declared.heard.Heard.{Heard}
use Rattle.usp_player.specs.declared.fault.PlayFault.{PlayFault}
use Rattle.usp_player.specs.declared.fault.PlayFault.TheVariants as fault

-- A URL of 4 GB counts as want of memory.
abbrev pub IsUrlFault : ParseError → PlayFault → Type 0
IsUrlFault e found = (IsOutOfRoom e × (found ≡ fault.NoMemory)) ⊎ ((IsOutOfRoom e → ⊥) × (found ≡ fault.BadUri))

abbrev pub url_or_bad : Parsed Parts → Result Parts PlayFault
url_or_bad (Ok url) = Ok url
url_or_bad (Err e) = Err fault.BadUri

-- The answer is the URL that is meant, or there was no memory.
abbrev pub GivesUrl : Result Parts PlayFault → (meant : Parsed Parts) → Type 0
GivesUrl answer meant = (answer ≡ Err fault.NoMemory) ⊎ (answer ≡ url_or_bad meant)

-- what a link tells behind one ask, and what is heard in the answer
abbrev pub Exchanges : (told now : Option (List Asked)) → (address head : List ℕ) → Result Heard PlayFault → Type 0
Exchanges told now address head (Ok reply) =
    (bytes : List ℕ) × (now ≡ grown told (asked_with address head (Some bytes))) × Hears bytes reply
Exchanges told now address head (Err fault.LinkFault) = now ≡ grown told (asked_with address head None)
Exchanges told now address head (Err fault.BadReply) =
    (bytes : List ℕ) × (now ≡ grown told (asked_with address head (Some bytes))) × HearsNothing bytes
Exchanges told now address head (Err fault.NoMemory) =
    (now ≡ told) ⊎ ((bytes : List ℕ) × (now ≡ grown told (asked_with address head (Some bytes))))
Exchanges told now address head (Err other) = ⊥
