-- The token that an ask carries.
use Rattle.std.specs.Prelude.{ℕ, List, Option, Some, None}
use Rattle.std.specs.Option.{option_and_then}
use Rattle.usp_script.specs.Script.{ScriptValue, grants_in, numbered}
use Rattle.usp_script.specs.declared.ask.Carried.{Carried}
use Rattle.usp_script.specs.declared.ask.Carried.TheVariants.{InCookie, InQuery, Nothing}
use Rattle.usp_script.specs.declared.ask.Label.{Label}
use Rattle.usp_script.specs.declared.ask.Label.TheVariants.{Granted, Issued, Outside}

-- the label of the token that is carried
abbrev pub label_in : Carried → Option Label
label_in Nothing = None
label_in (InQuery label) = Some label
label_in (InCookie label) = Some label

-- the token of a label, where the asks so far issued these
abbrev pub token_for : ScriptValue → (issued : List (Option (List ℕ))) → Label → Option (List ℕ)
token_for script issued (Granted number) = numbered (grants_in script.rounds) number
token_for script issued (Outside number) = numbered script.outsides number
token_for script issued (Issued number) = option_and_then (λ token. token) (numbered issued number)

-- The token that an ask carries. It carries none where the ask that it names issued none.
abbrev pub carried_token : ScriptValue → (issued : List (Option (List ℕ))) → Carried → Option (List ℕ)
carried_token script issued carried = option_and_then (token_for script issued) (label_in carried)
