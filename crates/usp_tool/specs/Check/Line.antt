-- A line of `check`: a moment, a URI, and the token of a cookie or none.
use Rattle.std.specs.Prelude.{ℕ, ◌-◌, ◌==◌, List, [], ◌∷◌, length, Option, Some, None, if◌then◌else◌}
use Rattle.std.specs.List.{slice_split}
use Rattle.std.specs.Option.{option_map}
use Rattle.usp_base.specs.Numbers.{number_of}
use Rattle.usp_rules.specs.Asks.{AskValue}
use Rattle.usp_base.specs.declared.limits.TheConstants.{MOMENT_BOUND}

abbrev pub space : ℕ
space = 32

-- the ask at a moment that is a number below the bound, for a URI that is not empty
abbrev pub ask_at : List ℕ → List ℕ → Option (List ℕ) → Option AskValue
ask_at moment uri cookie =
    if length uri == 0 then None
    else option_map (λ at. record { uri = uri; cookie = cookie; moment = at })
    (number_of (MOMENT_BOUND - 1) moment)

-- the same with a token that is not empty
abbrev pub ask_with : List ℕ → List ℕ → List ℕ → Option AskValue
ask_with moment uri token = if length token == 0 then None else ask_at moment uri (Some token)

-- two fields or three
abbrev pub ask_from : List (List ℕ) → Option AskValue
ask_from (moment ∷ uri ∷ []) = ask_at moment uri None
ask_from (moment ∷ uri ∷ token ∷ []) = ask_with moment uri token
ask_from fields = None

-- the ask of a line, whose fields one space parts
abbrev pub ask_of : List ℕ → Option AskValue
ask_of line = ask_from (slice_split (λ b. b == space) line)
