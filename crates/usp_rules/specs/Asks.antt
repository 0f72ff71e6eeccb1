-- What an ask brings: a token, the content that it is to admit, and the moment.
use Rattle.std.specs.Prelude.{ℕ, Bool, true, false, List, Option, Some, None}
use Rattle.std.specs.Option.{option_and_then, option_map}
use Rattle.std.specs.Result.{result_ok}
use Rattle.usp_package.specs.Package.{Package, nothing, bad, carried, content_of, package_of}
use Rattle.usp_uri.specs.Faults.{normal_of}

-- the URI with its package, the token of a cookie if there is one, and the moment in seconds
pub record AskValue : Type 0 where
  pub uri : List ℕ
  pub cookie : Option (List ℕ)
  pub moment : ℕ

-- the URI has a package, which may be a bad one
abbrev pub has_package : Package → Bool
has_package nothing = false
has_package (bad at) = true
has_package (carried token before after) = true

-- the token of the package, of which a bad one has none, and else that of the cookie
abbrev pub token_in : Package → Option (List ℕ) → Option (List ℕ)
token_in nothing cookie = cookie
token_in (bad at) cookie = None
token_in (carried token before after) cookie = Some token

-- the normal form of what is left of the URI
abbrev pub content_in : List ℕ → Package → Option (List ℕ)
content_in uri pack = option_and_then (λ text. result_ok (normal_of text)) (content_of uri pack)

-- A token, the content if there is one (a URI may lose its normal form with its package), and the moment.
pub record Presented : Type 0 where
  pub token : List ℕ
  pub content : Option (List ℕ)
  pub moment : ℕ

abbrev pub presented_in : AskValue → Package → Option Presented
presented_in ask pack =
    option_map
    (λ token. record { token = token; content = content_in ask.uri pack; moment = ask.moment })
    (token_in pack ask.cookie)

-- what an ask presents, where the package is sought under this name
abbrev pub presented : List ℕ → AskValue → Option Presented
presented attribute ask = presented_in ask (package_of attribute ask.uri)
