-- What a request asks.
use Rattle.std.specs.Prelude.{ℕ, List, Option, map}
use Rattle.usp_conf.specs.Values.{ConfValue}
use Rattle.usp_cookie.specs.Cookies.{first_value, token_of}
use Rattle.usp_http.specs.declared.head.Head.{Head}
use Rattle.usp_package.specs.Package.{package_of}
use Rattle.usp_rules.specs.Asks.{AskValue, token_in}
use Rattle.usp_uri.specs.Origin.{request_text}

-- the name under which a URI, or a cookie, brings its token
abbrev pub attribute_of : ConfValue → List ℕ
attribute_of conf = conf.site.profile.attribute

-- the token of the first Cookie field that has one of this name
abbrev pub cookie_in : (name : List ℕ) → (cookies : List (List ℕ)) → Option (List ℕ)
cookie_in name cookies = first_value (map (token_of name) cookies)

-- What the request with this head asks at a moment. Its URI is made as RFC 9112 section 3.3 does, with the scheme
-- of the edge.
abbrev pub ask_of : ConfValue → Head → (moment : ℕ) → AskValue
ask_of conf head moment = record {
  uri = request_text conf.scheme head.host head.target;
  cookie = cookie_in (attribute_of conf) head.cookies;
  moment = moment;
}

-- the token that an ask brings
abbrev pub brought : ConfValue → AskValue → Option (List ℕ)
brought conf ask = token_in (package_of (attribute_of conf) ask.uri) ask.cookie
