-- The bytes of an ask's connection: one request (RFC 9112 sections 2 and 3).
use Rattle.std.specs.Prelude.{◌≡◌, ℕ, ◌≤◌, ◌<◌, true, false, List, [], ◌∷◌, ◌++◌, length, codes, Option, Some, None}
use Rattle.std.specs.List.{list_all}
use Rattle.usp_conf.specs.Values.{ConfValue}
use Rattle.usp_http.specs.declared.head.Head.{Head}
use Rattle.usp_http.specs.declared.head.Method.TheVariants.{Get}
use Rattle.usp_issue.specs.declared.limits.TheConstants.{MAX_TOKEN}
use Rattle.usp_jws.specs.Letters.{is_token_letter}
use Rattle.usp_package.specs.Package.{embedded}
use Rattle.usp_script.specs.Script.{attribute_of}
use Rattle.usp_script.specs.declared.ask.Carried.{Carried}
use Rattle.usp_script.specs.declared.ask.Carried.TheVariants.{InCookie, InQuery, Nothing}
use Rattle.usp_script.specs.declared.ask.LabAsk.{LabAsk}
use Rattle.usp_uri.specs.Components.{after_authority, authority_in, query_in}

-- the URI with a token as its package, where there is one
abbrev pub with_token : (attribute uri : List ℕ) → Option (List ℕ) → List ℕ
with_token attribute uri None = uri
with_token attribute uri (Some token) = embedded attribute uri (query_in uri) token

-- the URI that is asked for
abbrev pub asked_uri : (attribute uri : List ℕ) → Carried → Option (List ℕ) → List ℕ
asked_uri attribute uri Nothing token = uri
asked_uri attribute uri (InQuery label) token = with_token attribute uri token
asked_uri attribute uri (InCookie label) token = uri

-- the pair of a cookie (RFC 6265 section 4.2.1)
abbrev pub cookie_pair : (attribute token : List ℕ) → List ℕ
cookie_pair attribute token = attribute ++ (codes "=" ++ token)

abbrev pub cookie_line : (attribute : List ℕ) → Option (List ℕ) → List ℕ
cookie_line attribute None = []
cookie_line attribute (Some token) = codes "Cookie: " ++ (cookie_pair attribute token ++ codes "\r\n")

abbrev pub cookie_of : (attribute : List ℕ) → Carried → Option (List ℕ) → List ℕ
cookie_of attribute Nothing token = []
cookie_of attribute (InQuery label) token = []
cookie_of attribute (InCookie label) token = cookie_line attribute token

-- the head of an ask at an edge, with the token that it carries, where it carries one
abbrev pub lab_head : ConfValue → LabAsk → Option (List ℕ) → List ℕ
lab_head edge ask token =
    let attribute = attribute_of edge in
    codes "GET " ++ (after_authority (asked_uri attribute ask.uri ask.carried token)
    ++ (codes " HTTP/1.1\r\nHost: " ++ (authority_in ask.uri
    ++ (codes "\r\n" ++ (cookie_of attribute ask.carried token ++ codes "\r\n")))))

-- ---- what is read of it

abbrev pub cookie_values : (attribute : List ℕ) → Option (List ℕ) → List (List ℕ)
cookie_values attribute None = []
cookie_values attribute (Some token) = cookie_pair attribute token ∷ []

-- the values of its Cookie fields
abbrev pub cookies_of : (attribute : List ℕ) → Carried → Option (List ℕ) → List (List ℕ)
cookies_of attribute Nothing token = []
cookies_of attribute (InQuery label) token = []
cookies_of attribute (InCookie label) token = cookie_values attribute token

-- the parts of the head of an ask: a GET without a body, behind which the connection may go on
abbrev pub lab_parts : ConfValue → LabAsk → Option (List ℕ) → Head
lab_parts edge ask token =
    let attribute = attribute_of edge in
    record {
      method = Get;
      target = after_authority (asked_uri attribute ask.uri ask.carried token);
      host = authority_in ask.uri;
      cookies = cookies_of attribute ask.carried token;
      last = false;
      body = false;
    }

-- The text has a token's letters, and is no longer than one that an edge issues.
pub record IsBorne (token : List ℕ) : Type 0 where
  pub some : 0 < length token
  pub letters : list_all is_token_letter token ≡ true
  pub short : length token ≤ MAX_TOKEN
