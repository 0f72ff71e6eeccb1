-- The requests of a player (RFC 9112, section 3).
use Rattle.std.specs.Prelude.{ℕ, ◌||◌, Bool, List, [], ◌++◌, codes, Option, Some, None, Err, if◌then◌else◌}
use Rattle.std.specs.Fmt.{decimal}
use Rattle.std.specs.Str.{bytes_eq, is_utf8}
use Rattle.url.specs.Host.{host_text}
use Rattle.url.specs.Parts.{Parts, host_or_empty}
use Rattle.url.specs.Parser.{Parsed, parse_url}
use Rattle.url.specs.declared.error.ParseError.TheVariants.{RelativeUrlWithoutBase}

-- the URL of a text, which may be relative to a base; a text that is not UTF-8 has none
unfoldable pub url_of : (base : Option Parts) → (text : List ℕ) → Parsed Parts
url_of base text = if is_utf8 text then parse_url base text else Err RelativeUrlWithoutBase

abbrev pub is_web : (scheme : List ℕ) → Bool
is_web scheme = bytes_eq scheme (codes "http") || bytes_eq scheme (codes "https")

abbrev pub port_text : Option ℕ → List ℕ
port_text None = []
port_text (Some port) = codes ":" ++ decimal port

-- the host, and the port where the URL keeps one, which it does not where it is the scheme's own
abbrev pub authority_of : Parts → List ℕ
authority_of url = host_text (host_or_empty url) ++ port_text url.port

abbrev pub query_text : Option (List ℕ) → List ℕ
query_text None = []
query_text (Some query) = codes "?" ++ query

abbrev pub cookie_text : Option (List ℕ) → List ℕ
cookie_text None = []
cookie_text (Some cookies) = codes "Cookie: " ++ (cookies ++ codes "\r\n")

-- the head of the request for a URL, with these cookies
unfoldable pub head_of : Parts → (cookies : Option (List ℕ)) → List ℕ
head_of url cookies =
    ((((((codes "GET " ++ url.path) ++ query_text url.query) ++ codes " HTTP/1.1\r\nHost: ") ++ authority_of url)
    ++ codes "\r\n") ++ cookie_text cookies) ++ codes "Connection: close\r\n\r\n"
