-- The components of a URI: how RFC 3986 cuts a text into them (section 3) and puts them together (section 5.3).
use Rattle.std.specs.Prelude.{ℕ, ◌+◌, List, ◌++◌, length, drop, Option, codes}
use Rattle.std.specs.Str.{byte}
use Rattle.usp_uri.specs.Letters.{is_colon, is_hash, ends_authority, ends_path}
use Rattle.usp_uri.specs.Delimited.{until, from_first, after_mark, with_mark}

pub record Components : Type 0 where
  pub scheme : List ℕ
  pub host : List ℕ
  -- what follows the ':' of the authority, which may be nothing
  pub port : Option (List ℕ)
  pub path : List ℕ
  -- what follows the '?', which may be nothing
  pub query : Option (List ℕ)

abbrev pub authority_of : Components → List ℕ
authority_of p = p.host ++ with_mark (byte ":") p.port

-- the path, and the query with its '?'
abbrev pub target_of : Components → List ℕ
target_of p = p.path ++ with_mark (byte "?") p.query

abbrev pub text_of : Components → List ℕ
text_of p = p.scheme ++ (codes "://" ++ (authority_of p ++ target_of p))

-- ---- cutting any text. It means something where the text begins with a scheme and "://".

abbrev pub scheme_in : List ℕ → List ℕ
scheme_in text = until is_colon text

-- where the authority begins
abbrev pub authority_start : List ℕ → ℕ
authority_start text = length (scheme_in text) + 3

abbrev pub after_scheme : List ℕ → List ℕ
after_scheme text = drop (authority_start text) text

abbrev pub authority_in : List ℕ → List ℕ
authority_in text = until ends_authority (after_scheme text)

-- the path, the query and whatever follows
abbrev pub after_authority : List ℕ → List ℕ
after_authority text = from_first ends_authority (after_scheme text)

abbrev pub host_in : List ℕ → List ℕ
host_in text = until is_colon (authority_in text)

abbrev pub port_in : List ℕ → Option (List ℕ)
port_in text = after_mark (from_first is_colon (authority_in text))

abbrev pub path_in : List ℕ → List ℕ
path_in text = until ends_path (after_authority text)

-- from the '?' up to a '#'. A '#' that ends the path leaves no query.
abbrev pub query_in : List ℕ → Option (List ℕ)
query_in text = after_mark (until is_hash (from_first ends_path (after_authority text)))

abbrev pub components_of : List ℕ → Components
components_of text =
    record {
      scheme = scheme_in text;
      host = host_in text;
      port = port_in text;
      path = path_in text;
      query = query_in text;
    }
