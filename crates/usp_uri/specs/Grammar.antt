-- Which texts are URIs of this product: the grammar, by the components. RFC 3986 has `path-abempty` as
-- *( "/" *pchar ) and `query` as *( pchar / "/" / "?" ), with pchar = unreserved / pct-encoded / sub-delims / ":" / "@"
-- (sections 3.3 and 3.4).
use Rattle.std.specs.Prelude.{◌≡◌, ℕ, Bool, true, false, ◌&&◌, ◌||◌, ◌==◌, List, [], ◌∷◌, IsTrue, IfSome, codes}
use Rattle.std.specs.List.{list_all}
use Rattle.std.specs.Str.{byte, str_eq_ignore_ascii_case}
use Rattle.usp_uri.specs.Letters.{is_host_byte, is_unreserved, is_sub_delim, is_one_of, is_slash}
use Rattle.usp_uri.specs.Components.{Components, text_of}
use Rattle.usp_uri.specs.Faults.{is_port, begins_with_digits}

abbrev pub is_scheme : List ℕ → Bool
is_scheme scheme = str_eq_ignore_ascii_case scheme (codes "http") || str_eq_ignore_ascii_case scheme (codes "https")

abbrev pub is_host : List ℕ → Bool
is_host [] = false
is_host (c ∷ rest) = list_all is_host_byte (c ∷ rest)

-- pchars, and bytes of these others
abbrev pub are_pchars_or : List ℕ → List ℕ → Bool
are_pchars_or others [] = true
are_pchars_or others (c ∷ rest) =
    (is_unreserved c || is_sub_delim c || is_one_of (codes ":@") c || is_one_of others c
    || (c == byte "%" && begins_with_digits rest))
    && are_pchars_or others rest

abbrev pub is_path : List ℕ → Bool
is_path [] = true
is_path (c ∷ rest) = is_slash c && are_pchars_or (codes "/") rest

abbrev pub is_query : List ℕ → Bool
is_query query = are_pchars_or (codes "/?") query

-- the components are those of a URI of this product
pub record IsUri (p : Components) : Type 0 where
  pub scheme : IsTrue (is_scheme p.scheme)
  pub host : IsTrue (is_host p.host)
  pub port : IfSome p.port (λ port. IsTrue (is_port port))
  pub path : IsTrue (is_path p.path)
  pub query : IfSome p.query (λ query. IsTrue (is_query query))

-- the text is spelled from these components
pub record Spells (p : Components) (text : List ℕ) : Type 0 where
  pub uri : IsUri p
  pub whole : text ≡ text_of p
