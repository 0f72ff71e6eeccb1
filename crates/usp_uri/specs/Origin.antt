-- A place: a scheme and an authority in normal form, where a URI may be moved to.
use Rattle.std.specs.Prelude.{◌≡◌, ℕ, Bool, List, [], ◌∷◌, ◌++◌, length, Option, Some, None, Result, Ok, Err, codes, nat_lt, if◌then◌else◌, not}
use Rattle.usp_uri.specs.declared.fault.UriFault.{UriFault}
use Rattle.usp_uri.specs.declared.fault.UriFault.TheVariants as fault
use Rattle.usp_uri.specs.declared.limits.TheConstants.{MAX_LEN}
use Rattle.usp_uri.specs.Letters.{is_one_of, is_slash}
use Rattle.usp_uri.specs.Delimited.{first_outside}
use Rattle.usp_uri.specs.Components.{scheme_in, authority_in, after_authority, authority_start, after_scheme}
use Rattle.usp_uri.specs.Faults.{normal_of}

pub record Origin : Type 0 where
  pub scheme : List ℕ
  pub authority : List ℕ

-- the one text of which the place is read
abbrev pub origin_text : List ℕ → List ℕ → List ℕ
origin_text scheme authority = scheme ++ (codes "://" ++ authority)

-- the URI of the place itself, whose path is "/"
abbrev pub root_of : Origin → List ℕ
root_of place = origin_text place.scheme place.authority ++ codes "/"

-- the scheme and the authority are those of a URI in normal form
pub record IsNormalOrigin (place : Origin) : Type 0 where
  pub normal : normal_of (root_of place) ≡ Ok (root_of place)
  pub scheme : scheme_in (root_of place) ≡ place.scheme
  pub authority : authority_in (root_of place) ≡ place.authority

abbrev pub is_no_path_byte : ℕ → Bool
is_no_path_byte c = not (is_one_of (codes "/?") c)

abbrev pub origin_when : Option ℕ → List ℕ → Result Origin UriFault
origin_when (Some at) normal = Err (fault.Syntax at)
origin_when None normal = Ok (record { scheme = scheme_in normal; authority = authority_in normal })

abbrev pub origin_from : List ℕ → Result (List ℕ) UriFault → Result Origin UriFault
origin_from text (Err found) = Err found
origin_from text (Ok normal) =
    origin_when (first_outside is_no_path_byte (authority_start text) (after_scheme text)) normal

-- The place of a text: refused as the text is, or at the first '/' or '?' behind its "://".
unfoldable pub origin_of : List ℕ → Result Origin UriFault
origin_of text = origin_from text (normal_of text)

-- the URI's path and query at the place
abbrev pub moved_text : List ℕ → Origin → List ℕ
moved_text uri place = origin_text place.scheme place.authority ++ after_authority uri

abbrev pub moved_of : List ℕ → Origin → Result (List ℕ) UriFault
moved_of uri place =
    if nat_lt MAX_LEN (length (moved_text uri place)) then Err fault.TooLong else Ok (moved_text uri place)

-- the URI that a request line and a host make: the target alone where it does not begin with '/'
abbrev pub request_text : List ℕ → List ℕ → List ℕ → List ℕ
request_text scheme host [] = []
request_text scheme host (c ∷ rest) = if is_slash c then origin_text scheme host ++ (c ∷ rest) else c ∷ rest
