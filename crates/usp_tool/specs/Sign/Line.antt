-- A line of `sign`: a URI and claims, and what is signed for them.
use Rattle.std.specs.Prelude.{◌≡◌, ℕ, ◌≤◌, Bool, false, List, ◌++◌, length, codes, Some, Ok, if◌then◌else◌}
use Rattle.std.specs.Option.{option_map_or}
use Rattle.std.specs.Str.{bytes_eq}
use Rattle.usp_base.specs.Cuts.{cut_at}
use Rattle.usp_claims.specs.Changes.{with_claim}
use Rattle.usp_claims.specs.Table.{text_claim}
use Rattle.usp_claims.specs.declared.table.ClaimName.TheVariants.{Uc}
use Rattle.usp_json.specs.Canon.{canon_members}
use Rattle.usp_json.specs.declared.value.Json.TheVariants.{Str}
use Rattle.usp_json.specs.declared.value.Members.{Members}
use Rattle.usp_jws.specs.Keys.{KeyValue}
use Rattle.usp_jws.specs.Sealed.{sealed}
use Rattle.usp_package.specs.Package.{embedded, nothing, package_of}
use Rattle.usp_rules.specs.Segment.{segment_of}
use Rattle.usp_rules.specs.Tokens.{SpellsClaims}
use Rattle.usp_tool.specs.Check.Line.{space}
use Rattle.usp_uri.specs.Components.{query_in}
use Rattle.usp_uri.specs.Faults.{normal_of}
use Rattle.usp_uri.specs.declared.limits.TheConstants.{MAX_LEN}

-- the container is `hash:` alone
abbrev pub is_open : Members → Bool
is_open members =
    option_map_or (λ container. bytes_eq container (codes "hash:"))
    (text_claim (codes "cdniuc") members) false

-- the claims that are sealed: a container that is `hash:` alone gets the segment of the URI
abbrev pub claims_for : List ℕ → Members → Members
claims_for uri members =
    if is_open members then with_claim Uc (Str (codes "hash:" ++ segment_of uri)) members
    else members

abbrev pub payload_for : List ℕ → Members → List ℕ
payload_for uri members = canon_members (claims_for uri members)

abbrev pub signed_uri : List ℕ → KeyValue → List ℕ → Members → List ℕ
signed_uri attribute key uri members =
    embedded attribute uri (query_in uri) (sealed key (payload_for uri members))

-- A line is a URI, a space and claims. What is signed for it is the normal form of the URI, which has no package,
-- with the sealed claims as its package, no longer than a URI may be.
pub record SignsLine (attribute : List ℕ) (key : KeyValue) (line text : List ℕ) : Type 0 where
  pub typed : List ℕ
  pub claims : List ℕ
  pub uri : List ℕ
  pub members : Members
  pub cut : cut_at space line ≡ Some (typed, claims)
  pub normal : normal_of typed ≡ Ok uri
  pub bare : package_of attribute uri ≡ nothing
  pub spells : SpellsClaims claims members
  pub signed : text ≡ signed_uri attribute key uri members
  pub short : length text ≤ MAX_LEN
