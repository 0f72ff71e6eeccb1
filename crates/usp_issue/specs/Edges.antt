-- What lets an edge admit a content by a token that is sealed with a key.
use Rattle.std.specs.Prelude.{◌≡◌, ℕ, true, List, Some, None, slice_get}
use Rattle.usp_json.specs.declared.value.Members.{Members}
use Rattle.usp_jws.specs.Keys.{KeyValue, first_repeat}
use Rattle.usp_jws.specs.Letters.{has_identity, is_kid}
use Rattle.usp_rules.specs.Constraints.{is_begun, is_critical_met, is_unexpired}
use Rattle.usp_rules.specs.declared.profile.Profile.{Profile}

-- The edge knows the key: it is one of its ring, whose keys have names that are apart, and its issuer is accepted.
pub record Knows (profile : Profile) (key : KeyValue) : Type 0 where
  pub place : ℕ
  pub there : slice_get profile.ring place ≡ Some key
  pub apart : first_repeat profile.ring ≡ None
  pub named : is_kid key.kid ≡ true
  pub issuer : has_identity profile.issuers key.issuer ≡ true

-- The moment is in the window of the claims, and the edge understands what they call critical.
pub record AreUsable (profile : Profile) (claims : Members) (content : List ℕ) (moment : ℕ) : Type 0 where
  pub begun : is_begun moment claims ≡ true
  pub unexpired : is_unexpired moment claims ≡ true
  pub critical : is_critical_met profile.extensions (Some content) claims ≡ true
