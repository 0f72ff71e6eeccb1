-- What the claims of a verified token want, rule by rule (RFC 9246 sections 2.1 and 3, RFC 7519 section 4.1). A
-- claim that is absent wants nothing.
use Rattle.std.specs.Prelude.{◌≡◌, ℕ, Bool, true, not, ◌&&◌, ◌||◌, ◌==◌, nat_le, nat_lt, List, [], codes, Option, Some}
use Rattle.std.specs.List.{list_any}
use Rattle.std.specs.Option.{is_some, option_map_or}
use Rattle.std.specs.Str.{bytes_eq}
use Rattle.usp_claims.specs.Table.{claim, is_audience, number_claim, text_claim}
use Rattle.usp_ext.specs.declared.kinds.Extension.{Extension}
use Rattle.usp_json.specs.declared.value.Members.{Members}
use Rattle.usp_jws.specs.Letters.{has_identity}
use Rattle.usp_rules.specs.Containers.{Meets}
use Rattle.usp_rules.specs.Critical.{are_understood, names_in}
use Rattle.usp_uri.specs.Components.{path_in}

-- Version: `cdniv` is 1
abbrev pub is_version_1 : Members → Bool
is_version_1 members =
    option_map_or (λ version. version == 1) (number_claim (codes "cdniv") members) true

-- the content's path, empty where there is no content
abbrev pub path_of : Option (List ℕ) → List ℕ
path_of content = option_map_or path_in content []

-- Critical: each name in `cdnicrit` is understood
abbrev pub is_critical_met : List Extension → Option (List ℕ) → Members → Bool
is_critical_met extensions content members =
    option_map_or (λ text. are_understood extensions (path_of content) members (names_in text))
    (text_claim (codes "cdnicrit") members) true

-- Encrypted: neither `sub` nor `cdniip` is there, since both are encrypted
abbrev pub is_plain : Members → Bool
is_plain members =
    not (is_some (claim (codes "sub") members) || is_some (claim (codes "cdniip") members))

-- Issuer: `iss` is one of the issuers, and the issuer of the key that verifies
abbrev pub is_issued : List (List ℕ) → List ℕ → Members → Bool
is_issued issuers issuer members =
    option_map_or (λ iss. has_identity issuers iss && bytes_eq issuer iss)
    (text_claim (codes "iss") members) true

-- Audience: `aud` is one of the identities, or lists one
abbrev pub is_for : List (List ℕ) → Members → Bool
is_for audience members =
    option_map_or (λ aud. list_any (λ identity. is_audience identity aud) audience)
    (claim (codes "aud") members) true

-- NotBefore: the moment has reached `nbf`
abbrev pub is_begun : ℕ → Members → Bool
is_begun moment members =
    option_map_or (λ nbf. nat_le nbf moment) (number_claim (codes "nbf") members) true

-- Expired: the moment has not reached `exp`
abbrev pub is_unexpired : ℕ → Members → Bool
is_unexpired moment members =
    option_map_or (λ exp. nat_lt moment exp) (number_claim (codes "exp") members) true

-- Renewal: `cdnistt` is 0, or it is 1 and `cdniets` is there
abbrev pub is_renewable : Members → Bool
is_renewable members =
    option_map_or (λ transport. transport == 0
    || (transport == 1 && is_some (claim (codes "cdniets") members)))
    (number_claim (codes "cdnistt") members) true

-- Container: there is a content, and `cdniuc` meets it
pub record IsContained (content : Option (List ℕ)) (members : Members) : Type 0 where
  pub uri : List ℕ
  pub container : List ℕ
  pub there : content ≡ Some uri
  pub claimed : text_claim (codes "cdniuc") members ≡ Some container
  pub meets : Meets container uri
