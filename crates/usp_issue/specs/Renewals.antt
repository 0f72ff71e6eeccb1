-- A token renewed for one more period (RFC 9246 section 3).
use Rattle.std.specs.Prelude.{◌≡◌, ℕ, ◌+◌, Bool, true, false, ◌&&◌, ◌==◌, nat_le, List, length, codes, Option, Some, None, if◌then◌else◌}
use Rattle.std.specs.Fmt.{decimal}
use Rattle.std.specs.Option.{is_some, option_map, option_map_or, unwrap_or}
use Rattle.usp_claims.specs.Changes.{with_claim}
use Rattle.usp_claims.specs.Table.{claim, name_of, number_claim, period_claim}
use Rattle.usp_claims.specs.declared.table.ClaimName.{ClaimName}
use Rattle.usp_claims.specs.declared.table.ClaimName.TheVariants.{Exp, Iat, Iss}
use Rattle.usp_json.specs.Canon.{canon_members}
use Rattle.usp_json.specs.declared.value.Json.{Json}
use Rattle.usp_json.specs.declared.value.Json.TheVariants.{Num, Str}
use Rattle.usp_json.specs.declared.value.Members.{Members}
use Rattle.usp_jws.specs.Keys.{KeyValue}
use Rattle.usp_jws.specs.Letters.{is_identity}
use Rattle.usp_jws.specs.Sealed.{sealed}
use Rattle.usp_uri.specs.Segments.{segments_in}

-- that value in the place of a claim's own, where the claim is there
abbrev pub with_present : ClaimName → Json → Members → Members
with_present name value members =
    if is_some (claim (name_of name) members) then with_claim name value members else members

-- `cdnistt` is 1
abbrev pub is_renewing : Members → Bool
is_renewing members = option_map_or (λ transport. transport == 1) (number_claim (codes "cdnistt") members) false

-- the content's path has as many segments as `cdnistd` says, which is 0 where it is absent
abbrev pub is_deep_enough : Members → (content : List ℕ) → Bool
is_deep_enough members content =
    nat_le (unwrap_or (number_claim (codes "cdnistd") members) 0) (length (segments_in content))

-- the claims for one more period: `iss` and `iat` are replaced where they are there, and `exp` is the end of the
-- period, which goes last where there was none
abbrev pub for_period : Members → (moment : ℕ) → KeyValue → (period : ℕ) → Members
for_period members moment key period =
    with_claim Exp (Num (decimal (moment + period)))
    (with_present Iat (Num (decimal moment)) (with_present Iss (Str key.issuer) members))

-- The claims that are renewed with a key after a use of them for a content at a moment. None where `cdnistt` is not 1,
-- where the path is not deep enough, and where there is no `cdniets`.
abbrev pub renew : Members → (content : List ℕ) → (moment : ℕ) → KeyValue → Option Members
renew members content moment key =
    if is_renewing members && is_deep_enough members content
    then option_map (λ period. for_period members moment key period) (period_claim (codes "cdniets") members) else None

-- The token is these claims, renewed and sealed with the key, whose issuer is an identity as that of each key.
pub record IsRenewed (members : Members) (content : List ℕ) (moment : ℕ) (key : KeyValue)
    (token : List ℕ) : Type 0 where
  pub issuer : is_identity key.issuer ≡ true
  pub claims : Members
  pub renewed : renew members content moment key ≡ Some claims
  pub text : token ≡ sealed key (canon_members claims)

-- the renewed token, and none exactly where the claims are not renewed
abbrev pub Renews : Members → (content : List ℕ) → (moment : ℕ) → KeyValue → Option (List ℕ) → Type 0
Renews members content moment key None = renew members content moment key ≡ None
Renews members content moment key (Some token) = IsRenewed members content moment key token
