-- The claims and what each may be (RFC 7519 section 4.1, RFC 9246 section 2.1).
use Rattle.std.specs.Prelude.{◌≡◌, ℕ, Bool, true, ◌&&◌, ◌||◌, List, [], ◌∷◌, codes, Option}
use Rattle.std.specs.List.{All}
use Rattle.std.specs.Option.{is_some, option_map_or, option_and_then}
use Rattle.usp_base.specs.Numbers.{number_of}
use Rattle.usp_json.specs.Entries.{entries, value_of}
use Rattle.usp_json.specs.declared.value.Json.{Json}
use Rattle.usp_json.specs.declared.value.Members.{Members}
use Rattle.usp_json.specs.Scalars.{text_in, number_in}
use Rattle.usp_json.specs.Values.{is_text, is_texts, is_this, lists}
use Rattle.usp_claims.specs.declared.limits.TheConstants.{MAX_NUMBER, MAX_PERIOD}
use Rattle.usp_claims.specs.declared.table.ClaimName.{ClaimName}
use Rattle.usp_claims.specs.declared.table.ClaimName.TheVariants.{Iss, Sub, Aud, Exp, Nbf, Iat, Jti, Version, Crit, Ip, Uc, Ets, Stt, Std}
use Rattle.usp_claims.specs.declared.table.ClaimKind.{ClaimKind}
use Rattle.usp_claims.specs.declared.table.ClaimKind.TheVariants.{Any, Text, TextOrTexts, Number, Period}
use Rattle.usp_claims.specs.declared.table.Row.{Row}

-- the name in a claim set
abbrev pub name_of : ClaimName → List ℕ
name_of Iss = codes "iss"
name_of Sub = codes "sub"
name_of Aud = codes "aud"
name_of Exp = codes "exp"
name_of Nbf = codes "nbf"
name_of Iat = codes "iat"
name_of Jti = codes "jti"
name_of Version = codes "cdniv"
name_of Crit = codes "cdnicrit"
name_of Ip = codes "cdniip"
name_of Uc = codes "cdniuc"
name_of Ets = codes "cdniets"
name_of Stt = codes "cdnistt"
name_of Std = codes "cdnistd"

abbrev pub row : ClaimName → ClaimKind → Row
row name kind = record { name = name; kind = kind }

-- the table, in the order in which its rows are tried
abbrev pub rows : List Row
rows = row Iss Text ∷ row Sub Any ∷ row Aud TextOrTexts ∷ row Exp Number ∷ row Nbf Number ∷ row Iat Number
    ∷ row Jti Text ∷ row Version Number ∷ row Crit Text ∷ row Ip Any ∷ row Uc Text ∷ row Ets Period ∷ row Stt Number
    ∷ row Std Number ∷ []

-- the value of that name
abbrev pub claim : List ℕ → Members → Option Json
claim name members = value_of name (entries members)

-- the value is of that kind
abbrev pub has_kind : ClaimKind → Json → Bool
has_kind Any value = true
has_kind Text value = is_text value
has_kind TextOrTexts value = is_text value || is_texts value
has_kind Number value = is_some (number_in value)
has_kind Period value = is_some (number_in value)

-- the whole number, spelled with digits alone and at most that, that the value is
abbrev pub whole_in : ℕ → Json → Option ℕ
whole_in most value = option_and_then (number_of most) (number_in value)

-- a number and a period have limits of their own
abbrev pub in_range : ClaimKind → Json → Bool
in_range Number value = is_some (whole_in MAX_NUMBER value)
in_range Period value = is_some (whole_in MAX_PERIOD value)
in_range _ value = true

-- the row's claim is absent, or of its kind and in its range
abbrev pub fits : Members → Row → Bool
fits members of =
    option_map_or (λ value. has_kind of.kind value && in_range of.kind value) (claim (name_of of.name) members) true

-- A claim set of a signed URI: each claim that the table has is of its kind and in its range, and there is a container.
pub record IsClaimSet (members : Members) : Type 0 where
  pub fitting : All (λ each. fits members each ≡ true) rows
  pub contained : is_some (claim (name_of Uc) members) ≡ true

-- a claim as a text, and as a number
abbrev pub text_claim : List ℕ → Members → Option (List ℕ)
text_claim name members = option_and_then text_in (claim name members)

abbrev pub number_claim : List ℕ → Members → Option ℕ
number_claim name members = option_and_then (whole_in MAX_NUMBER) (claim name members)

-- the same for a period
abbrev pub period_claim : List ℕ → Members → Option ℕ
period_claim name members = option_and_then (whole_in MAX_PERIOD) (claim name members)

-- the audience is that identity, or a list that has it (RFC 7519 section 4.1.3)
abbrev pub is_audience : List ℕ → Json → Bool
is_audience identity value = is_this identity value || lists identity value
